-- Each TIME that waits tells when it was due.
use Rattle.std.proofs.Common.{◌≡◌, ℕ, suc, ◌+◌, Bool, true, false, List, [], ◌∷◌, ◌++◌, Option, Some, None, All}
use Rattle.std.proofs.Common.{refl, sym, ap, subst, arith}
use Rattle.std.specs.Prelude.{◌||◌, drop, if◌then◌else◌, remove, take}
use Rattle.std.specs.List.{AllByRecursion, AllZip}
use Rattle.std.proofs.lemmas.List.Elements.{All-append, All-cons, All-drop, All-filter, All-head, All-nil, All-tail, All-take}
use Rattle.std.proofs.lemmas.List.Elements.{All-weaker}
use Rattle.base.specs.Moments.{is_due}
use Rattle.can_frame.specs.ErrorControl.{boot_up_message}
use Rattle.can_frame.specs.Frames.{BaseFrame}
use Rattle.can_frame.specs.WaitingFrames.{is_same, waiting, with_latest, without_unwanted}
use Rattle.can_frame.specs.declared.purpose.Purpose.{Purpose}
use Rattle.can_frame.specs.declared.purpose.Purpose.TheVariants as purpose
use Rattle.can_frame.specs.declared.unwanted.Unwanted.TheVariants.{SdoOf}
use Rattle.can_frame.specs.declared.waiting.Waiting.{Waiting}
use Rattle.co_scenario.specs.declared.nmt_command.NmtCommand.{NmtCommand}
use Rattle.image_parts.specs.Asking.{outcome}
use Rattle.image_parts.specs.Contents.{Image}
use Rattle.image_parts.specs.Rosters.{has_controller}
use Rattle.image_parts.specs.declared.roster.Roster.{Roster}
use Rattle.image_parts.specs.declared.start_mode.StartMode.{StartMode}
use Rattle.image_parts.specs.declared.start_mode.StartMode.TheVariants.{ConfiguredNodes, EachNode, WholeNetwork}
use Rattle.manager_nodes.specs.Table.{has_booted, is_own, node_at, queue_after_time_outs, sdo_frames, timed_out, with_stage}
use Rattle.manager_nodes.specs.declared.booting.Booting.{Booting}
use Rattle.node_boot.specs.Boot.{sdo_time_out}
use Rattle.node_boot.specs.declared.boot_step.BootStep.{BootStep}
use Rattle.node_boot.specs.declared.note_kind.NoteKind.{NoteKind}
use Rattle.node_boot.specs.declared.note_kind.NoteKind.TheVariants as kind
use Rattle.nmt_boot.proofs.BeatLemmas.{due_at}
use Rattle.nmt_boot.proofs.FrameLemmas.{received_holds}
use Rattle.nmt_boot.specs.Beats.{HasNumbersOf, IsMultiple, IsOnTime, IsTimed}
use Rattle.nmt_boot.specs.Manager.{Manager, after_frame, after_step, manager_at_power_on, time_outs, timers, with_command}
use Rattle.nmt_boot.specs.Periodic.{frame_of, messages_of, period_of, purpose_of, queue_after, queue_after_one}
use Rattle.nmt_boot.specs.Stamps.{IsStampBefore, TellsWhenDue}
use Rattle.nmt_boot.specs.Startup.{Startup, frames_of_configured, network_start_frames, start_frames, start_of, starts_each}
use Rattle.nmt_boot.specs.Startup.{own_start, starts_network, starts_with_network}
use Rattle.nmt_boot.specs.TimeOfDay.{time_frame}
use Rattle.nmt_boot.specs.declared.periodic.Periodic.{Periodic}
use Rattle.nmt_boot.specs.declared.periodic_message.PeriodicMessage.{PeriodicMessage}
use Rattle.nmt_boot.specs.declared.periodic_message.PeriodicMessage.TheVariants as periodic

module _ (network : Roster) (t : ℕ) where
  abbrev Tells : Waiting → Type 0
  Tells w = w.purpose ≡ purpose.Time → IsStampBefore network t w.frame

  abbrev AllTell : List Waiting → Type 0
  AllTell ws = All Tells ws

  one : (w : Waiting) → Tells w → AllTell (w ∷ [])
  one w h = All-cons Tells w [] h (All-nil Tells)

  more : (xs ys : List Waiting) → AllTell xs → AllTell ys → AllTell (xs ++ ys)
  more xs ys h k = All-append Tells xs ys h k

  -- no SDO frame and no command is a time stamp
  request_is_none : (node : ℕ) (frame : BaseFrame) → Tells (waiting (purpose.Sdo node) frame)
  request_is_none node frame e = cc

  command_is_none : (frame : BaseFrame) → Tells (waiting purpose.Nmt frame)
  command_is_none frame e = cc

  requests_tell : (node : ℕ) (r : Option (List ℕ)) → AllTell (sdo_frames node r)
  requests_tell node None = All-nil Tells
  requests_tell node (Some bytes) = one _ (request_is_none node _)

  configured_tell : (nodes : List Booting) → AllTell (starts_with_network nodes)
  configured_tell [] = All-nil Tells
  configured_tell (node ∷ nodes) = by (has_booted node.stage || is_own node.stage) (configured_tell nodes)
    where
      by : (b : Bool) → AllTell (starts_with_network nodes)
          → AllTell ((if b then start_of node.number else []) ++ starts_with_network nodes)
      by true rest = more (start_of node.number) (starts_with_network nodes) (one _ (command_is_none _)) rest
      by false rest = rest

  network_tell : (mode : StartMode) (nodes : List Booting) → AllTell (network_start_frames mode nodes)
  network_tell EachNode nodes = All-nil Tells
  network_tell WholeNetwork nodes = one _ (command_is_none _)
  network_tell ConfiguredNodes nodes = configured_tell nodes

  own_tells : (startup : Startup) (node : ℕ) → AllTell (own_start startup node)
  unfolding own_start
  own_tells startup node = by startup.is_started
    where
      by : (b : Bool) → AllTell (if b then start_of node else [])
      by true = one _ (command_is_none _)
      by false = All-nil Tells

  starts_tell : (startup : Startup) (nodes : List Booting) (node : ℕ) (note : Option NoteKind)
      → AllTell (start_frames startup nodes node note)
  unfolding frames_of_configured
  starts_tell startup nodes node None = All-nil Tells
  starts_tell startup nodes node (Some kind.Lost) = All-nil Tells
  starts_tell startup nodes node (Some kind.Configured) = by (starts_each startup) (starts_network startup nodes)
    where
      by : (b c : Bool) → AllTell (if b then start_of node
          else if c then network_start_frames startup.mode nodes else [])
      by true c = one _ (command_is_none _)
      by false true = network_tell startup.mode nodes
      by false false = All-nil Tells
  starts_tell startup nodes node (Some kind.Difference) = All-nil Tells
  starts_tell startup nodes node (Some (kind.Aborted abort)) = All-nil Tells
  starts_tell startup nodes node (Some kind.TimedOut) = All-nil Tells

  step_tells : (startup : Startup) (nodes : List Booting) (node : ℕ) (step : BootStep) (ws : List Waiting) → AllTell ws
      → AllTell ((ws ++ sdo_frames node step.request) ++ start_frames startup nodes node step.note)
  step_tells startup nodes node step ws h =
      more (ws ++ sdo_frames node step.request) (start_frames startup nodes node step.note)
      (more ws (sdo_frames node step.request) h (requests_tell node step.request))
      (starts_tell startup nodes node step.note)

  dropped_tell : (node : ℕ) (ws : List Waiting) → AllTell ws → AllTell (without_unwanted (SdoOf node) ws)
  dropped_tell node ws h = All-filter _ Tells ws h

  outs_tell : (nodes : List Booting) (ws : List Waiting) → AllTell ws → AllTell (queue_after_time_outs nodes ws)
  outs_tell [] ws h = h
  outs_tell (b ∷ nodes) ws h =
      let request = (sdo_time_out b.stage).request in
      outs_tell nodes (without_unwanted (SdoOf b.number) ws ++ sdo_frames b.number request)
      (more (without_unwanted (SdoOf b.number) ws) (sdo_frames b.number request) (dropped_tell b.number ws h)
      (requests_tell b.number request))

  latest_tells : (own : Purpose) (frame : BaseFrame) → Tells (waiting own frame) → (ws : List Waiting) → AllTell ws
      → AllTell (with_latest own frame ws)
  latest_tells own frame is [] h = one (waiting own frame) is
  latest_tells own frame is (w ∷ ws) h =
      by (latest_tells own frame is ws (All-tail Tells w ws h)) (is_same w.purpose own)
    where
      by : AllTell (with_latest own frame ws) → (b : Bool)
          → AllTell (if b then waiting own frame ∷ ws else w ∷ with_latest own frame ws)
      by rest true = All-cons Tells (waiting own frame) ws is (All-tail Tells w ws h)
      by rest false = All-cons Tells w (with_latest own frame ws) (All-head Tells w ws h) rest

  removed_tell : (ws : List Waiting) (place : ℕ) → AllTell ws → AllTell (remove ws place)
  removed_tell ws place h =
      more (take place ws) (drop (suc place) ws) (All-take Tells place ws h) (All-drop Tells (suc place) ws h)

-- ---- what is due

module _ (network : Roster) (t number : ℕ) where
  its_frame : (m : PeriodicMessage) (period : ℕ) → HasNumbersOf network m → IsMultiple t (period_of network m)
      → Tells network (t + 1) (waiting (purpose_of m) (frame_of number t period m))
  unfolding frame_of
  its_frame periodic.Heartbeat period has at e = cc
  its_frame (periodic.Time first_day) period has at e = record {
    moment = t;
    earlier = omega arith;
    due = at;
    tells = ap (λ (day : ℕ). time_frame day t) has;
  }
  its_frame (periodic.Sync last) period has at e = cc

  one_tells : (m : PeriodicMessage) (p : Periodic) → HasNumbersOf network m → IsTimed network t m p → (ws : List Waiting)
      → AllTell network (t + 1) ws → AllTell network (t + 1) (queue_after_one t number p ws)
  one_tells m p has h ws tell = by (is_due t p.next) refl
    where
      by : (b : Bool) → is_due t p.next ≡ b
          → AllTell network (t + 1) (if b
          then with_latest (purpose_of p.message) (frame_of number t p.period p.message) ws else ws)
      by true e =
          latest_tells network (t + 1) (purpose_of p.message) (frame_of number t p.period p.message)
          (subst (λ (x : PeriodicMessage). Tells network (t + 1) (waiting (purpose_of x) (frame_of number t p.period x)))
          (sym h.message) (its_frame m p.period has ((due_at network t m p h).0 e))) ws tell
      by false e = tell

  queue_tells : (ms : List PeriodicMessage) (ps : List Periodic) → AllByRecursion (HasNumbersOf network) ms
      → AllZip (IsTimed network t) ms ps → (ws : List Waiting) → AllTell network (t + 1) ws
      → AllTell network (t + 1) (queue_after t number ps ws)
  queue_tells [] [] has h ws tell = tell
  queue_tells [] (p ∷ ps) has h ws tell = absurd h
  queue_tells (m ∷ ms) [] has h ws tell = absurd h
  queue_tells (m ∷ ms) (p ∷ ps) has h ws tell =
      queue_tells ms ps has.1 h.1 (queue_after_one t number p ws) (one_tells m p has.0 h.0 ws tell)

-- ---- the manager

later : (network : Roster) (t : ℕ) (ws : List Waiting) → AllTell network t ws → AllTell network (t + 1) ws
later network t ws h = All-weaker (Tells network t) (Tells network (t + 1)) still ws h
  where
    still : (w : Waiting) → Tells network t w → Tells network (t + 1) w
    still w tells e =
        let stamp : IsStampBefore network t w.frame = tells e in
        record {
          moment = stamp.moment;
          earlier = let before = stamp.earlier in omega (arith, before);
          due = stamp.due;
          tells = stamp.tells;
        }

module _ (network : Roster) where
  pub first_tells : TellsWhenDue network 0 (manager_at_power_on network)
  unfolding manager_at_power_on
  first_tells = by (has_controller network)
    where
      by : (b : Bool)
          → AllTell network 0 (if b then [] else waiting purpose.BootUp (boot_up_message network.manager) ∷ [])
      by true = All-nil (Tells network 0)
      by false = one network 0 _ (λ e. cc)

  pub command_tells : (t : ℕ) (command : NmtCommand) (node : ℕ) (m : Manager) → TellsWhenDue network t m
      → TellsWhenDue network t (with_command command node m)
  command_tells t command node m h = more network t m.waiting _ h (one network t _ (command_is_none network t _))

  pub sent_tells : (t place : ℕ) (m : Manager) → TellsWhenDue network t m
      → TellsWhenDue network t (record m { waiting = remove m.waiting place })
  sent_tells t place m h = removed_tell network t m.waiting place h

  stepped_tells : (t : ℕ) (m : Manager) (k : ℕ) (step : BootStep) (ws : List Waiting) → AllTell network t ws
      → TellsWhenDue network t (after_step k step (record m { waiting = ws })).0
  stepped_tells t m k step ws h =
      step_tells network t m.startup (with_stage m.nodes k step.stage) (node_at m.nodes k).number step ws h

  pub frame_tells : (image : Image) (t : ℕ) (frame : BaseFrame) (m : Manager) → TellsWhenDue network t m
      → TellsWhenDue network t (outcome (after_frame t frame m) image).0
  frame_tells image t frame m h =
      received_holds image t frame m (λ r read. TellsWhenDue network t r.0) h
      (λ i e o. more network t m.waiting _ h (own_tells network t m.startup (node_at m.nodes i).number))
      (λ i e o. stepped_tells t m i _ _ (dropped_tell network t (node_at m.nodes i).number m.waiting h))
      (λ i e. stepped_tells t m i _ m.waiting h)

  pub timers_tell : (t : ℕ) (m : Manager) → IsOnTime network t m → TellsWhenDue network t m
      → TellsWhenDue network (t + 1) (timers t m).0
  unfolding timers time_outs
  timers_tell t m on h =
      queue_tells network t m.number (messages_of network) m.periodic (tt, (refl, (refl, tt))) on _
      (outs_tell network (t + 1) (timed_out t m.nodes) m.waiting (later network t m.waiting h))
