-- The frames of the manager are its own, and it keeps its number and those of its nodes.
use Rattle.std.proofs.Common.{◌≡◌, ℕ, zero, suc, ◌+◌, ◌<◌, Bool, true, false, List, [], ◌∷◌, ◌++◌, length, map, Option}
use Rattle.std.proofs.Common.{◌≢◌, Some, None, refl, sym, ap, ◌∙◌, subst, All}
use Rattle.std.specs.Prelude.{◌==◌, ◌||◌, drop, if◌then◌else◌, remove, slice_set, take}
use Rattle.std.specs.List.{AllByRecursion}
use Rattle.std.proofs.lemmas.List.Elements.{All-append, All-cons, All-filter, All-from_recursion, All-get_or, All-head}
use Rattle.std.proofs.lemmas.List.Elements.{All-drop, All-nil, All-tail, All-take, recursion_from_All}
use Rattle.std.proofs.lemmas.List.Quantifiers.{position-Some}
use Rattle.image_parts.specs.Asking.{outcome}
use Rattle.can_frame.specs.ErrorControl.{boot_up_message}
use Rattle.can_frame.specs.Frames.{BaseFrame}
use Rattle.can_frame.specs.Identifiers.{error_control_id, sdo_answer_id}
use Rattle.can_frame.specs.WaitingFrames.{is_same, is_unwanted, waiting, with_latest, without_unwanted}
use Rattle.can_frame.specs.declared.purpose.Purpose.{Purpose}
use Rattle.can_frame.specs.declared.purpose.Purpose.TheVariants.{BootUp, Emergency, Nmt, Sdo, Tpdo}
use Rattle.can_frame.specs.declared.purpose.Purpose.TheVariants as purpose
use Rattle.can_frame.specs.declared.unwanted.Unwanted.{Unwanted}
use Rattle.can_frame.specs.declared.unwanted.Unwanted.TheVariants.{SdoOf}
use Rattle.can_frame.specs.declared.waiting.Waiting.{Waiting}
use Rattle.image_parts.specs.Contents.{Image}
use Rattle.image_parts.specs.Rosters.{has_controller, is_among}
use Rattle.image_parts.specs.declared.roster.Roster.{Roster}
use Rattle.co_scenario.specs.declared.nmt_command.NmtCommand.{NmtCommand}
use Rattle.node_boot.specs.Boot.{is_timed_out, sdo_time_out}
use Rattle.node_boot.specs.declared.boot_stage.BootStage.{BootStage}
use Rattle.node_boot.specs.declared.boot_stage.BootStage.TheVariants.{Own}
use Rattle.node_boot.specs.declared.boot_step.BootStep.{BootStep}
use Rattle.node_boot.specs.declared.note_kind.NoteKind.{NoteKind}
use Rattle.node_boot.specs.declared.note_kind.NoteKind.TheVariants as kind
use Rattle.nmt_boot.proofs.FrameLemmas.{received_holds}
use Rattle.nmt_boot.proofs.PeriodicLemmas.{queue_has}
use Rattle.nmt_boot.specs.Manager.{Manager, after_frame, after_step, first_waiting, manager_at_power_on, time_outs, timers}
use Rattle.nmt_boot.specs.Periodic.{frame_of, purpose_of, sync_frame}
use Rattle.nmt_boot.specs.TimeOfDay.{time_frame}
use Rattle.nmt_boot.specs.declared.periodic_message.PeriodicMessage.{PeriodicMessage}
use Rattle.nmt_boot.specs.declared.periodic_message.PeriodicMessage.TheVariants.{Heartbeat, Time, Sync}
use Rattle.manager_nodes.specs.Table.{has_booted, is_from}
use Rattle.manager_nodes.specs.Table.{no_node, node_after, node_at, place_of, queue_after_time_out, queue_after_time_outs}
use Rattle.image_parts.specs.declared.start_mode.StartMode.{StartMode}
use Rattle.image_parts.specs.declared.start_mode.StartMode.TheVariants.{ConfiguredNodes, EachNode, WholeNetwork}
use Rattle.nmt_boot.specs.Startup.{Startup, frames_of_configured, network_start_frames, start_frames, start_of, starts_each}
use Rattle.nmt_boot.specs.Startup.{own_start, starts_network, starts_with_network}
use Rattle.manager_nodes.specs.Table.{first_node, is_own, sdo_frames, timed_out, unseen_node}
use Rattle.nmt_boot.specs.Manager.{with_command}
use Rattle.manager_nodes.specs.Table.{with_stage}
use Rattle.manager_nodes.specs.declared.booting.Booting.{Booting}
use Rattle.network_laws.specs.Requests.{AreOthers, HasManagerFrames, IsManagersFrame, StaysManager, numbers_of, requests_to}
use Rattle.network_laws.proofs.OwnStageLemmas.{answered_still, boots_other, failed_other, own_unasked, timed_other}
use Rattle.network_laws.proofs.WaitingLemmas.{number_differs, number_itself, number_other}
use Rattle.cia301.specs.Limits.{IsNodeNumber}

-- ---- the table

stage_set : (nodes : List Booting) (k : ℕ) (stage : BootStage)
    → numbers_of (slice_set nodes k (record (node_at nodes k) { stage = stage })) ≡ numbers_of nodes
stage_set [] k stage = refl
stage_set (b ∷ nodes) zero stage = refl
stage_set (b ∷ nodes) (suc k) stage = ap (λ (ns : List ℕ). b.number ∷ ns) (stage_set nodes k stage)

later_number : (t : ℕ) (b : Booting) → (node_after t b).number ≡ b.number
later_number t b = by (is_timed_out t b.stage)
  where
    by : (x : Bool) → (if x then record b { stage = (sdo_time_out b.stage).stage } else b).number ≡ b.number
    by true = refl
    by false = refl

later_numbers : (t : ℕ) (nodes : List Booting) → numbers_of (map (node_after t) nodes) ≡ numbers_of nodes
later_numbers t [] = refl
later_numbers t (b ∷ nodes) =
    ap (λ (x : ℕ). x ∷ numbers_of (map (node_after t) nodes)) (later_number t b)
    ∙ ap (λ (ns : List ℕ). b.number ∷ ns) (later_numbers t nodes)

-- what holds of the numbers of a table holds of a table with the same numbers
abbrev AreNumbered : List Booting → Type 0
AreNumbered nodes = All (λ (b : Booting). IsNodeNumber b.number) nodes

of_numbers : (nodes : List Booting) → AllByRecursion IsNodeNumber (numbers_of nodes)
    → AllByRecursion (λ (b : Booting). IsNodeNumber b.number) nodes
of_numbers [] h = tt
of_numbers (b ∷ nodes) h = (h.0, of_numbers nodes h.1)

to_numbers : (nodes : List Booting) → AllByRecursion (λ (b : Booting). IsNodeNumber b.number) nodes
    → AllByRecursion IsNodeNumber (numbers_of nodes)
to_numbers [] h = tt
to_numbers (b ∷ nodes) h = (h.0, to_numbers nodes h.1)

renumbered : (before after : List Booting) → numbers_of after ≡ numbers_of before → AreNumbered before
    → AreNumbered after
renumbered before after e h =
    All-from_recursion (λ (b : Booting). IsNodeNumber b.number) after
    (of_numbers after (subst (AllByRecursion IsNodeNumber) (sym e)
    (to_numbers before (recursion_from_All (λ (b : Booting). IsNodeNumber b.number) before h))))

-- ---- the manager's own node

module _ (number : ℕ) where
  abbrev IsKnown : Booting → Type 0
  IsKnown b = is_own b.stage ≡ (b.number == number)

  set_known : (nodes : List Booting) (k : ℕ) (stage : BootStage) → is_own stage ≡ is_own (node_at nodes k).stage
      → AllByRecursion IsKnown nodes → AllByRecursion IsKnown (with_stage nodes k stage)
  set_known [] k stage e h = h
  set_known (b ∷ nodes) zero stage e h = (e ∙ h.0, h.1)
  set_known (b ∷ nodes) (suc k) stage e h = (h.0, set_known nodes k stage e h.1)

  one_later : (t : ℕ) (b : Booting) → IsKnown b → IsKnown (node_after t b)
  one_later t b h = by (is_timed_out t b.stage) refl
    where
      by : (x : Bool) → is_timed_out t b.stage ≡ x
          → IsKnown (if x then record b { stage = (sdo_time_out b.stage).stage } else b)
      by true e = failed_other b.stage ∙ sym (timed_other t b.stage e) ∙ h
      by false e = h

  later_known : (t : ℕ) (nodes : List Booting) → AllByRecursion IsKnown nodes
      → AllByRecursion IsKnown (map (node_after t) nodes)
  later_known t [] h = h
  later_known t (b ∷ nodes) h = (one_later t b h.0, later_known t nodes h.1)

  other_is : (b : Booting) → IsKnown b → is_own b.stage ≡ false → b.number ≢ number
  other_is b h e = number_differs b.number number (sym h ∙ e)

  itself_is : (b : Booting) → IsKnown b → b.number ≡ number → is_own b.stage ≡ true
  itself_is b h e = h ∙ ap (λ x. x == number) e ∙ number_itself number

module _ (m : Manager) (h : HasManagerFrames m) (k : ℕ) (within : k < length m.nodes) where
  pub known_at : is_own (node_at m.nodes k).stage ≡ ((node_at m.nodes k).number == m.number)
  known_at = All-get_or (IsKnown m.number) m.nodes k no_node within h.own

  pub other_at : is_own (node_at m.nodes k).stage ≡ false → (node_at m.nodes k).number ≢ m.number
  other_at e = other_is m.number (node_at m.nodes k) known_at e

  pub itself_at : (node_at m.nodes k).number ≡ m.number → is_own (node_at m.nodes k).stage ≡ true
  itself_at e = itself_is m.number (node_at m.nodes k) known_at e

-- ---- the frames

module _ (number : ℕ) (numbers : List ℕ) where
  abbrev IsOwn : Waiting → Type 0
  IsOwn w = IsManagersFrame number numbers w.purpose w.frame

  -- there is no request to the manager's own node
  abbrev Fits : ℕ → Option (List ℕ) → Type 0
  Fits node r = node ≡ number → r ≡ None

  abbrev AreOwn : List Waiting → Type 0
  AreOwn ws = All IsOwn ws

  one : (w : Waiting) → IsOwn w → AreOwn (w ∷ [])
  one w h = All-cons IsOwn w [] h (All-nil IsOwn)

  more : (xs ys : List Waiting) → AreOwn xs → AreOwn ys → AreOwn (xs ++ ys)
  more xs ys h k = All-append IsOwn xs ys h k

  requests_own : (node : ℕ) → IsNodeNumber node → (r : Option (List ℕ)) → Fits node r → AreOwn (sdo_frames node r)
  requests_own node is None fits = All-nil IsOwn
  requests_own node is (Some bytes) fits = one _ (is, (λ same. not_none (fits same), refl))
    where
      not_none : Some bytes ≡ None → ⊥
      not_none e = cc

  configured_own : (nodes : List Booting) → AreOwn (starts_with_network nodes)
  configured_own [] = All-nil IsOwn
  configured_own (node ∷ nodes) = by (has_booted node.stage || is_own node.stage) (configured_own nodes)
    where
      by : (b : Bool) → AreOwn (starts_with_network nodes)
          → AreOwn ((if b then start_of node.number else []) ++ starts_with_network nodes)
      by true rest = more (start_of node.number) (starts_with_network nodes) (one _ refl) rest
      by false rest = rest

  network_own : (mode : StartMode) (nodes : List Booting) → AreOwn (network_start_frames mode nodes)
  network_own EachNode nodes = All-nil IsOwn
  network_own WholeNetwork nodes = one _ refl
  network_own ConfiguredNodes nodes = configured_own nodes

  start_owns : (startup : Startup) (node : ℕ) → AreOwn (own_start startup node)
  unfolding own_start
  start_owns startup node = by startup.is_started
    where
      by : (b : Bool) → AreOwn (if b then start_of node else [])
      by true = one _ refl
      by false = All-nil IsOwn

  starts_own : (startup : Startup) (nodes : List Booting) (node : ℕ) (note : Option NoteKind)
      → AreOwn (start_frames startup nodes node note)
  unfolding frames_of_configured
  starts_own startup nodes node None = All-nil IsOwn
  starts_own startup nodes node (Some kind.Lost) = All-nil IsOwn
  starts_own startup nodes node (Some kind.Configured) = by (starts_each startup) (starts_network startup nodes)
    where
      by : (b c : Bool) → AreOwn (if b then start_of node
          else if c then network_start_frames startup.mode nodes else [])
      by true c = one _ refl
      by false true = network_own startup.mode nodes
      by false false = All-nil IsOwn
  starts_own startup nodes node (Some kind.Difference) = All-nil IsOwn
  starts_own startup nodes node (Some (kind.Aborted abort)) = All-nil IsOwn
  starts_own startup nodes node (Some kind.TimedOut) = All-nil IsOwn

  request_more : (node : ℕ) → IsNodeNumber node → (r : Option (List ℕ)) → Fits node r → (ws : List Waiting) → AreOwn ws
      → AreOwn (ws ++ sdo_frames node r)
  request_more node is r fits ws h = more ws (sdo_frames node r) h (requests_own node is r fits)

  step_owns : (startup : Startup) (nodes : List Booting) (node : ℕ) → IsNodeNumber node → (step : BootStep)
      → Fits node step.request → (ws : List Waiting) → AreOwn ws
      → AreOwn ((ws ++ sdo_frames node step.request) ++ start_frames startup nodes node step.note)
  step_owns startup nodes node is step fits ws h =
      more (ws ++ sdo_frames node step.request) (start_frames startup nodes node step.note)
      (request_more node is step.request fits ws h) (starts_own startup nodes node step.note)

  dropped_own : (unwanted : Unwanted) (ws : List Waiting) → AreOwn ws → AreOwn (without_unwanted unwanted ws)
  dropped_own unwanted ws h = All-filter _ IsOwn ws h

  latest_owns : (own : Purpose) (frame : BaseFrame) → IsManagersFrame number numbers own frame → (ws : List Waiting)
      → AreOwn ws → AreOwn (with_latest own frame ws)
  latest_owns own frame is [] h = one (waiting own frame) is
  latest_owns own frame is (w ∷ ws) h =
      by (latest_owns own frame is ws (All-tail IsOwn w ws h)) (is_same w.purpose own)
    where
      by : AreOwn (with_latest own frame ws) → (b : Bool)
          → AreOwn (if b then waiting own frame ∷ ws else w ∷ with_latest own frame ws)
      by rest true = All-cons IsOwn (waiting own frame) ws is (All-tail IsOwn w ws h)
      by rest false = All-cons IsOwn w (with_latest own frame ws) (All-head IsOwn w ws h) rest

  removed_own : (ws : List Waiting) (place : ℕ) → AreOwn ws → AreOwn (remove ws place)
  removed_own ws place h =
      more (take place ws) (drop (suc place) ws) (All-take IsOwn place ws h) (All-drop IsOwn (suc place) ws h)

  outs_own : (t : ℕ) (nodes : List Booting) → AreNumbered nodes → All (IsKnown number) nodes → (ws : List Waiting)
      → AreOwn ws → AreOwn (queue_after_time_outs (timed_out t nodes) ws)
  outs_own t [] n o ws h = h
  outs_own t (b ∷ nodes) n o ws h =
      by (outs_own t nodes (All-tail (λ (x : Booting). IsNodeNumber x.number) b nodes n)
      (All-tail (IsKnown number) b nodes o)) (is_timed_out t b.stage) refl
    where
      fits : is_timed_out t b.stage ≡ true → Fits b.number (sdo_time_out b.stage).request
      fits e same = absurd (other_is number b (All-head (IsKnown number) b nodes o) (timed_other t b.stage e) same)

      by : ((vs : List Waiting) → AreOwn vs → AreOwn (queue_after_time_outs (timed_out t nodes) vs)) → (x : Bool)
          → is_timed_out t b.stage ≡ x
          → AreOwn (queue_after_time_outs (if x then b ∷ timed_out t nodes else timed_out t nodes) ws)
      by rest true e = rest (queue_after_time_out b ws)
          (request_more b.number (All-head (λ (x : Booting). IsNodeNumber x.number) b nodes n)
          (sdo_time_out b.stage).request (fits e) (without_unwanted (SdoOf b.number) ws)
          (dropped_own (SdoOf b.number) ws h))
      by rest false e = rest ws h

  -- so none waits
  not_asked : (p : Purpose) (frame : BaseFrame) → IsManagersFrame number numbers p frame
      → is_unwanted (SdoOf number) p ≡ false
  not_asked BootUp frame h = refl
  not_asked purpose.Heartbeat frame h = refl
  not_asked (Tpdo k) frame h = refl
  not_asked (Sdo node) frame h = number_other number node (λ same. h.1.0 (sym same))
  not_asked Emergency frame h = refl
  not_asked purpose.Sync frame h = refl
  not_asked purpose.Time frame h = refl
  not_asked Nmt frame h = refl

  none_asked : (ws : List Waiting) → AllByRecursion IsOwn ws → requests_to number ws ≡ []
  unfolding requests_to
  none_asked [] h = refl
  none_asked (w ∷ ws) h = rw (not_asked w.purpose w.frame h.0) (none_asked ws h.1)

pub own_unasked_for : (m : Manager) → HasManagerFrames m → requests_to m.number m.waiting ≡ []
own_unasked_for m h = none_asked m.number (numbers_of m.nodes) m.waiting
    (recursion_from_All (IsOwn m.number (numbers_of m.nodes)) m.waiting h.frames)

-- ---- the rules

found_within : (base id : ℕ) (nodes : List Booting) (k : ℕ) → place_of base id nodes ≡ Some k → k < length nodes
unfolding place_of
found_within base id nodes k e = (position-Some (is_from base id) nodes k no_node e).0

pub command_stays : (c : NmtCommand) (node : ℕ) (m : Manager) → StaysManager m (with_command c node m)
command_stays c node m = record { number = refl; numbers = refl }

pub command_owns : (c : NmtCommand) (node : ℕ) (m : Manager) → HasManagerFrames m → HasManagerFrames (with_command c node m)
command_owns c node m h = record {
  frames = more m.number (numbers_of m.nodes) m.waiting _ h.frames (one m.number (numbers_of m.nodes) _ refl);
  nodes = h.nodes;
  own = h.own;
}

pub sent_owns : (place : ℕ) (m : Manager) → HasManagerFrames m → HasManagerFrames (record m { waiting = remove m.waiting place })
sent_owns place m h = record {
  frames = removed_own m.number (numbers_of m.nodes) m.waiting place h.frames;
  nodes = h.nodes;
  own = h.own;
}

pub frame_stays : (image : Image) (t : ℕ) (frame : BaseFrame) (m : Manager)
    → StaysManager m (outcome (after_frame t frame m) image).0
frame_stays image t frame m =
    received_holds image t frame m (λ r read. StaysManager m r.0)
    (record { number = refl; numbers = refl })
    (λ i e o. record { number = refl; numbers = refl })
    (λ i e o. record { number = refl; numbers = stage_set m.nodes i _ })
    (λ i e. record { number = refl; numbers = stage_set m.nodes i _ })

stepped_owns : (m : Manager) → HasManagerFrames m → (k : ℕ) → k < length m.nodes → (step : BootStep) (ws : List Waiting)
    → Fits m.number (numbers_of m.nodes) (node_at m.nodes k).number step.request
    → is_own step.stage ≡ is_own (node_at m.nodes k).stage → All (IsOwn m.number (numbers_of m.nodes)) ws
    → HasManagerFrames (after_step k step (record m { waiting = ws })).0
stepped_owns m h k within step ws fits still own = record {
  frames = subst (λ (ns : List ℕ). All (IsOwn m.number ns) (after_step k step (record m { waiting = ws })).0.waiting)
      (sym (stage_set m.nodes k step.stage))
      (step_owns m.number (numbers_of m.nodes) m.startup (with_stage m.nodes k step.stage) (node_at m.nodes k).number
      (All-get_or (λ (b : Booting). IsNodeNumber b.number) m.nodes k no_node within h.nodes) step fits ws own);
  nodes = renumbered m.nodes _ (stage_set m.nodes k step.stage) h.nodes;
  own = All-from_recursion (IsKnown m.number) (with_stage m.nodes k step.stage)
      (set_known m.number m.nodes k step.stage still (recursion_from_All (IsKnown m.number) m.nodes h.own));
}

pub frame_owns : (image : Image) (t : ℕ) (frame : BaseFrame) (m : Manager) → HasManagerFrames m
    → HasManagerFrames (outcome (after_frame t frame m) image).0
frame_owns image t frame m h =
    received_holds image t frame m (λ r read. HasManagerFrames r.0) h
    (λ i e o. record {
      frames = more m.number (numbers_of m.nodes) m.waiting _ h.frames
          (start_owns m.number (numbers_of m.nodes) m.startup (node_at m.nodes i).number);
      nodes = h.nodes;
      own = h.own;
    })
    (λ i e o. stepped_owns m h i (found_within (error_control_id 0) frame.id m.nodes i e) _ _
    (λ same. absurd (other_at m h i (found_within (error_control_id 0) frame.id m.nodes i e) o same))
    (boots_other image (t + m.timeout) (node_at m.nodes i).number ∙ sym o)
    (dropped_own m.number (numbers_of m.nodes) (SdoOf (node_at m.nodes i).number) m.waiting h.frames))
    (λ i e. stepped_owns m h i (found_within (sdo_answer_id 0) frame.id m.nodes i e) _ m.waiting
    (λ same. own_unasked image (t + m.timeout) (node_at m.nodes i).number (node_at m.nodes i).stage frame.bytes
    (itself_at m h i (found_within (sdo_answer_id 0) frame.id m.nodes i e) same))
    (answered_still image (t + m.timeout) (node_at m.nodes i).number (node_at m.nodes i).stage frame.bytes) h.frames)

-- ---- the timers

module _ (t : ℕ) where
  periodic_is : (number : ℕ) (numbers : List ℕ) (period : ℕ) (message : PeriodicMessage)
      → IsManagersFrame number numbers (purpose_of message) (frame_of number t period message)
  unfolding frame_of sync_frame time_frame
  periodic_is number numbers period Heartbeat = (refl, λ e. cc)
  periodic_is number numbers period (Time first_day) = refl
  periodic_is number numbers period (Sync last) = refl

  outs_stay : (m : Manager) → StaysManager m (time_outs t m).0
  unfolding time_outs
  outs_stay m = record { number = refl; numbers = later_numbers t m.nodes }

  outs_have : (m : Manager) → HasManagerFrames m → HasManagerFrames (time_outs t m).0
  unfolding time_outs
  outs_have m h = record {
    frames = subst (λ (ns : List ℕ). All (IsOwn m.number ns) (queue_after_time_outs (timed_out t m.nodes) m.waiting))
        (sym (later_numbers t m.nodes))
        (outs_own m.number (numbers_of m.nodes) t m.nodes h.nodes h.own m.waiting h.frames);
    nodes = renumbered m.nodes _ (later_numbers t m.nodes) h.nodes;
    own = All-from_recursion (IsKnown m.number) (map (node_after t) m.nodes)
        (later_known m.number t m.nodes (recursion_from_All (IsKnown m.number) m.nodes h.own));
  }

  pub timers_stay : (m : Manager) → StaysManager m (timers t m).0
  unfolding timers
  timers_stay m = let stays = outs_stay m in record { number = stays.number; numbers = stays.numbers }

  pub timers_own : (m : Manager) → HasManagerFrames m → HasManagerFrames (timers t m).0
  unfolding timers
  timers_own m h =
      let own = outs_have m h in
      let after = (time_outs t m).0 in
      let numbers : List ℕ = numbers_of after.nodes in
      record {
        frames =
            queue_has t after.number (λ ws. All (IsOwn after.number numbers) ws)
            (λ message period. latest_owns after.number numbers (purpose_of message)
            (frame_of after.number t period message) (periodic_is after.number numbers period message)) after.periodic
            after.waiting own.frames;
        nodes = own.nodes;
        own = own.own;
      }

-- ---- at power-on

module _ (manager : ℕ) where
  first_number : (n : ℕ) → (first_node manager n).number ≡ n
  first_number n = by (n == manager)
    where
      by : (b : Bool) → (if b then record { number = n; stage = Own } else unseen_node n).number ≡ n
      by true = refl
      by false = refl

  pub first_numbers : (numbers : List ℕ) → numbers_of (map (first_node manager) numbers) ≡ numbers
  first_numbers [] = refl
  first_numbers (n ∷ numbers) =
      ap (λ (x : ℕ). x ∷ numbers_of (map (first_node manager) numbers)) (first_number n)
      ∙ ap (λ (ns : List ℕ). n ∷ ns) (first_numbers numbers)

  first_numbered : (numbers : List ℕ) → AllByRecursion IsNodeNumber numbers
      → AllByRecursion (λ (b : Booting). IsNodeNumber b.number) (map (first_node manager) numbers)
  first_numbered [] h = tt
  first_numbered (n ∷ numbers) h = (subst IsNodeNumber (sym (first_number n)) h.0, first_numbered numbers h.1)

  one_known : (n : ℕ) → IsKnown manager (first_node manager n)
  one_known n = by (n == manager) refl
    where
      by : (b : Bool) → (n == manager) ≡ b
          → IsKnown manager (if b then record { number = n; stage = Own } else unseen_node n)
      by true e = sym e
      by false e = sym e

  first_known : (numbers : List ℕ) → AllByRecursion (IsKnown manager) (map (first_node manager) numbers)
  first_known [] = tt
  first_known (n ∷ numbers) = (one_known n, first_known numbers)

  neither : (a b : Bool) → (a || b) ≡ false → (a ≡ false) × (b ≡ false)
  neither true b e = absurd cc
  neither false b e = (refl, e)

  none_among : (numbers : List ℕ) → is_among manager numbers ≡ false → AreOthers manager numbers
  none_among [] e = tt
  none_among (n ∷ numbers) e =
      let both = neither (n == manager) (is_among manager numbers) e in
      (number_differs n manager both.0, none_among numbers both.1)

first_own : (roster : Roster) (b : Bool) → has_controller roster ≡ b
    → All (IsOwn roster.manager roster.nodes) (if b then [] else waiting BootUp (boot_up_message roster.manager) ∷ [])
first_own roster true e = All-nil (IsOwn roster.manager roster.nodes)
first_own roster false e = one roster.manager roster.nodes _ ((refl, refl), none_among roster.manager roster.nodes e)

pub power_owns : (roster : Roster) → All IsNodeNumber roster.nodes → HasManagerFrames (manager_at_power_on roster)
unfolding manager_at_power_on
power_owns roster h = record {
  frames = subst (λ (ns : List ℕ). All (IsOwn roster.manager ns) (first_waiting roster))
      (sym (first_numbers roster.manager roster.nodes)) (first_own roster (has_controller roster) refl);
  nodes = All-from_recursion (λ (b : Booting). IsNodeNumber b.number) (map (first_node roster.manager) roster.nodes)
      (first_numbered roster.manager roster.nodes (recursion_from_All IsNodeNumber roster.nodes h));
  own = All-from_recursion (IsKnown roster.manager) (map (first_node roster.manager) roster.nodes)
      (first_known roster.manager roster.nodes);
}
