-- Which NMT commands an instant queues at the manager, where that starts configured nodes one by one.
use Rattle.std.proofs.Common.{◌≡◌, ℕ, ◌+◌, ◌<◌, Bool, true, false, List, [], ◌∷◌, ◌++◌, Option, Some, None}
use Rattle.std.proofs.Common.{All, length, map, ◌⊎◌, inl, inr, refl, sym, ap, ◌∙◌, subst, arith}
use Rattle.std.specs.Prelude.{◌==◌, ◌||◌, Contains, if◌then◌else◌}
use Rattle.std.proofs.lemmas.List.{get_or-map, get_or-set_same, length-map, length-set}
use Rattle.std.proofs.lemmas.List.Elements.{All-append, All-cons, All-contains, All-contains_itself, All-filter}
use Rattle.std.proofs.lemmas.List.Elements.{All-head, All-nil, All-tail, All-weaker, Contains-get_or}
use Rattle.std.proofs.lemmas.List.Quantifiers.{position-Some}
use Rattle.can_bus.proofs.InstantLemmas.{run_by_events}
use Rattle.can_bus.proofs.ManagerLemmas.{outcome_managed}
use Rattle.can_bus.proofs.PowerLemmas.{outcome_power_on_of}
use Rattle.can_bus.proofs.SpanLemmas.{at_each_moment}
use Rattle.can_bus.specs.Bus.{Bus, ended_slot, instant, manager_after_delivery, manager_after_slot, power_on}
use Rattle.can_bus.specs.Spans.{bus_at}
use Rattle.can_bus.specs.declared.slot.Slot.{Slot}
use Rattle.can_frame.specs.Frames.{BaseFrame}
use Rattle.can_frame.specs.Identifiers.{error_control_id, sdo_answer_id}
use Rattle.can_frame.specs.Senders.{manager_sender}
use Rattle.can_frame.specs.WaitingFrames.{is_same, waiting, with_latest, without_unwanted}
use Rattle.can_frame.specs.declared.purpose.Purpose.{Purpose}
use Rattle.can_frame.specs.declared.purpose.Purpose.TheVariants.{Nmt, Sdo}
use Rattle.can_frame.specs.declared.unwanted.Unwanted.TheVariants.{SdoOf}
use Rattle.can_frame.specs.declared.waiting.Waiting.{Waiting}
use Rattle.co_scenario.specs.declared.nmt_command.NmtCommand.TheVariants.{Start}
use Rattle.image_parts.specs.Asking.{Answer, outcome}
use Rattle.image_parts.specs.Contents.{Image, roster_of}
use Rattle.image_parts.specs.declared.part.Part.TheVariants.{Roster}
use Rattle.image_parts.specs.declared.start_mode.StartMode.{StartMode}
use Rattle.image_parts.specs.declared.start_mode.StartMode.TheVariants.{ConfiguredNodes}
use Rattle.manager_nodes.specs.Table.{has_booted, is_from, is_own, no_node, node_after, node_at, place_of}
use Rattle.manager_nodes.specs.Table.{queue_after_time_out, queue_after_time_outs, sdo_frames, timed_out, with_stage}
use Rattle.manager_nodes.specs.declared.booting.Booting.{Booting}
use Rattle.network_laws.proofs.AheadLemmas.{nodes_stay}
use Rattle.network_laws.proofs.NoteLemmas.{answer_tells, boot_tells}
use Rattle.network_laws.proofs.ThroughLemmas.{hears_keeps, manager_through, run_manager}
use Rattle.network_laws.specs.Reads.{at_delivery}
use Rattle.network_laws.specs.Starts.{StartsConfigured, at_arbitration}
use Rattle.nmt_boot.proofs.FrameLemmas.{received_holds}
use Rattle.nmt_boot.proofs.PeriodicLemmas.{queue_has}
use Rattle.nmt_boot.specs.Manager.{Manager, after_frame, after_step, manager_at_power_on, time_outs, timers}
use Rattle.nmt_boot.specs.Periodic.{frame_of, purpose_of}
use Rattle.nmt_boot.specs.Startup.{Startup, frames_of_configured, network_start_frames, nmt_frame, own_start}
use Rattle.nmt_boot.specs.Startup.{start_frames, start_of, starts_each, starts_network, starts_with_network}
use Rattle.nmt_boot.specs.Startup.{startup_after, startup_of_configured}
use Rattle.nmt_boot.specs.declared.periodic_message.PeriodicMessage.{PeriodicMessage}
use Rattle.nmt_boot.specs.declared.periodic_message.PeriodicMessage.TheVariants.{Heartbeat, Time, Sync}
use Rattle.node_boot.specs.Boot.{boot_nmt_slave, sdo_answer, sdo_time_out}
use Rattle.node_boot.specs.declared.boot_stage.BootStage.{BootStage}
use Rattle.node_boot.specs.declared.boot_stage.BootStage.TheVariants.{Unseen, Comparing, Writing, Configured, Failed, Own}
use Rattle.node_boot.specs.declared.boot_step.BootStep.{BootStep}
use Rattle.node_boot.specs.declared.note.Note.{Note}
use Rattle.node_boot.specs.declared.note_kind.NoteKind.{NoteKind}
use Rattle.node_boot.specs.declared.note_kind.NoteKind.TheVariants as kind

-- ---- the table

found_within : (base id : ℕ) (nodes : List Booting) (k : ℕ) → place_of base id nodes ≡ Some k → k < length nodes
unfolding place_of
found_within base id nodes k e = (position-Some (is_from base id) nodes k no_node e).0

-- a node that is configured, or that the manager runs in
abbrev MayStart : BootStage → Type 0
MayStart stage = (has_booted stage || is_own stage) ≡ true

second_holds : (a b : Bool) → b ≡ true → (a || b) ≡ true
second_holds true b e = refl
second_holds false b e = e

-- it doesn't time out
still_one : (t number : ℕ) (stage : BootStage) → MayStart stage
    → ◌≡◌ {A = Booting} (node_after t (record { number = number; stage = stage }))
    (record { number = number; stage = stage })
still_one t number Unseen e = absurd cc
still_one t number (Comparing place expected transfer deadline) e = absurd cc
still_one t number (Writing place transfer deadline) e = absurd cc
still_one t number Configured e = refl
still_one t number Failed e = absurd cc
still_one t number Own e = refl

starts_still : (t : ℕ) (nodes : List Booting) (w : Waiting) → StartsConfigured nodes w
    → StartsConfigured (map (node_after t) nodes) w
starts_still t nodes w s =
    let many : length (map (node_after t) nodes) ≡ length nodes = length-map nodes (node_after t) in
    let less : s.listed.0 < length nodes = s.listed.1 in
    record {
      booting = s.booting;
      listed = (
        s.listed.0,
        omega (arith, less, many),
        get_or-map (node_after t) nodes s.listed.0 s.booting s.booting s.listed.1
            ∙ ap (node_after t) s.listed.2 ∙ still_one t s.booting.number s.booting.stage s.configured,
      );
      configured = s.configured;
      is = s.is;
    }

-- ---- frames for other purposes

no_request : (node : ℕ) → Sdo node ≡ Nmt → ⊥
no_request node e = cc

not_periodic : (message : PeriodicMessage) → purpose_of message ≡ Nmt → ⊥
not_periodic Heartbeat e = cc
not_periodic (Time first_day) e = cc
not_periodic (Sync last) e = cc

-- ---- what waits: each command waited among these frames, or starts a node of these that is configured

module _ (old : List Waiting) (nodes : List Booting) where
  abbrev Fits : Waiting → Type 0
  Fits w = w.purpose ≡ Nmt → Contains old w ⊎ StartsConfigured nodes w

  abbrev AllFit : List Waiting → Type 0
  AllFit ws = All Fits ws

  one_fits : (w : Waiting) → Fits w → AllFit (w ∷ [])
  one_fits w h = All-cons Fits w [] h (All-nil Fits)

  more_fit : (xs ys : List Waiting) → AllFit xs → AllFit ys → AllFit (xs ++ ys)
  more_fit xs ys h k = All-append Fits xs ys h k

  old_fit : (ws : List Waiting) → All (λ w. Contains old w) ws → AllFit ws
  old_fit ws h = All-weaker (λ (w : Waiting). Contains old w) Fits (λ w there p. inl there) ws h

  requests_fit : (node : ℕ) (r : Option (List ℕ)) → AllFit (sdo_frames node r)
  requests_fit node None = All-nil Fits
  requests_fit node (Some bytes) = one_fits _ (λ p. absurd (no_request node p))

  start_fits : (x : Booting) → Contains nodes x → MayStart x.stage → AllFit (start_of x.number)
  start_fits x listed may =
      one_fits (waiting Nmt (nmt_frame Start x.number))
      (λ p. inr (record { booting = x; listed = listed; configured = may; is = refl }))

  -- with the network
  network_fits : (xs : List Booting) → All (λ x. Contains nodes x) xs → AllFit (starts_with_network xs)
  network_fits [] h = All-nil Fits
  network_fits (x ∷ xs) h =
      by (has_booted x.stage || is_own x.stage) refl
      (network_fits xs (All-tail (λ (y : Booting). Contains nodes y) x xs h))
    where
      by : (b : Bool) → (has_booted x.stage || is_own x.stage) ≡ b → AllFit (starts_with_network xs)
          → AllFit ((if b then start_of x.number else []) ++ starts_with_network xs)
      by true e rest =
          more_fit (start_of x.number) (starts_with_network xs)
          (start_fits x (All-head (λ (y : Booting). Contains nodes y) x xs h) e) rest
      by false e rest = rest

  all_listed : All (λ x. Contains nodes x) nodes
  all_listed = All-contains_itself nodes

  -- where a node is configured
  module _ (startup : Startup) (mode : startup.mode ≡ ConfiguredNodes) (x : Booting) (listed : Contains nodes x) where
    configured_fit : MayStart x.stage → AllFit (frames_of_configured startup nodes x.number)
    unfolding frames_of_configured
    configured_fit may = by (starts_each startup) (starts_network startup nodes)
      where
        by : (b c : Bool) → AllFit (if b then start_of x.number
            else if c then network_start_frames startup.mode nodes else [])
        by true c = start_fits x listed may
        by false true =
            subst (λ (m : StartMode). AllFit (network_start_frames m nodes)) (sym mode) (network_fits nodes all_listed)
        by false false = All-nil Fits

    note_fits : (note : Option NoteKind) → (note ≡ Some kind.Configured → x.stage ≡ Configured)
        → AllFit (start_frames startup nodes x.number note)
    note_fits None tells = All-nil Fits
    note_fits (Some kind.Lost) tells = All-nil Fits
    note_fits (Some kind.Configured) tells =
        configured_fit (ap (λ (stage : BootStage). has_booted stage || is_own stage) (tells refl))
    note_fits (Some kind.Difference) tells = All-nil Fits
    note_fits (Some (kind.Aborted abort)) tells = All-nil Fits
    note_fits (Some kind.TimedOut) tells = All-nil Fits

    -- the manager's own node has booted up
    own_fits : MayStart x.stage → AllFit (own_start startup x.number)
    unfolding own_start
    own_fits may = by startup.is_started
      where
        by : (b : Bool) → AllFit (if b then start_of x.number else [])
        by true = start_fits x listed may
        by false = All-nil Fits

  -- ---- the timers queue no command

  time_outs_fit : (xs : List Booting) (ws : List Waiting) → AllFit ws → AllFit (queue_after_time_outs xs ws)
  time_outs_fit [] ws h = h
  time_outs_fit (x ∷ xs) ws h =
      time_outs_fit xs (queue_after_time_out x ws)
      (more_fit (without_unwanted (SdoOf x.number) ws) (sdo_frames x.number (sdo_time_out x.stage).request)
      (All-filter _ Fits ws h) (requests_fit x.number (sdo_time_out x.stage).request))

  latest_fits : (purpose : Purpose) (frame : BaseFrame) → (purpose ≡ Nmt → ⊥) → (ws : List Waiting) → AllFit ws
      → AllFit (with_latest purpose frame ws)
  latest_fits purpose frame other [] h = one_fits (waiting purpose frame) (λ p. absurd (other p))
  latest_fits purpose frame other (w ∷ ws) h =
      by (latest_fits purpose frame other ws (All-tail Fits w ws h)) (is_same w.purpose purpose)
    where
      by : AllFit (with_latest purpose frame ws) → (b : Bool)
          → AllFit (if b then waiting purpose frame ∷ ws else w ∷ with_latest purpose frame ws)
      by rest true = All-cons Fits (waiting purpose frame) ws (λ p. absurd (other p)) (All-tail Fits w ws h)
      by rest false = All-cons Fits w (with_latest purpose frame ws) (All-head Fits w ws h) rest

-- ---- the manager

abbrev ManagerFits : List Waiting → Manager → Type 0
ManagerFits old m = AllFit old m.nodes m.waiting

module _ (m : Manager) (mode : m.startup.mode ≡ ConfiguredNodes) where
  abbrev Holds : Manager → Type 0
  Holds r = ManagerFits m.waiting r

  stays : Holds m
  stays = old_fit m.waiting m.nodes m.waiting (All-contains_itself m.waiting)

  greeted : (i : ℕ) → i < length m.nodes → is_own (node_at m.nodes i).stage ≡ true
      → Holds (record m { waiting = m.waiting ++ own_start m.startup (node_at m.nodes i).number })
  greeted i within itself =
      more_fit m.waiting m.nodes m.waiting (own_start m.startup (node_at m.nodes i).number) stays
      (own_fits m.waiting m.nodes m.startup mode (node_at m.nodes i) (Contains-get_or m.nodes i no_node within)
      (second_holds (has_booted (node_at m.nodes i).stage) (is_own (node_at m.nodes i).stage) itself))

  stepped : (i : ℕ) → i < length m.nodes → (step : BootStep)
      → (step.note ≡ Some kind.Configured → step.stage ≡ Configured)
      → (ws : List Waiting) → All (λ w. Contains m.waiting w) ws
      → Holds (after_step i step (record m { waiting = ws })).0
  stepped i within step tells ws h =
      let next : Booting = record (node_at m.nodes i) { stage = step.stage } in
      let nodes : List Booting = with_stage m.nodes i step.stage in
      let many : length nodes ≡ length m.nodes = length-set m.nodes i next in
      let requests : List Waiting = sdo_frames (node_at m.nodes i).number step.request in
      let listed : Contains nodes next =
      (i, omega (arith, within, many), get_or-set_same m.nodes i next next within) in
      more_fit m.waiting nodes (ws ++ requests) (start_frames m.startup nodes next.number step.note)
      (more_fit m.waiting nodes ws requests (old_fit m.waiting nodes ws h)
      (requests_fit m.waiting nodes (node_at m.nodes i).number step.request))
      (note_fits m.waiting nodes m.startup mode next listed step.note tells)

  received : (image : Image) (t : ℕ) (frame : BaseFrame) → Holds (outcome (after_frame t frame m) image).0
  received image t frame =
      received_holds image t frame m (λ r read. Holds r.0) stays
      (λ i e itself. greeted i (found_within (error_control_id 0) frame.id m.nodes i e) itself)
      (λ i e other. stepped i (found_within (error_control_id 0) frame.id m.nodes i e)
      (outcome (boot_nmt_slave (t + m.timeout) (node_at m.nodes i).number) image)
      (boot_tells image (t + m.timeout) (node_at m.nodes i).number)
      (without_unwanted (SdoOf (node_at m.nodes i).number) m.waiting)
      (All-filter _ (λ (w : Waiting). Contains m.waiting w) m.waiting (All-contains_itself m.waiting)))
      (λ i e. stepped i (found_within (sdo_answer_id 0) frame.id m.nodes i e)
      (outcome (sdo_answer (t + m.timeout) (node_at m.nodes i).number (node_at m.nodes i).stage frame.bytes) image)
      (answer_tells image (t + m.timeout) (node_at m.nodes i).number (node_at m.nodes i).stage frame.bytes)
      m.waiting (All-contains_itself m.waiting))

  heard : (image : Image) (t : ℕ) (slot : Option Slot) → Holds (outcome (manager_after_slot t slot m) image).0
  unfolding manager_after_slot
  heard image t None = stays
  heard image t (Some slot) = by (manager_sender m.number == slot.sender)
    where
      by : (b : Bool) → Holds (outcome (if b then Answer (m, []) else after_frame t slot.frame m) image).0
      by true = stays
      by false = received image t slot.frame

timed : (old : List Waiting) (t : ℕ) (m : Manager) → ManagerFits old m → ManagerFits old (timers t m).0
unfolding timers time_outs
timed old t m h =
    let nodes : List Booting = map (node_after t) m.nodes in
    queue_has t m.number (λ ws. AllFit old nodes ws)
    (λ message period. latest_fits old nodes (purpose_of message) (frame_of m.number t period message)
    (not_periodic message)) m.periodic (queue_after_time_outs (timed_out t m.nodes) m.waiting)
    (time_outs_fit old nodes (timed_out t m.nodes) m.waiting
    (All-weaker (Fits old m.nodes) (Fits old nodes) (λ w f p. later w (f p)) m.waiting h))
  where
    later : (w : Waiting) → Contains old w ⊎ StartsConfigured m.nodes w
        → Contains old w ⊎ StartsConfigured (map (node_after t) m.nodes) w
    later w (inl there) = inl there
    later w (inr s) = inr (starts_still t m.nodes w s)

-- ---- when it starts nodes stays as the roster has it

abbrev StartsOneByOne : Manager → Type 0
StartsOneByOne m = m.startup.mode ≡ ConfiguredNodes

configured_mode : (startup : Startup) (nodes : List Booting) → (startup_of_configured startup nodes).mode ≡ startup.mode
unfolding startup_of_configured
configured_mode startup nodes = refl

noted_mode : (startup : Startup) (nodes : List Booting) (note : Option NoteKind)
    → (startup_after startup nodes note).mode ≡ startup.mode
noted_mode startup nodes None = refl
noted_mode startup nodes (Some kind.Lost) = refl
noted_mode startup nodes (Some kind.Configured) = configured_mode startup nodes
noted_mode startup nodes (Some kind.Difference) = refl
noted_mode startup nodes (Some (kind.Aborted abort)) = refl
noted_mode startup nodes (Some kind.TimedOut) = refl

stepped_mode : (m : Manager) (i : ℕ) (step : BootStep) (ws : List Waiting) → StartsOneByOne m
    → StartsOneByOne (after_step i step (record m { waiting = ws })).0
stepped_mode m i step ws h = noted_mode m.startup (with_stage m.nodes i step.stage) step.note ∙ h

received_mode : (image : Image) (t : ℕ) (frame : BaseFrame) (m : Manager) → StartsOneByOne m
    → StartsOneByOne (outcome (after_frame t frame m) image).0
received_mode image t frame m h =
    received_holds image t frame m (λ r read. StartsOneByOne r.0) h (λ i e itself. h)
    (λ i e other. stepped_mode m i (outcome (boot_nmt_slave (t + m.timeout) (node_at m.nodes i).number) image)
    (without_unwanted (SdoOf (node_at m.nodes i).number) m.waiting) h)
    (λ i e. stepped_mode m i
    (outcome (sdo_answer (t + m.timeout) (node_at m.nodes i).number (node_at m.nodes i).stage frame.bytes) image)
    m.waiting h)

timed_mode : (t : ℕ) (m : Manager) → StartsOneByOne m → StartsOneByOne (timers t m).0
unfolding timers time_outs
timed_mode t m h = h

next_mode : (image : Image) (t : ℕ) (s : Bus) → StartsOneByOne s.manager
    → StartsOneByOne (outcome (instant t s) image).0.manager
next_mode image t s h =
    manager_through image t s StartsOneByOne StartsOneByOne StartsOneByOne
    (λ c node m k. k)
    (hears_keeps image t StartsOneByOne (λ slot m k. received_mode image t slot.frame m k) (ended_slot t s.wire))
    (λ m k. timed_mode t m k)
    (λ m place k. k)
    h

first_mode : (image : Image) → (roster_of (image Roster)).start_mode ≡ ConfiguredNodes
    → StartsOneByOne (outcome power_on image).manager
unfolding power_on manager_at_power_on
first_mode image e = rw (outcome_power_on_of (roster_of (image Roster)) image) e

mode_at : (image : Image) → (roster_of (image Roster)).start_mode ≡ ConfiguredNodes → (t : ℕ)
    → StartsOneByOne (bus_at image t).manager
mode_at image e t = at_each_moment image (λ u s. StartsOneByOne s.manager) (first_mode image e) (next_mode image) t

-- ---- an instant, up to its arbitration

module _ (image : Image) (t : ℕ) (s : Bus) (mode : StartsOneByOne s.manager) where
  abbrev Anything : Manager → Type 0
  Anything m = Unit {0}

  abbrev ran : Bus
  ran = run_by_events t s image

  ran_mode : StartsOneByOne ran.manager
  ran_mode =
      run_manager image t s StartsOneByOne Anything Anything (λ c node m k. k) (λ m k. tt) (λ m k. tt)
      (λ m place k. tt) mode

  abbrev old : List Waiting
  old = ran.manager.waiting

  abbrev slot : Option Slot
  slot = ended_slot t ran.wire

  managed : ManagerFits old (outcome (manager_after_delivery t slot ran.manager) image).0
  managed =
      subst (λ (r : Manager × List Note). ManagerFits old r.0)
      (sym (outcome_managed t slot ran.manager image))
      (timed old t (outcome (manager_after_slot t slot ran.manager) image).0
      (heard ran.manager ran_mode image t slot))

-- ---- the run

pub started_when_configured : (image : Image) → (roster_of (image Roster)).start_mode ≡ ConfiguredNodes → (t : ℕ)
    (w : Waiting) → Contains (at_arbitration image t (bus_at image t)).manager.waiting w → w.purpose ≡ Nmt
    → Contains (at_delivery image t (bus_at image t)).manager.waiting w
    ⊎ StartsConfigured (bus_at image (t + 1)).manager.nodes w
started_when_configured image mode t w listed is_command =
    let old : List Waiting = (at_delivery image t (bus_at image t)).manager.waiting in
    let ahead : Manager = (at_arbitration image t (bus_at image t)).manager in
    let fit : ManagerFits old ahead = managed image t (bus_at image t) (mode_at image mode t) in
    subst (λ (nodes : List Booting). Contains old w ⊎ StartsConfigured nodes w) (sym (nodes_stay image t))
    (All-contains (Fits old ahead.nodes) ahead.waiting w fit listed is_command)
