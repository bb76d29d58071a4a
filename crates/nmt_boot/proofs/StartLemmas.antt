-- The network is started at most once, with each mandatory node configured.
use Rattle.std.proofs.Common.{◌≡◌, ◌≢◌, ℕ, zero, suc, ◌+◌, ◌<◌, ◌≤◌, Bool, true, false, List, [], ◌∷◌, ◌++◌, length, map}
use Rattle.std.proofs.Common.{Option, Some, None, ◌⊎◌, inl, inr, refl, sym, ap, ◌∙◌, arith}
use Rattle.std.specs.Prelude.{◌==◌, ◌&&◌, ◌||◌, not, if◌then◌else◌, filter}
use Rattle.std.specs.List.{AllByRecursion}
use Rattle.std.proofs.lemmas.Bool.Decides.{nat_tests}
use Rattle.std.proofs.lemmas.List.{length-append}
use Rattle.std.proofs.lemmas.List.Elements.{filter-append}
use Rattle.std.proofs.lemmas.List.Quantifiers.{position-Some}
use Rattle.image_parts.specs.Asking.{outcome}
use Rattle.manager_nodes.specs.Table.{all_configured, first_node, has_booted, is_from, is_own, no_node, node_after, node_at, place_of, queue_after_time_outs}
use Rattle.manager_nodes.specs.Table.{sdo_frames, timed_out, unseen_node, with_stage}
use Rattle.manager_nodes.specs.declared.booting.Booting.{Booting}
use Rattle.can_frame.specs.Frames.{BaseFrame}
use Rattle.can_frame.specs.Identifiers.{error_control_id, sdo_answer_id}
use Rattle.can_frame.specs.WaitingFrames.{is_same, is_unwanted, waiting, with_latest, without_unwanted}
use Rattle.can_frame.specs.declared.purpose.Purpose.{Purpose}
use Rattle.can_frame.specs.declared.purpose.Purpose.TheVariants.{BootUp, Heartbeat, Tpdo, Sdo, Emergency, Sync, Time, Nmt}
use Rattle.can_frame.specs.declared.unwanted.Unwanted.TheVariants.{SdoOf}
use Rattle.can_frame.specs.declared.waiting.Waiting.{Waiting}
use Rattle.image_parts.specs.Contents.{Image}
use Rattle.image_parts.specs.Images.{IsRoster}
use Rattle.cia301.specs.Limits.{IsNodeNumber}
use Rattle.image_parts.specs.declared.roster.Roster.{Roster}
use Rattle.image_parts.specs.declared.start_mode.StartMode.{StartMode}
use Rattle.image_parts.specs.declared.start_mode.StartMode.TheVariants.{ConfiguredNodes, EachNode, WholeNetwork}
use Rattle.co_scenario.specs.declared.nmt_command.NmtCommand.TheVariants.{Start}
use Rattle.node_boot.specs.Boot.{is_timed_out, sdo_time_out}
use Rattle.node_boot.specs.declared.boot_stage.BootStage.{BootStage}
use Rattle.node_boot.specs.declared.boot_stage.BootStage.TheVariants.{Own}
use Rattle.node_boot.specs.declared.boot_step.BootStep.{BootStep}
use Rattle.node_boot.specs.declared.note_kind.NoteKind.{NoteKind}
use Rattle.node_boot.specs.declared.note_kind.NoteKind.TheVariants as kind
use Rattle.nmt_boot.proofs.FrameLemmas.{received_holds}
use Rattle.nmt_boot.specs.Manager.{Manager, after_frame, after_step, manager_at_power_on, time_outs, timers}
use Rattle.nmt_boot.proofs.PeriodicLemmas.{queue_has}
use Rattle.nmt_boot.specs.Periodic.{frame_of, purpose_of, queue_after}
use Rattle.nmt_boot.specs.declared.periodic.Periodic.{Periodic}
use Rattle.nmt_boot.specs.declared.periodic_message.PeriodicMessage.{PeriodicMessage}
use Rattle.nmt_boot.specs.declared.periodic_message.PeriodicMessage.TheVariants as periodic
use Rattle.nmt_boot.specs.Startup.{Startup, by_mode, frames_of_configured, own_start, start_frames, start_of, starts_each, startup_after}
use Rattle.nmt_boot.specs.Startup.{network_start_frames, nmt_frame, startup_of_configured, starts_with_network}
use Rattle.nmt_boot.specs.Starts.{HasNodeNumbers, KeepsStart, StartsNetwork, is_network_start, network_starts}
use Rattle.nmt_boot.specs.Starts.{starts_of_all}

-- ---- how many frames start the network

starts_of_both : (xs ys : List Waiting) → network_starts (xs ++ ys) ≡ network_starts xs + network_starts ys
unfolding network_starts
starts_of_both xs ys = ap length (filter-append is_network_start xs ys)
    ∙ length-append (filter is_network_start xs) (filter is_network_start ys)

first_counts : (w : Waiting) (ws : List Waiting)
    → network_starts (w ∷ ws) ≡ (if is_network_start w then suc (network_starts ws) else network_starts ws)
unfolding network_starts
first_counts w ws = by (is_network_start w)
  where
    by : (b : Bool) → length (if b then w ∷ filter is_network_start ws else filter is_network_start ws)
        ≡ (if b then suc (length (filter is_network_start ws)) else length (filter is_network_start ws))
    by true = refl
    by false = refl

-- one frame behind two lists with as many
also_behind : (w : Waiting) (xs ys : List Waiting) → network_starts xs ≡ network_starts ys
    → network_starts (w ∷ xs) ≡ network_starts (w ∷ ys)
also_behind w xs ys e = first_counts w xs
    ∙ ap (λ (n : ℕ). if is_network_start w then suc n else n) e ∙ sym (first_counts w ys)

starts_none : (w : Waiting) (ws : List Waiting) → is_network_start w ≡ false
    → network_starts (w ∷ ws) ≡ network_starts ws
starts_none w ws e = first_counts w ws ∙ rw e refl

-- what is unwanted of a node is no command
sdo_starts_none : (node : ℕ) (purpose : Purpose) (rest : Bool) → is_unwanted (SdoOf node) purpose ≡ true
    → (is_same purpose Nmt && rest) ≡ false
sdo_starts_none node BootUp rest e = refl
sdo_starts_none node Heartbeat rest e = refl
sdo_starts_none node (Tpdo number) rest e = refl
sdo_starts_none node (Sdo other) rest e = refl
sdo_starts_none node Emergency rest e = refl
sdo_starts_none node Sync rest e = refl
sdo_starts_none node Time rest e = refl
sdo_starts_none node Nmt rest e = cc

dropped_starts : (node : ℕ) (ws : List Waiting)
    → network_starts (without_unwanted (SdoOf node) ws) ≡ network_starts ws
dropped_starts node [] = refl
dropped_starts node (w ∷ ws) = by (is_unwanted (SdoOf node) w.purpose) refl (dropped_starts node ws)
  where
    by : (b : Bool) → is_unwanted (SdoOf node) w.purpose ≡ b
        → network_starts (without_unwanted (SdoOf node) ws) ≡ network_starts ws
        → network_starts (if not b then w ∷ without_unwanted (SdoOf node) ws else without_unwanted (SdoOf node) ws)
        ≡ network_starts (w ∷ ws)
    by true e rest = rest
        ∙ sym (starts_none w ws (sdo_starts_none node w.purpose _ e))
    by false e rest = also_behind w (without_unwanted (SdoOf node) ws) ws rest

sdo_starts : (node : ℕ) (request : Option (List ℕ)) → network_starts (sdo_frames node request) ≡ 0
unfolding network_starts
sdo_starts node None = refl
sdo_starts node (Some bytes) = refl

-- ---- a frame that is no command takes the place of one of its purpose

abbrev IsNoCommand : Purpose → Type 0
IsNoCommand own = (other : Purpose) (rest : Bool) → is_same other own ≡ true → (is_same other Nmt && rest) ≡ false

is_none : (message : PeriodicMessage) → IsNoCommand (purpose_of message)
is_none periodic.Heartbeat Nmt rest e = cc
is_none (periodic.Time first_day) Nmt rest e = cc
is_none (periodic.Sync last) Nmt rest e = cc
is_none message BootUp rest e = refl
is_none message (Tpdo number) rest e = refl
is_none message (Sdo other) rest e = refl
is_none message Emergency rest e = refl
is_none message Heartbeat rest e = refl
is_none message Sync rest e = refl
is_none message Time rest e = refl

its_own : (message : PeriodicMessage) → is_same (purpose_of message) (purpose_of message) ≡ true
its_own periodic.Heartbeat = refl
its_own (periodic.Time first_day) = refl
its_own (periodic.Sync last) = refl

module _ (own : Purpose) (same : is_same own own ≡ true) (none : IsNoCommand own) (frame : BaseFrame) where
  latest_starts : (ws : List Waiting) → network_starts (with_latest own frame ws) ≡ network_starts ws
  latest_starts [] = starts_none (waiting own frame) [] (none own _ same)
  latest_starts (w ∷ ws) = by (is_same w.purpose own) refl (latest_starts ws)
    where
      by : (b : Bool) → is_same w.purpose own ≡ b → network_starts (with_latest own frame ws) ≡ network_starts ws
          → network_starts (if b then waiting own frame ∷ ws else w ∷ with_latest own frame ws)
          ≡ network_starts (w ∷ ws)
      by true e rest = starts_none (waiting own frame) ws (none own _ same)
          ∙ sym (starts_none w ws (none w.purpose _ e))
      by false e rest = also_behind w (with_latest own frame ws) ws rest

-- ---- the timers start nothing

time_outs_start : (nodes : List Booting) (ws : List Waiting)
    → network_starts (queue_after_time_outs nodes ws) ≡ network_starts ws
time_outs_start [] ws = refl
time_outs_start (node ∷ nodes) ws =
    let request = (sdo_time_out node.stage).request in
    time_outs_start nodes (without_unwanted (SdoOf node.number) ws ++ sdo_frames node.number request)
    ∙ starts_of_both (without_unwanted (SdoOf node.number) ws) (sdo_frames node.number request)
    ∙ rw (sdo_starts node.number request, dropped_starts node.number ws) (omega arith)

periodic_start : (t number : ℕ) (ps : List Periodic) (ws : List Waiting)
    → network_starts (queue_after t number ps ws) ≡ network_starts ws
periodic_start t number ps ws =
    queue_has t number (λ vs. network_starts vs ≡ network_starts ws)
    (λ message period vs e. latest_starts (purpose_of message) (its_own message) (is_none message)
    (frame_of number t period message) vs ∙ e) ps ws refl

pub timers_keep : (t : ℕ) (m : Manager) → KeepsStart m (timers t m).0
unfolding timers time_outs
timers_keep t m = record {
  startup = refl;
  waiting = periodic_start t m.number m.periodic _ ∙ time_outs_start (timed_out t m.nodes) m.waiting;
}

-- ---- nodes have numbers above 0

abbrev AreAbove : List Booting → Type 0
AreAbove nodes = AllByRecursion (λ node. 1 ≤ node.number) nodes

above_at : (nodes : List Booting) (i : ℕ) → i < length nodes → AreAbove nodes → 1 ≤ (node_at nodes i).number
above_at [] i within h = absurd (omega (arith, within))
above_at (node ∷ nodes) zero within h = h.0
above_at (node ∷ nodes) (suc i) within h = above_at nodes i (omega (arith, within)) h.1

stage_above : (nodes : List Booting) (i : ℕ) (stage : BootStage) → AreAbove nodes → AreAbove (with_stage nodes i stage)
stage_above [] i stage h = h
stage_above (node ∷ nodes) zero stage h = (h.0, h.1)
stage_above (node ∷ nodes) (suc i) stage h = (h.0, stage_above nodes i stage h.1)

one_above : (t : ℕ) (node : Booting) → 1 ≤ node.number → 1 ≤ (node_after t node).number
one_above t node h = by (is_timed_out t node.stage)
  where
    by : (b : Bool) → 1 ≤ (if b then record node { stage = (sdo_time_out node.stage).stage } else node).number
    by true = h
    by false = h

later_above : (t : ℕ) (nodes : List Booting) → AreAbove nodes → AreAbove (map (node_after t) nodes)
later_above t [] h = h
later_above t (node ∷ nodes) h = (one_above t node h.0, later_above t nodes h.1)

one_first : (manager number : ℕ) → 1 ≤ number → 1 ≤ (first_node manager number).number
one_first manager number h = by (number == manager)
  where
    by : (b : Bool) → 1 ≤ (if b then record { number = number; stage = Own } else unseen_node number).number
    by true = h
    by false = h

first_above : (manager : ℕ) (numbers : List ℕ) → AllByRecursion IsNodeNumber numbers
    → AreAbove (map (first_node manager) numbers)
first_above manager [] h = tt
first_above manager (n ∷ numbers) h = (one_first manager n h.0.0, first_above manager numbers h.1)

pub numbers_first : (roster : Roster) → IsRoster roster → HasNodeNumbers (manager_at_power_on roster)
unfolding manager_at_power_on
numbers_first roster h = first_above roster.manager roster.nodes h.nodes

pub numbers_of_frame : (image : Image) (t : ℕ) (frame : BaseFrame) (m : Manager) → HasNodeNumbers m
    → HasNodeNumbers (outcome (after_frame t frame m) image).0
numbers_of_frame image t frame m h = received_holds image t frame m (λ r read. HasNodeNumbers r.0) h
    (λ i e o. h) (λ i e o. stage_above m.nodes i _ h) (λ i e. stage_above m.nodes i _ h)

pub numbers_of_timers : (t : ℕ) (m : Manager) → HasNodeNumbers m → HasNodeNumbers (timers t m).0
unfolding timers time_outs
numbers_of_timers t m h = later_above t m.nodes h

-- ---- a step of a boot

none_at_all : network_starts [] ≡ 0
unfolding network_starts
none_at_all = refl

not_all : (node : ℕ) → 1 ≤ node → (node == 0) ≡ false
not_all node h = grind (arith, nat_tests)

itself_alone : (node : ℕ) → 1 ≤ node → network_starts (start_of node) ≡ 0
itself_alone node h = starts_none (waiting Nmt (nmt_frame Start node)) [] (not_all node h) ∙ none_at_all

all_at_once : network_starts (start_of 0) ≡ 1
unfolding network_starts
all_at_once = refl

configured_starts : (nodes : List Booting) → AreAbove nodes → network_starts (starts_with_network nodes) ≡ 0
configured_starts [] h = none_at_all
configured_starts (node ∷ nodes) h = by (has_booted node.stage || is_own node.stage) (configured_starts nodes h.1)
  where
    by : (b : Bool) → network_starts (starts_with_network nodes) ≡ 0
        → network_starts ((if b then start_of node.number else []) ++ starts_with_network nodes) ≡ 0
    by true rest = starts_of_both (start_of node.number) (starts_with_network nodes)
        ∙ rw (itself_alone node.number h.0, rest) refl
    by false rest = rest

whole_other : WholeNetwork ≢ EachNode
whole_other e = cc

configured_other : ConfiguredNodes ≢ EachNode
configured_other e = cc

waits_for_network : (mode : StartMode) (is_started : Bool) → by_mode mode is_started ≡ false
    → (mode ≢ EachNode) × (is_started ≡ false)
waits_for_network EachNode is_started e = cc
waits_for_network WholeNetwork is_started e = (whole_other, e)
waits_for_network ConfiguredNodes is_started e = (configured_other, e)

abbrev Starts : Manager → Manager → Type 0
Starts m after = KeepsStart m after ⊎ StartsNetwork m after

module _ (m : Manager) (nodes : List Booting) (all_above : AreAbove nodes) (node : ℕ) (above : 1 ≤ node)
    (ws : List Waiting) (as_many : network_starts ws ≡ network_starts m.waiting) where
  -- the frames that are queued then
  queued : (added : List Waiting) (n : ℕ) → network_starts added ≡ n
      → network_starts (ws ++ added) ≡ network_starts m.waiting + n
  queued added n e = starts_of_both ws added ∙ rw (as_many, e) refl

  nothing : network_starts (ws ++ []) ≡ network_starts m.waiting
  nothing = queued [] 0 none_at_all ∙ omega arith

  itself : network_starts (ws ++ start_of node) ≡ network_starts m.waiting
  itself = queued (start_of node) 0 (itself_alone node above) ∙ omega arith

  begun : (mode : StartMode)
      → network_starts (ws ++ network_start_frames mode nodes) ≡ network_starts m.waiting + starts_of_all mode
  begun EachNode = queued [] 0 none_at_all
  begun WholeNetwork = queued (start_of 0) 1 all_at_once
  begun ConfiguredNodes = queued (starts_with_network nodes) 0 (configured_starts nodes all_above)

  stays : (record m.startup { is_started = m.startup.is_started || false }) ≡ m.startup
  stays = by m.startup.is_started
    where
      by : (b : Bool) → (record m.startup { is_started = b || false }) ≡ record m.startup { is_started = b }
      by true = refl
      by false = refl

  turns : (record m.startup { is_started = m.startup.is_started || true }) ≡ record m.startup { is_started = true }
  turns = by m.startup.is_started
    where
      by : (b : Bool) → (record m.startup { is_started = b || true }) ≡ record m.startup { is_started = true }
      by true = refl
      by false = refl

  by_tests : (each all : Bool) → starts_each m.startup ≡ each → all_configured nodes m.startup.mandatory ≡ all
      → Starts m (record m {
        startup = record m.startup { is_started = m.startup.is_started || (not each && all) };
        nodes = nodes;
        waiting = ws ++ (if each then start_of node
            else if not each && all then network_start_frames m.startup.mode nodes else []);
      })
  by_tests true all e f = inl (record { startup = stays; waiting = itself })
  by_tests false true e f =
      let waits = waits_for_network m.startup.mode m.startup.is_started e in
      inr (record {
        mode = waits.0;
        not_before = waits.1;
        configured = f;
        started = turns;
        sent = (ws, refl);
        waiting = begun m.startup.mode;
      })
  by_tests false false e f = inl (record { startup = stays; waiting = nothing })

  by_note : (note : Option NoteKind) → Starts m (record m {
    startup = startup_after m.startup nodes note;
    nodes = nodes;
    waiting = ws ++ start_frames m.startup nodes node note;
  })
  unfolding frames_of_configured startup_of_configured
  by_note None = inl (record { startup = refl; waiting = nothing })
  by_note (Some kind.Lost) = inl (record { startup = refl; waiting = nothing })
  by_note (Some kind.Configured) =
      by_tests (starts_each m.startup) (all_configured nodes m.startup.mandatory) refl refl
  by_note (Some kind.Difference) = inl (record { startup = refl; waiting = nothing })
  by_note (Some (kind.Aborted abort)) = inl (record { startup = refl; waiting = nothing })
  by_note (Some kind.TimedOut) = inl (record { startup = refl; waiting = nothing })

with_request : (node : ℕ) (request : Option (List ℕ)) (ws : List Waiting)
    → network_starts (ws ++ sdo_frames node request) ≡ network_starts ws
with_request node request ws = starts_of_both ws (sdo_frames node request) ∙ rw (sdo_starts node request) (omega arith)

step_starts : (m : Manager) (i : ℕ) (step : BootStep) (ws : List Waiting) → HasNodeNumbers m
    → 1 ≤ (node_at m.nodes i).number → network_starts ws ≡ network_starts m.waiting
    → Starts m (after_step i step (record m { waiting = ws })).0
step_starts m i step ws h above e =
    by_note m (with_stage m.nodes i step.stage) (stage_above m.nodes i step.stage h) (node_at m.nodes i).number above
    (ws ++ sdo_frames (node_at m.nodes i).number step.request)
    (with_request (node_at m.nodes i).number step.request ws ∙ e) step.note

-- that of the manager's own node is no start of the network
own_starts : (startup : Startup) (node : ℕ) → 1 ≤ node → (ws : List Waiting)
    → network_starts (ws ++ own_start startup node) ≡ network_starts ws
unfolding own_start
own_starts startup node above ws = by startup.is_started
  where
    by : (b : Bool) → network_starts (ws ++ (if b then start_of node else [])) ≡ network_starts ws
    by true = starts_of_both ws (start_of node) ∙ rw (itself_alone node above) (omega arith)
    by false = starts_of_both ws [] ∙ rw none_at_all (omega arith)

found_above : (m : Manager) (base id i : ℕ) → HasNodeNumbers m → place_of base id m.nodes ≡ Some i
    → 1 ≤ (node_at m.nodes i).number
unfolding place_of
found_above m base id i h e = above_at m.nodes i (position-Some (is_from base id) m.nodes i no_node e).0 h

pub frame_starts : (image : Image) (t : ℕ) (frame : BaseFrame) (m : Manager) → HasNodeNumbers m
    → KeepsStart m (outcome (after_frame t frame m) image).0 ⊎ StartsNetwork m (outcome (after_frame t frame m) image).0
frame_starts image t frame m h = received_holds image t frame m (λ r read. Starts m r.0)
    (inl (record { startup = refl; waiting = refl }))
    (λ i e o. inl (record {
      startup = refl;
      waiting = own_starts m.startup (node_at m.nodes i).number (found_above m (error_control_id 0) frame.id i h e) m.waiting;
    }))
    (λ i e o. step_starts m i _ (without_unwanted (SdoOf (node_at m.nodes i).number) m.waiting) h
    (found_above m (error_control_id 0) frame.id i h e)
    (dropped_starts (node_at m.nodes i).number m.waiting))
    (λ i e. step_starts m i _ m.waiting h (found_above m (sdo_answer_id 0) frame.id i h e) refl)

-- ---- never by itself, and never again

never : (m after : Manager) → m.startup.mode ≡ EachNode → Starts m after → KeepsStart m after
never m after e (inl keeps) = keeps
never m after e (inr starts) = absurd (starts.mode e)

never_again : (m after : Manager) → m.startup.is_started ≡ true → Starts m after → KeepsStart m after
never_again m after e (inl keeps) = keeps
never_again m after e (inr starts) = let f = sym e ∙ starts.not_before in cc

pub each_by_itself : (image : Image) (t : ℕ) (frame : BaseFrame) (m : Manager) → HasNodeNumbers m
    → m.startup.mode ≡ EachNode → KeepsStart m (outcome (after_frame t frame m) image).0
each_by_itself image t frame m h e = never m (outcome (after_frame t frame m) image).0 e (frame_starts image t frame m h)

pub at_most_once : (image : Image) (t : ℕ) (frame : BaseFrame) (m : Manager) → HasNodeNumbers m
    → m.startup.is_started ≡ true → KeepsStart m (outcome (after_frame t frame m) image).0
at_most_once image t frame m h e =
    never_again m (outcome (after_frame t frame m) image).0 e (frame_starts image t frame m h)

-- ---- and where configured nodes are started, by no command to all

of_all : (m after : Manager) → m.startup.mode ≡ ConfiguredNodes → Starts m after
    → network_starts after.waiting ≡ network_starts m.waiting
of_all m after e (inl keeps) = keeps.waiting
of_all m after e (inr starts) =
    let none : starts_of_all m.startup.mode ≡ 0 = ap starts_of_all e in
    starts.waiting ∙ rw none (omega arith)

pub none_of_all : (image : Image) (t : ℕ) (frame : BaseFrame) (m : Manager) → HasNodeNumbers m
    → m.startup.mode ≡ ConfiguredNodes
    → network_starts (outcome (after_frame t frame m) image).0.waiting ≡ network_starts m.waiting
none_of_all image t frame m h e = of_all m (outcome (after_frame t frame m) image).0 e (frame_starts image t frame m h)
