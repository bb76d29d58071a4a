-- What the delivery of a frame, or an instant without one, makes of the exchange with a node.
use Rattle.std.proofs.Common.{◌≡◌, ◌≢◌, ℕ, ◌+◌, Bool, true, false, List, [], ◌++◌, Option, Some, None}
use Rattle.std.proofs.Common.{◌⊎◌, inl, inr, refl, sym, ap, ◌∙◌, subst, arith}
use Rattle.std.specs.Prelude.{◌==◌, if◌then◌else◌}
use Rattle.std.proofs.lemmas.List.Elements.{All-nil}
use Rattle.image_parts.specs.Asking.{Answer, outcome}
use Rattle.network_laws.proofs.NodeLemmas.{boot_begins, frame_goes, own_greeted, timers_go}
use Rattle.network_laws.proofs.OwnLemmas.{frame_stays}
use Rattle.network_laws.proofs.StepLemmas.{answer_followed, boot_begins as begins_as}
use Rattle.network_laws.specs.Requests.{IsAlone, LeavesBoot, TakesStep, numbers_of}
use Rattle.can_frame.specs.ErrorControl.{IsBootUp}
use Rattle.cia301.specs.Limits.{IsNodeNumber}
use Rattle.network_laws.specs.Requests.{requests_to}
use Rattle.can_bus.specs.Bus.{delivered_of, manager_after_slot}
use Rattle.can_bus.specs.declared.slot.Slot.{Slot}
use Rattle.can_frame.specs.Identifiers.{error_control_id, sdo_answer_id, sdo_request_id}
use Rattle.can_frame.specs.Senders.{device_sender, manager_sender}
use Rattle.can_frame.specs.WaitingFrames.{waits_for}
use Rattle.can_frame.specs.declared.purpose.Purpose.TheVariants.{BootUp}
use Rattle.can_frame.specs.declared.waiting.Waiting.{Waiting}
use Rattle.co_device.specs.Device.{Device, after_instant}
use Rattle.co_device.specs.Receiving.{after_frame}
use Rattle.image_parts.specs.Contents.{Image}
use Rattle.image_parts.specs.declared.roster.Roster.{Roster}
use Rattle.device_agenda.specs.Agenda.{hears}
use Rattle.network_laws.specs.States.{HasBooted}
use Rattle.network_laws.specs.Leaves.{LeavesServer, ServesRequest}
use Rattle.network_laws.specs.Writes.{writes_of_frame}
use Rattle.network_laws.specs.Written.{AreOf, Written}
use Rattle.network_laws.specs.Exchanges.{Exchanges}
use Rattle.network_laws.specs.Marks.{written_by_frame}
use Rattle.network_laws.proofs.BootLemmas.{exchange_begins, exchange_fails, exchange_steps, own_greeted as exchange_greeted}
use Rattle.network_laws.proofs.DeviceLemmas.{exchange_left, exchange_served, slot_over}
use Rattle.network_laws.proofs.MarkLemmas.{told}
use Rattle.network_laws.proofs.Others.{frame_does, frame_writes_own, instant_leaves}
use Rattle.network_laws.proofs.RosterLemmas.{IsItsAnswer, IsItsBootUp, IsNone, IsToIt, Kind, alone_still}
use Rattle.network_laws.proofs.RosterLemmas.{number_still, two_senders}
use Rattle.network_laws.proofs.SendLemmas.{IsForeign}
use Rattle.nmt_boot.specs.Manager.{Manager, timers}
use Rattle.manager_nodes.specs.Table.{is_own, node_at, sdo_frames}
use Rattle.nmt_boot.specs.Manager as manager
use Rattle.node_boot.specs.Boot.{boot_nmt_slave, sdo_answer}
use Rattle.node_boot.specs.declared.boot_stage.BootStage.{BootStage}
use Rattle.node_boot.specs.declared.boot_stage.BootStage.TheVariants.{Failed}
use Rattle.node_boot.specs.declared.boot_step.BootStep.{BootStep}
use Rattle.network_laws.proofs.WaitingLemmas.{number_itself, number_other}
use Rattle.std.proofs.lemmas.Bool.{cases_eq}

-- a node that has booted has its boot-up message waiting
pub booted_exchanges : (image : Image) (n : ℕ) (marks : ℕ × ℕ → Bool) (d : Device) (number : ℕ) → HasBooted number d
    → (stage : BootStage) (requests : List Waiting) (wire : Option Slot)
    → Exchanges image n marks d stage requests wire
booted_exchanges image n marks d number h stage requests wire on up =
    absurd (not_both (sym (ap (waits_for BootUp) h.waits) ∙ up))
  where
    not_both : true ≡ false → ⊥
    not_both e = absurd cc

pub dark_exchanges : (image : Image) (n : ℕ) (marks : ℕ × ℕ → Bool) (d : Device) → d.has_power ≡ false
    → (stage : BootStage) (requests : List Waiting) (wire : Option Slot)
    → Exchanges image n marks d stage requests wire
dark_exchanges image n marks d off stage requests wire on up = absurd (not_both (sym on ∙ off))
  where
    not_both : true ≡ false → ⊥
    not_both e = absurd cc

module _ (image : Image) (n : ℕ) where
  abbrev pub Ex : (ℕ × ℕ → Bool) → Device → Manager → ℕ → Option Slot → Type 0
  Ex marks d m i wire =
      Exchanges image n marks d (node_at m.nodes i).stage (requests_to n m.waiting) wire

  -- marks that are the same
  abbrev Same : (ℕ × ℕ → Bool) → (ℕ × ℕ → Bool) → Type 0
  Same marks after = (place : ℕ × ℕ) → after place ≡ marks place

  -- ---- what the device does of itself

  nothing_of : AreOf n []
  nothing_of = All-nil (λ (w : Written). w.node ≡ n)

  pub device_runs : (t : ℕ) (marks : ℕ × ℕ → Bool) (d : Device) (m : Manager) (i : ℕ) (wire : Option Slot)
      → Ex marks d m i wire → Ex marks (after_instant t d) m i wire
  device_runs t marks d m i wire h =
      exchange_left image n marks marks d (after_instant t d) [] (λ place. refl) nothing_of (instant_leaves t d)
      (node_at m.nodes i).stage (requests_to n m.waiting) wire h

  -- ---- the manager leaves the boot

  pub boot_left : (marks : ℕ × ℕ → Bool) (d : Device) (m after : Manager) (i : ℕ) (wire : Option Slot)
      → (node_at m.nodes i).number ≡ n → LeavesBoot i m after → Ex marks d m i wire → Ex marks d after i wire
  boot_left marks d m after i wire number l h =
      let same : requests_to n after.waiting ≡ requests_to n m.waiting =
      subst (λ k. requests_to k after.waiting ≡ requests_to k m.waiting) number l.requests in
      subst (λ (s : BootStage). Exchanges image n marks d s (requests_to n after.waiting) wire)
      (ap (λ (b : Rattle.manager_nodes.specs.declared.booting.Booting.Booting). b.stage) (sym l.node))
      (subst (λ (ws : List Waiting). Exchanges image n marks d (node_at m.nodes i).stage ws wire) (sym same) h)

  -- its timers
  pub manager_runs : (t : ℕ) (marks : ℕ × ℕ → Bool) (d : Device) (m : Manager) (i : ℕ) (wire : Option Slot)
      → (node_at m.nodes i).number ≡ n → IsAlone m.nodes i → Ex marks d m i wire
      → Ex marks d (timers t m).0 i wire
  manager_runs t marks d m i wire number alone h = by (timers_go m i alone t)
    where
      by : ((node_at (timers t m).0.nodes i).stage ≡ Failed) ⊎ LeavesBoot i m (timers t m).0
          → Ex marks d (timers t m).0 i wire
      by (inl failed) =
          subst (λ (s : BootStage). Exchanges image n marks d s (requests_to n (timers t m).0.waiting) wire)
          (sym failed)
          (exchange_fails image n 0 marks d (node_at m.nodes i).stage (requests_to n m.waiting)
          (requests_to n (timers t m).0.waiting) wire h)
      by (inr l) = boot_left marks d m (timers t m).0 i wire number l h

  -- ---- a step of the boot

  stepped_to : (marks : ℕ × ℕ → Bool) (d : Device) (m after : Manager) (i : ℕ) (step : BootStep) (left : List Waiting)
      → (node_at m.nodes i).number ≡ n → TakesStep i step left m after
      → Exchanges image n marks d step.stage (left ++ sdo_frames n step.request) None
      → Ex marks d after i None
  stepped_to marks d m after i step left number s h =
      let sent : requests_to n after.waiting ≡ left ++ sdo_frames n step.request =
      subst (λ k. requests_to k after.waiting ≡ left ++ sdo_frames k step.request) number s.requests in
      subst (λ (x : BootStage). Exchanges image n marks d x (requests_to n after.waiting) None)
      (ap (λ (b : Rattle.manager_nodes.specs.declared.booting.Booting.Booting). b.stage) (sym s.stage))
      (subst (λ (ws : List Waiting). Exchanges image n marks d step.stage ws None) (sym sent) h)

  module _ (t : ℕ) (marks : ℕ × ℕ → Bool) (d : Device) (m : Manager) (i : ℕ) (slot : Slot)
      (number : (node_at m.nodes i).number ≡ n) (alone : IsAlone m.nodes i) where
    abbrev heard : Manager
    heard = (outcome (manager.after_frame t slot.frame m) image).0

    abbrev step : BootStep
    step = outcome (sdo_answer (t + m.timeout)
        (node_at m.nodes i).number (node_at m.nodes i).stage slot.frame.bytes) image

    -- by its boot-up message, where it isn't the manager's own
    manager_begins : is_own (node_at m.nodes i).stage ≡ false → IsBootUp n slot.frame → Ex marks d m i (Some slot)
        → Ex marks d heard i None
    manager_begins other b h =
        stepped_to marks d m heard i (outcome (boot_nmt_slave (t + m.timeout) (node_at m.nodes i).number) image) [] number
        (boot_begins m i alone image t slot.frame other (subst (λ k. IsBootUp k slot.frame) (sym number) b))
        (exchange_begins image n (t + m.timeout) marks d (node_at m.nodes i).stage (requests_to n m.waiting) slot b
        (outcome (boot_nmt_slave (t + m.timeout) (node_at m.nodes i).number) image)
        (subst (λ k. Rattle.network_laws.specs.Steps.ComparesOrWrites image (t + m.timeout) n
        (outcome (boot_nmt_slave (t + m.timeout) k) image)
        (outcome (boot_nmt_slave (t + m.timeout) k) image).stage) (sym number)
        (begins_as image (t + m.timeout) n)) h)

    -- by that of its own node
    manager_greets : is_own (node_at m.nodes i).stage ≡ true → requests_to n m.waiting ≡ [] → IsBootUp n slot.frame
        → Ex marks d m i (Some slot) → Ex marks d heard i None
    manager_greets itself unasked b h =
        boot_left marks d m heard i None number
        (own_greeted m i alone image t slot.frame itself (subst (λ k. IsBootUp k slot.frame) (sym number) b))
        (exchange_greeted image n (t + m.timeout) marks d (node_at m.nodes i).stage (requests_to n m.waiting) slot b
        itself unasked h)

    -- by any other frame
    manager_hears : (IsBootUp n slot.frame → ⊥) → Ex marks d m i (Some slot) → Ex marks d heard i None
    manager_hears other h =
        by (frame_goes m i alone image t slot.frame
        (λ b. other (subst (λ k. IsBootUp k slot.frame) number b)))
      where
        by : ((slot.frame.id ≡ sdo_answer_id (node_at m.nodes i).number)
            × TakesStep i step (requests_to (node_at m.nodes i).number m.waiting) m heard)
            ⊎ LeavesBoot i m heard → Ex marks d heard i None
        by (inr l) =
            boot_left marks d m heard i None number l
            (slot_over image n marks d (node_at m.nodes i).stage (requests_to n m.waiting) slot other h)
        by (inl s) =
            stepped_to marks d m heard i step (requests_to n m.waiting) number
            (subst (λ k. TakesStep i step (requests_to k m.waiting) m heard) number s.1)
            (exchange_steps image n (t + m.timeout) marks d (node_at m.nodes i).stage (requests_to n m.waiting) slot
            (s.0 ∙ ap sdo_answer_id number) step
            (subst (λ k. Rattle.network_laws.specs.Steps.FollowsAnswer image (t + m.timeout) n slot.frame.bytes
            (outcome (sdo_answer (t + m.timeout) k (node_at m.nodes i).stage slot.frame.bytes) image)
            (node_at m.nodes i).stage) (sym number)
            (answer_followed image (t + m.timeout) n (node_at m.nodes i).stage slot.frame.bytes)) h)

    -- what the manager does where the wire has given its frame to the device already
    manager_ignores : (IsBootUp n slot.frame → ⊥) → slot.frame.id ≢ sdo_answer_id n → Ex marks d m i None
        → Ex marks d heard i None
    manager_ignores other no_answer h =
        by (frame_goes m i alone image t slot.frame
        (λ b. other (subst (λ k. IsBootUp k slot.frame) number b)))
      where
        by : ((slot.frame.id ≡ sdo_answer_id (node_at m.nodes i).number)
            × TakesStep i (outcome (sdo_answer (t + m.timeout)
            (node_at m.nodes i).number (node_at m.nodes i).stage slot.frame.bytes) image)
            (requests_to (node_at m.nodes i).number m.waiting) m heard)
            ⊎ LeavesBoot i m heard → Ex marks d heard i None
        by (inl s) = absurd (no_answer (s.0 ∙ ap sdo_answer_id number))
        by (inr l) = boot_left marks d m heard i None number l h

  -- ---- a frame comes to the device, and its slot is over

  module _ (t : ℕ) (marks after : ℕ × ℕ → Bool) (d : Device) (m : Manager) (i : ℕ) (slot : Slot)
      (of_node : d.number ≡ n) where
    abbrev taken : Device
    taken = outcome (after_frame t slot.frame d) image

    device_takes : (IsBootUp n slot.frame → ⊥)
        → ((place : ℕ × ℕ) → after place ≡ told (marks place) (writes_of_frame image t slot.frame d) n place)
        → Ex marks d m i (Some slot) → Ex after taken m i None
    device_takes other now h = by (frame_does image t slot.frame d)
      where
        own : AreOf n (writes_of_frame image t slot.frame d)
        own = subst (λ k. AreOf k (writes_of_frame image t slot.frame d)) of_node
            (frame_writes_own image t slot.frame d)

        by : (HasBooted d.number taken × (writes_of_frame image t slot.frame d ≡ []))
            ⊎ (ServesRequest image slot.frame (writes_of_frame image t slot.frame d) d taken
            ⊎ LeavesServer (writes_of_frame image t slot.frame d) d taken) → Ex after taken m i None
        by (inl booted) =
            booted_exchanges image n after taken d.number booted.0 (node_at m.nodes i).stage
            (requests_to n m.waiting) None
        by (inr (inl served)) =
            exchange_served image n marks after d taken slot (writes_of_frame image t slot.frame d) now of_node served
            (node_at m.nodes i).stage (requests_to n m.waiting) h
        by (inr (inr left)) =
            slot_over image n after taken (node_at m.nodes i).stage (requests_to n m.waiting) slot other
            (exchange_left image n marks after d taken (writes_of_frame image t slot.frame d) now own left
            (node_at m.nodes i).stage (requests_to n m.waiting) (Some slot) h)

    -- the device that sends it doesn't hear it
    device_sends : ((place : ℕ × ℕ) → after place ≡ marks place) → (wire : Option Slot) → Ex marks d m i wire
        → Ex after (after_instant t d) m i wire
    device_sends now wire h =
        exchange_left image n marks after d (after_instant t d) [] now nothing_of (instant_leaves t d)
        (node_at m.nodes i).stage (requests_to n m.waiting) wire h

  -- ---- ALL OF A DELIVERY: the device, its timers, the manager and its timers

  module _ (roster : Roster) (is : IsNodeNumber n) (t : ℕ)
      (marks after : ℕ × ℕ → Bool) (d : Device) (m : Manager) (i : ℕ) (slot : Slot) (of_node : d.number ≡ n)
      (number : (node_at m.nodes i).number ≡ n) (alone : IsAlone m.nodes i) (manager_is : m.number ≡ roster.manager)
      (unasked : is_own (node_at m.nodes i).stage ≡ true → requests_to n m.waiting ≡ [])
      (now : (place : ℕ × ℕ) → after place ≡ told (marks place) (written_by_frame image t slot d) n place) where
    abbrev d_after : Device
    d_after = after_instant t (outcome (hears t (delivered_of slot) d) image)

    abbrev m_heard : Manager
    m_heard = (outcome (manager_after_slot t (Some slot) m) image).0

    abbrev m_after : Manager
    m_after = (timers t m_heard).0

    -- who sends it
    own_unheard : slot.sender ≡ device_sender n → outcome (hears t (delivered_of slot) d) image ≡ d
    unfolding hears
    own_unheard e = rw (of_node, e, number_itself (device_sender n)) refl

    other_heard : slot.sender ≢ device_sender n → outcome (hears t (delivered_of slot) d) image
        ≡ outcome (after_frame t slot.frame d) image
    unfolding hears
    other_heard e = rw (of_node, number_other (device_sender n) slot.sender (λ x. e (sym x))) refl

    own_unwritten : slot.sender ≡ device_sender n → (place : ℕ × ℕ) → after place ≡ marks place
    own_unwritten e place = now place ∙ ap (λ (ws : List Written). told (marks place) ws n place)
        (none (device_sender d.number == slot.sender) (ap (λ x. device_sender d.number == x) e
        ∙ ap (λ x. device_sender x == device_sender n) of_node ∙ number_itself (device_sender n)))
      where
        none : (b : Bool) → b ≡ true → (if b then [] else writes_of_frame image t slot.frame d) ≡ []
        none true x = refl
        none false x = absurd cc

    other_written : slot.sender ≢ device_sender n → (place : ℕ × ℕ)
        → after place ≡ told (marks place) (writes_of_frame image t slot.frame d) n place
    other_written e place = now place ∙ ap (λ (ws : List Written). told (marks place) ws n place)
        (all (device_sender d.number == slot.sender) (ap (λ x. device_sender x == slot.sender) of_node
        ∙ number_other (device_sender n) slot.sender (λ x. e (sym x))))
      where
        all : (b : Bool) → b ≡ false → (if b then [] else writes_of_frame image t slot.frame d)
            ≡ writes_of_frame image t slot.frame d
        all true x = absurd cc
        all false x = refl

    manager_unheard : slot.sender ≡ manager_sender roster.manager → m_heard ≡ m
    unfolding manager_after_slot
    manager_unheard e = by (manager_sender m.number == slot.sender)
        (ap (λ x. manager_sender m.number == x) e ∙ ap (λ x. manager_sender x == manager_sender roster.manager) manager_is
        ∙ number_itself (manager_sender roster.manager))
      where
        by : (b : Bool) → b ≡ true
            → (outcome (if b then Answer (m, []) else manager.after_frame t slot.frame m) image).0 ≡ m
        by true x = refl
        by false x = absurd cc

    manager_heard : slot.sender ≢ manager_sender roster.manager
        → m_heard ≡ (outcome (manager.after_frame t slot.frame m) image).0
    unfolding manager_after_slot
    manager_heard e = by (manager_sender m.number == slot.sender)
        (ap (λ x. manager_sender x == slot.sender) manager_is
        ∙ number_other (manager_sender roster.manager) slot.sender (λ x. e (sym x)))
      where
        by : (b : Bool) → b ≡ false
            → (outcome (if b then Answer (m, []) else manager.after_frame t slot.frame m) image).0
            ≡ (outcome (manager.after_frame t slot.frame m) image).0
        by true x = absurd cc
        by false x = refl

    -- the manager's timers, on what it heard
    runs_on : (e : Device) (o : Manager) → numbers_of o.nodes ≡ numbers_of m.nodes → Ex after e o i None
        → Ex after e (timers t o).0 i None
    runs_on e o same h =
        manager_runs t after e o i None (number_still m.nodes o.nodes i same n alone number)
        (alone_still m.nodes o.nodes i same alone) h

    abbrev Done : Device → Manager → Type 0
    Done e o = Ex after (after_instant t e) (timers t o).0 i None

    finish : (e : Device) (o : Manager) → outcome (hears t (delivered_of slot) d) image ≡ e → m_heard ≡ o
        → numbers_of o.nodes ≡ numbers_of m.nodes → Ex after (after_instant t e) o i None
        → Ex after d_after m_after i None
    finish e o f g same h =
        subst (λ (x : Manager). Ex after d_after (timers t x).0 i None) (sym g)
        (subst (λ (x : Device). Ex after (after_instant t x) (timers t o).0 i None) (sym f)
        (runs_on (after_instant t e) o same h))

    heard_same : numbers_of (outcome (manager.after_frame t slot.frame m) image).0.nodes ≡ numbers_of m.nodes
    heard_same = (frame_stays image t slot.frame m).numbers

    not_manager : slot.sender ≡ device_sender n → slot.sender ≢ manager_sender roster.manager
    not_manager e f = two_senders n roster.manager (sym e ∙ f)

    answer_no_boot : slot.frame.id ≡ sdo_answer_id n → IsBootUp n slot.frame → ⊥
    answer_no_boot e b = no_both e b.0
      where
        no_both : slot.frame.id ≡ sdo_answer_id n → slot.frame.id ≡ error_control_id n → ⊥
        no_both x y = omega (arith, x, y)

    request_no_boot : slot.frame.id ≡ sdo_request_id n → IsBootUp n slot.frame → ⊥
    request_no_boot e b = no_both e b.0
      where
        no_both : slot.frame.id ≡ sdo_request_id n → slot.frame.id ≡ error_control_id n → ⊥
        no_both x y = omega (arith, x, y)

    -- a frame that is none of the exchange, once the device has had it
    foreign_heard : (e : Device) → outcome (hears t (delivered_of slot) d) image ≡ e → IsForeign n is slot.frame
        → Ex after (after_instant t e) m i None → Ex after d_after m_after i None
    foreign_heard e f foreign h = by (cases_eq slot.sender (manager_sender roster.manager))
      where
        by : (slot.sender ≡ manager_sender roster.manager) ⊎ (slot.sender ≢ manager_sender roster.manager)
            → Ex after d_after m_after i None
        by (inl its) = finish e m f (manager_unheard its) refl h
        by (inr other) =
            finish e (outcome (manager.after_frame t slot.frame m) image).0 f (manager_heard other) heard_same
            (manager_ignores t after (after_instant t e) m i slot number alone foreign.no_boot_up foreign.no_answer h)

    pub delivery_turns : Kind roster n is slot → Ex marks d m i (Some slot) → Ex after d_after m_after i None
    delivery_turns (IsItsBootUp from_node b) h =
        finish d (outcome (manager.after_frame t slot.frame m) image).0 (own_unheard from_node)
        (manager_heard (not_manager from_node)) heard_same
        (by (is_own (node_at m.nodes i).stage) refl
        (device_sends t marks after d m i slot of_node (own_unwritten from_node) (Some slot) h))
      where
        by : (x : Bool) → is_own (node_at m.nodes i).stage ≡ x → Ex after (after_instant t d) m i (Some slot)
            → Ex after (after_instant t d) (outcome (manager.after_frame t slot.frame m) image).0 i None
        by true itself = manager_greets t after (after_instant t d) m i slot number alone itself (unasked itself) b
        by false other = manager_begins t after (after_instant t d) m i slot number alone other b
    delivery_turns (IsItsAnswer from_node id) h =
        finish d (outcome (manager.after_frame t slot.frame m) image).0 (own_unheard from_node)
        (manager_heard (not_manager from_node)) heard_same
        (manager_hears t after (after_instant t d) m i slot number alone (answer_no_boot id)
        (device_sends t marks after d m i slot of_node (own_unwritten from_node) (Some slot) h))
    delivery_turns (IsToIt other from_manager id) h =
        finish (outcome (after_frame t slot.frame d) image) m (other_heard other) (manager_unheard from_manager) refl
        (device_runs t after (outcome (after_frame t slot.frame d) image) m i None
        (device_takes t marks after d m i slot of_node (request_no_boot id) (other_written other) h))
    delivery_turns (IsNone foreign) h = by (cases_eq slot.sender (device_sender n))
      where
        by : (slot.sender ≡ device_sender n) ⊎ (slot.sender ≢ device_sender n) → Ex after d_after m_after i None
        by (inl from_node) =
            foreign_heard d (own_unheard from_node) foreign
            (slot_over image n after (after_instant t d) (node_at m.nodes i).stage (requests_to n m.waiting) slot
            foreign.no_boot_up
            (device_sends t marks after d m i slot of_node (own_unwritten from_node) (Some slot) h))
        by (inr other) =
            foreign_heard (outcome (after_frame t slot.frame d) image) (other_heard other) foreign
            (device_runs t after (outcome (after_frame t slot.frame d) image) m i None
            (device_takes t marks after d m i slot of_node foreign.no_boot_up (other_written other) h))
