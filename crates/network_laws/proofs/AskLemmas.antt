-- What the manager reads of a frame, and what an instant reads.
use Rattle.std.proofs.Common.{◌≡◌, ◌≢◌, ℕ, suc, ◌+◌, ◌<◌, Bool, true, false, List, [], ◌∷◌, All, length, Option, Some}
use Rattle.std.proofs.Common.{None, inl, inr, refl, sym, ap, ◌∙◌, subst, arith}
use Rattle.std.specs.Prelude.{Contains, ◌==◌, if◌then◌else◌}
use Rattle.std.proofs.lemmas.List.Elements.{All-from_recursion, Contains-get_or}
use Rattle.image_parts.specs.Asking.{Answer, outcome, reads}
use Rattle.image_parts.specs.Each.{each}
use Rattle.bus_devices.specs.Events.{after_events_at, after_event, after_power_at}
use Rattle.bus_devices.specs.Steps.{steps_due}
use Rattle.image_parts.proofs.EachLemmas.{reads_each}
use Rattle.bus_devices.proofs.EventLemmas.{happens_nmt, happens_set, reads_events}
use Rattle.can_frame.specs.Identifiers.{error_control_id, sdo_answer_id}
use Rattle.can_frame.specs.Senders.{device_sender, manager_sender}
use Rattle.co_device.specs.Device.{Device, after_power, after_reset_node}
use Rattle.image_parts.specs.Contents.{Content, Image, identity_of}
use Rattle.image_parts.specs.declared.identity.Identity.{Identity}
use Rattle.image_parts.specs.declared.part.Part.{Part}
use Rattle.image_parts.specs.declared.part.Part.TheVariants.{Boot, Defaults, Expect, Shape}
use Rattle.co_scenario.specs.declared.step.Step.{Step}
use Rattle.co_scenario.specs.declared.step.Step.TheVariants.{Nmt, Power, Set}
use Rattle.co_scenario.specs.declared.timed_step.TimedStep.{TimedStep}
use Rattle.sdo_client.specs.Client.{after_answer}
use Rattle.sdo_client.specs.declared.progress.Progress.{Progress}
use Rattle.sdo_client.specs.declared.progress.Progress.TheVariants as progress
use Rattle.sdo_client.specs.declared.client_transfer.ClientTransfer.{ClientTransfer as Transfer}
use Rattle.device_agenda.specs.Agenda.{hears}
use Rattle.nmt_boot.proofs.EventLemmas.{answered_reads, boots_reads}
use Rattle.nmt_boot.specs.Manager.{Manager, after_boot_at, after_boot_up, after_frame, after_own_boot_up, after_sdo_frame, has_boot_up_byte}
use Rattle.manager_nodes.specs.Table.{is_own, no_node, node_at, place_of}
use Rattle.node_boot.specs.Boot.{after_compare, after_write, boot_nmt_slave, check_identity, compared_next}
use Rattle.node_boot.specs.Boot.{download_configuration, is_as_expected, next_compared, sdo_answer}
use Rattle.node_boot.specs.declared.boot_stage.BootStage.{BootStage}
use Rattle.node_boot.specs.declared.boot_stage.BootStage.TheVariants.{Unseen, Comparing, Writing, Configured, Failed, Own}
use Rattle.can_bus.specs.Bus.{Bus, after_delivery, ended_slot, after_events, from_delivery_on, delivered_of}
use Rattle.can_bus.specs.Bus.{instant, manager_after_slot, after_window_start}
use Rattle.can_bus.specs.declared.slot.Slot.{Slot}
use Rattle.can_bus.proofs.InstantLemmas.{begun, reads_delivery, reads_instant, run_by_events}
use Rattle.can_bus.proofs.ManagerLemmas.{reads_managed}
use Rattle.can_bus.proofs.NodeLemmas.{reads_nodes}
use Rattle.can_bus.proofs.WindowLemmas.{reads_events_run}
use Rattle.network_laws.specs.Reads.{AsksForWrite, AsksForWriteNow, BeginsBoot, IsReadAt, IsReadAtDelivery}
use Rattle.network_laws.specs.Reads.{IsReadByDevice, IsReadByEvents, IsReadByManager, IsReadToBoot}
use Rattle.network_laws.proofs.ReadLemmas.{AreFor, both_for, frame_reads, it_is, it_is_not, picked, weaker}
use Rattle.network_laws.proofs.StageLemmas.{found_is, found_within, is_boot}
use Rattle.network_laws.proofs.SwitchLemmas.{switch_holds, switch_reads}
use Rattle.network_laws.proofs.ThroughLemmas.{begun_keeps_manager, events_keep_wire}

-- ---- the manager and a frame

module _ (image : Image) (t : ℕ) (slot : Slot) (m : Manager) where
  abbrev R : Part → Type 0
  R part = IsReadByManager image slot m part

  module _ (k : ℕ) (within : k < length m.nodes) where
    abbrev number : ℕ
    number = (node_at m.nodes k).number

    -- it is read to boot this node
    to_boot : (part : Part) → IsReadToBoot image slot (node_at m.nodes k) part → R part
    to_boot part why = (node_at m.nodes k, (Contains-get_or m.nodes k no_node within, why))

    -- the first write, once no number is left to be compared
    checked_reads : (deadline : ℕ) (expected : Identity) (place : ℕ)
        → (next_compared expected place ≡ None → AsksForWriteNow image slot (node_at m.nodes k) 0)
        → AreFor R (reads (check_identity deadline number expected place) image)
    unfolding check_identity download_configuration
    checked_reads deadline expected place h = by (next_compared expected place) h
      where
        by : (next : Option ℕ) → (next ≡ None → AsksForWriteNow image slot (node_at m.nodes k) 0)
            → AreFor R (reads (compared_next deadline number expected next) image)
        by None asks = (to_boot (Boot number 0) (inr (0, (refl, asks refl))), tt)
        by (Some left) asks = tt

    booted_reads : (deadline : ℕ) → BeginsBoot slot (node_at m.nodes k)
        → AreFor R (reads (boot_nmt_slave deadline number) image)
    unfolding boot_nmt_slave
    booted_reads deadline b = (
      to_boot (Expect number) (inl (refl, b)),
      checked_reads deadline (identity_of (image (Expect number))) 0 (λ e. inr (refl, (b, e))),
    )

    module _ (deadline : ℕ) (id : slot.frame.id ≡ sdo_answer_id number) where
      compare_reads : (place : ℕ) (expected : Identity) (transfer : Transfer) (old : ℕ)
          → (node_at m.nodes k).stage ≡ Comparing place expected transfer old → (left : Transfer) (p : Option Progress)
          → (after_answer transfer slot.frame.bytes).progress ≡ p
          → AreFor R (reads (after_compare deadline old number place expected left p) image)
      compare_reads place expected transfer old at left None e = tt
      compare_reads place expected transfer old at left (Some (progress.Ask request)) e = tt
      compare_reads place expected transfer old at left (Some progress.Written) e = tt
      compare_reads place expected transfer old at left (Some (progress.Read bytes)) e =
          picked image R (is_as_expected expected place bytes) _ _
          (λ same. checked_reads deadline expected (place + 1) (λ over.
          inl (subst (λ (stage : BootStage). AsksForWrite number slot stage 0) (sym at)
          (refl, record { is_answer = id; bytes = bytes; read = e; same = same; none_left = over }))))
          (λ differs. tt)
      compare_reads place expected transfer old at left (Some (progress.Failed abort frame)) e = tt

      write_reads : (place : ℕ) (transfer : Transfer) (old : ℕ) → (node_at m.nodes k).stage ≡ Writing place transfer old
          → (left : Transfer) (p : Option Progress)
          → (after_answer transfer slot.frame.bytes).progress ≡ p
          → AreFor R (reads (after_write deadline old number place left p) image)
      unfolding download_configuration
      write_reads place transfer old at left None e = tt
      write_reads place transfer old at left (Some (progress.Ask request)) e = tt
      write_reads place transfer old at left (Some progress.Written) e = (
        to_boot (Boot number (place + 1)) (inr (
          place + 1,
          (
            refl,
            inl (subst (λ (stage : BootStage). AsksForWrite number slot stage (place + 1)) (sym at) (refl, (id, e))),
          ),
        )),
        tt,
      )
      write_reads place transfer old at left (Some (progress.Read bytes)) e = tt
      write_reads place transfer old at left (Some (progress.Failed abort frame)) e = tt

      answer_reads : (stage : BootStage) → (node_at m.nodes k).stage ≡ stage
          → AreFor R (reads (sdo_answer deadline number stage slot.frame.bytes) image)
      unfolding sdo_answer
      answer_reads Unseen at = tt
      answer_reads (Comparing place expected transfer old) at =
          compare_reads place expected transfer old at (after_answer transfer slot.frame.bytes).stage
          (after_answer transfer slot.frame.bytes).progress refl
      answer_reads (Writing place transfer old) at =
          write_reads place transfer old at (after_answer transfer slot.frame.bytes).stage
          (after_answer transfer slot.frame.bytes).progress refl
      answer_reads Configured at = tt
      answer_reads Failed at = tt
      answer_reads Own at = tt

  boot_up_reads : (place : Option ℕ) → place_of (error_control_id 0) slot.frame.id m.nodes ≡ place
      → has_boot_up_byte slot.frame.bytes ≡ true → AreFor R (reads (after_boot_up t place m) image)
  unfolding after_boot_up
  boot_up_reads None e b = tt
  boot_up_reads (Some k) e b = either (is_own (node_at m.nodes k).stage) refl
    where
      either : (x : Bool) → is_own (node_at m.nodes k).stage ≡ x
          → AreFor R (reads (if x then Answer (after_own_boot_up k m, []) else after_boot_at t k m) image)
      either true itself = tt
      either false other =
          rw (boots_reads t k m image)
          (booted_reads k (found_within (error_control_id 0) slot.frame.id m.nodes k e) (t + m.timeout)
          (other, (found_is (error_control_id 0) slot.frame.id m.nodes k e, is_boot slot.frame.bytes b)))

  sdo_reads : (place : Option ℕ) → place_of (sdo_answer_id 0) slot.frame.id m.nodes ≡ place
      → AreFor R (reads (after_sdo_frame t slot.frame.bytes place m) image)
  unfolding after_sdo_frame
  sdo_reads None e = tt
  sdo_reads (Some k) e =
      rw (answered_reads t slot.frame.bytes k m image)
      (answer_reads k (found_within (sdo_answer_id 0) slot.frame.id m.nodes k e) (t + m.timeout)
      (found_is (sdo_answer_id 0) slot.frame.id m.nodes k e)
      (node_at m.nodes k).stage refl)

  manager_reads : AreFor R (reads (after_frame t slot.frame m) image)
  unfolding after_frame
  manager_reads =
      picked image R (has_boot_up_byte slot.frame.bytes) _ _
      (λ b. boot_up_reads (place_of (error_control_id 0) slot.frame.id m.nodes) refl b)
      (λ other. picked image R (length slot.frame.bytes == 8) _ _
      (λ whole. sdo_reads (place_of (sdo_answer_id 0) slot.frame.id m.nodes) refl) (λ short. tt))

-- ---- events

module _ (image : Image) (t manager : ℕ) (due : List TimedStep) where
  abbrev E : Part → Type 0
  E part = IsReadByEvents manager due part

  module _ (step : TimedStep) (node : ℕ) (there : Contains due step) (other : node ≢ manager) where
    power_one : (on : Bool) → step.step ≡ Power node on → (d : Device)
        → AreFor E (reads (after_power_at t node on d) image)
    unfolding after_power_at after_power after_reset_node
    power_one false is d = picked image E (d.number == node) _ _ (λ e. tt) (λ e. tt)
    power_one true is d =
        picked image E (d.number == node) _ _
        (λ e.
        let same = it_is d.number node e in
        picked image E d.has_power _ _ (λ on. tt)
        (λ off. (
          (node, (other, (inl (ap Defaults same), (step, (there, is))))),
          ((node, (other, (inr (ap Shape same), (step, (there, is))))), tt),
        )))
        (λ e. tt)

    power_all : (on : Bool) → step.step ≡ Power node on → (ds : List Device)
        → AreFor E (reads (each (after_power_at t node on) ds) image)
    power_all on is [] = tt
    power_all on is (d ∷ ds) =
        rw (reads_each (after_power_at t node on) d ds image)
        (both_for E (reads (after_power_at t node on d) image) _ (power_one on is d) (power_all on is ds))

  -- the manager keeps its number
  still : (step : Step) (ds : List Device) (m : Manager) → m.number ≡ manager
      → (outcome (after_event t step (ds, m)) image).1.number ≡ manager
  still (Set node index sub bytes) ds m e = rw (happens_set t ds m node index sub bytes) e
  still (Power node on) ds m e =
      switch_holds t ds m node on image (λ (r : List Device × Manager). r.1.number ≡ manager) e e
  still (Nmt node command) ds m e = rw (happens_nmt t ds m node command) e

  one_event : (step : TimedStep) → Contains due step → (s : Step) → step.step ≡ s → (ds : List Device) (m : Manager)
      → m.number ≡ manager → AreFor E (reads (after_event t s (ds, m)) image)
  unfolding after_event
  one_event step there (Set node index sub bytes) is ds m e = tt
  one_event step there (Power node on) is ds m e =
      switch_reads t ds m node on image (λ rs. AreFor E rs) tt
      (λ other. power_all step node there (λ same. it_is_not m.number node other (e ∙ sym same)) on is ds)
  one_event step there (Nmt node command) is ds m e = tt

  first_there : (step : TimedStep) (steps : List TimedStep)
      → ((x : TimedStep) → Contains (step ∷ steps) x → Contains due x) → Contains due step
  first_there step steps h = h step (0, omega arith, refl)

  later_there : (step : TimedStep) (steps : List TimedStep)
      → ((x : TimedStep) → Contains (step ∷ steps) x → Contains due x) → (x : TimedStep) → Contains steps x
      → Contains due x
  later_there step steps h x c = h x (suc c.0, omega (arith, c.1), c.2)

  all_events : (steps : List TimedStep) → ((x : TimedStep) → Contains steps x → Contains due x)
      → (ds : List Device) (m : Manager) → m.number ≡ manager
      → AreFor E (reads (after_events_at t steps (ds, m)) image)
  unfolding after_events_at
  all_events [] h ds m e = tt
  all_events (step ∷ steps) h ds m e =
      let after = outcome (after_event t step.step (ds, m)) image in
      rw (reads_events t step steps (ds, m) image)
      (both_for E (reads (after_event t step.step (ds, m)) image) _
      (one_event step (first_there step steps h) step.step refl ds m e)
      (all_events steps (later_there step steps h) after.0 after.1 (still step.step ds m e)))

-- ---- the delivery

module _ (image : Image) (t : ℕ) (slot : Slot) (s : Bus) where
  abbrev D : Part → Type 0
  D part = IsReadAtDelivery image slot s part

  device_hears : (d : Device) → Contains s.devices d → AreFor D (reads (hears t (delivered_of slot) d) image)
  unfolding hears
  device_hears d there =
      picked image D (device_sender d.number == slot.sender) _ _ (λ own. tt)
      (λ other. weaker (λ part. (d.has_power ≡ true) × IsReadByDevice slot.frame d part) D
      (λ part h. inl (d, (there, (it_is_not (device_sender d.number) slot.sender other, h)))) _ (frame_reads image t slot.frame d))

  devices_hear : (ds : List Device) → ((x : Device) → Contains ds x → Contains s.devices x)
      → AreFor D (reads (each (hears t (delivered_of slot)) ds) image)
  devices_hear [] h = tt
  devices_hear (d ∷ ds) h =
      rw (reads_each (hears t (delivered_of slot)) d ds image)
      (both_for D (reads (hears t (delivered_of slot) d) image) _ (device_hears d (h d (0, omega arith, refl)))
      (devices_hear ds (λ x c. h x (suc c.0, omega (arith, c.1), c.2))))

  manager_there : AreFor D (reads (manager_after_slot t (Some slot) s.manager) image)
  unfolding manager_after_slot
  manager_there =
      picked image D (manager_sender s.manager.number == slot.sender) _ _ (λ own. tt)
      (λ other. weaker (IsReadByManager image slot s.manager) D
      (λ part h. inr (it_is_not (manager_sender s.manager.number) slot.sender other, h)) _ (manager_reads image t slot s.manager))

module _ (image : Image) (t : ℕ) (s : Bus) where
  abbrev Heard : Option Slot → Part → Type 0
  Heard o part = (slot : Slot) × ((o ≡ Some slot) × IsReadAtDelivery image slot s part)

  delivered_reads : (o : Option Slot) → AreFor (Heard o) (reads (after_delivery t o s.devices) image)
  unfolding after_delivery
  delivered_reads None = tt
  delivered_reads (Some slot) =
      weaker (IsReadAtDelivery image slot s) (Heard (Some slot))
      (λ part h. (slot, (refl, h))) _ (devices_hear image t slot s s.devices (λ x c. c))

  nothing_heard : AreFor (Heard None) (reads (manager_after_slot t None s.manager) image)
  unfolding manager_after_slot
  nothing_heard = tt

  heard_reads : (o : Option Slot) → AreFor (Heard o) (reads (manager_after_slot t o s.manager) image)
  heard_reads None = nothing_heard
  heard_reads (Some slot) =
      weaker (IsReadAtDelivery image slot s) (Heard (Some slot))
      (λ part h. (slot, (refl, h))) _ (manager_there image t slot s)

  delivery_reads : AreFor (Heard (ended_slot t s.wire)) (reads (from_delivery_on t s) image)
  delivery_reads =
      rw (
        reads_delivery t s image,
        reads_nodes t (ended_slot t s.wire) s.manager s.devices image,
        reads_managed t (ended_slot t s.wire) s.manager image,
      )
      (both_for (Heard (ended_slot t s.wire))
      (reads (after_delivery t (ended_slot t s.wire) s.devices) image) _ (delivered_reads (ended_slot t s.wire))
      (heard_reads (ended_slot t s.wire)))

-- ---- THE INSTANT

module _ (image : Image) (t : ℕ) (s : Bus) where
  abbrev A : Part → Type 0
  A part = IsReadAt image t s part

  window_for : AreFor A (reads (after_window_start t s) image)
  unfolding after_window_start
  window_for = picked image A (t == s.window) _ _ (λ e. (inl (it_is t s.window e, refl), tt)) (λ e. tt)

  events_for : AreFor A (reads (after_events t (begun t s image)) image)
  events_for =
      let b = begun t s image in
      let due = steps_due t b.steps in
      rw (reads_events_run t b image)
      (weaker (IsReadByEvents s.manager.number due) A (λ part h. inr (inl h)) _
      (all_events image t s.manager.number due due (λ x c. c) b.devices b.manager
      (ap (λ (m : Manager). m.number) (begun_keeps_manager image t s))))

  delivery_for : AreFor A (reads (from_delivery_on t (run_by_events t s image)) image)
  delivery_for =
      let b = run_by_events t s image in
      weaker (Heard image t b (ended_slot t b.wire)) A
      (λ part h. inr (inr (h.0, (ap (ended_slot t) (sym (events_keep_wire image t s)) ∙ h.1.0, h.1.1)))) _
      (delivery_reads image t b)

  all_for : AreFor A (reads (instant t s) image)
  all_for =
      rw (reads_instant t s image)
      (both_for A (reads (after_window_start t s) image) _ window_for
      (both_for A (reads (after_events t (begun t s image)) image) _ events_for delivery_for))

pub instant_reads : (image : Image) (t : ℕ) (s : Bus)
    → All (λ (r : Part × Content). IsReadAt image t s r.0) (reads (instant t s) image)
instant_reads image t s = All-from_recursion (λ (r : Part × Content). IsReadAt image t s r.0)
    (reads (instant t s) image) (all_for image t s)
