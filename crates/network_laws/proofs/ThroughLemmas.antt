-- What an instant does to the manager: the commands of its events, the frame that is delivered, the timers, and a
-- frame that starts.
use Rattle.std.proofs.Common.{◌≡◌, ℕ, Bool, true, false, List, [], ◌∷◌, Option, Some, None, refl, ap, map, subst, sym}
use Rattle.std.specs.Prelude.{◌==◌, if◌then◌else◌, remove}
use Rattle.image_parts.specs.Asking.{Answer, outcome}
use Rattle.bus_devices.specs.Events.{after_events_at, after_event}
use Rattle.bus_devices.specs.Steps.{steps_due}
use Rattle.bus_devices.proofs.EventLemmas.{happens_nmt, happens_set, outcome_events}
use Rattle.can_frame.specs.declared.contender.Contender.{Contender}
use Rattle.co_device.specs.Device.{Device, after_instant}
use Rattle.image_parts.specs.Contents.{Image}
use Rattle.co_scenario.specs.declared.nmt_command.NmtCommand.{NmtCommand}
use Rattle.co_scenario.specs.declared.step.Step.{Step}
use Rattle.co_scenario.specs.declared.step.Step.TheVariants.{Set, Power, Nmt}
use Rattle.co_scenario.specs.declared.timed_step.TimedStep.{TimedStep}
use Rattle.nmt_boot.specs.Manager.{Manager, with_command, after_frame, timers}
use Rattle.bus_devices.specs.Senders.{sender_place}
use Rattle.can_bus.specs.Bus.{Bus, after_delivery, ended_slot, from_delivery_on, instant, manager_after_delivery}
use Rattle.can_bus.specs.Bus.{manager_without_winner, manager_after_slot, open_slot, after_arbitration, after_start_on}
use Rattle.can_bus.specs.Bus.{with_slot_of, after_window_start, winner}
use Rattle.can_bus.specs.declared.slot.Slot.{Slot}
use Rattle.can_bus.proofs.InstantLemmas.{begun, outcome_delivery, outcome_instant, run_by_events}
use Rattle.can_bus.proofs.ManagerLemmas.{outcome_managed}
use Rattle.can_bus.proofs.NodeLemmas.{outcome_nodes}
use Rattle.can_bus.proofs.TimeLemmas.{goes_on, starts}
use Rattle.can_bus.proofs.WindowLemmas.{outcome_events_run}
use Rattle.can_frame.specs.Senders.{manager_sender}
use Rattle.network_laws.proofs.SwitchLemmas.{switch_holds}
use Rattle.network_laws.specs.Starts.{at_arbitration}

-- ---- events and the frame that ends

begun_keeps_wire : (image : Image) (t : ℕ) (s : Bus) → (outcome (after_window_start t s) image).wire ≡ s.wire
begun_keeps_wire image t s = by (t == s.window) refl
  where
    by : (b : Bool) → (t == s.window) ≡ b → (outcome (after_window_start t s) image).wire ≡ s.wire
    by true e = rw (starts image t s e) refl
    by false e = rw (goes_on image t s e) refl

pub begun_keeps_manager : (image : Image) (t : ℕ) (s : Bus) → (outcome (after_window_start t s) image).manager ≡ s.manager
begun_keeps_manager image t s = by (t == s.window) refl
  where
    by : (b : Bool) → (t == s.window) ≡ b → (outcome (after_window_start t s) image).manager ≡ s.manager
    by true e = rw (starts image t s e) refl
    by false e = rw (goes_on image t s e) refl

-- the events leave the wire
pub events_keep_wire : (image : Image) (t : ℕ) (s : Bus) → (run_by_events t s image).wire ≡ s.wire
events_keep_wire image t s = rw (outcome_events_run t (begun t s image) image) (begun_keeps_wire image t s)

-- ---- what is kept before the frame, after it, and after the timers

module _ (image : Image) (t : ℕ) (s : Bus) (Before Heard After : Manager → Type 0)
    (command : (c : NmtCommand) (node : ℕ) (m : Manager) → Before m → Before (with_command c node m))
    (hears : (m : Manager) → Before m → Heard (outcome (manager_after_slot t (ended_slot t s.wire) m) image).0)
    (timed : (m : Manager) → Heard m → After (timers t m).0)
    (sent : (m : Manager) (place : ℕ) → After m → After (record m { waiting = remove m.waiting place })) where
  one_event : (step : Step) (ds : List Device) (m : Manager) → Before m
      → Before (outcome (after_event t step (ds, m)) image).1
  one_event (Set node index sub bytes) ds m h = rw (happens_set t ds m node index sub bytes) h
  one_event (Power node on) ds m h = switch_holds t ds m node on image (λ r. Before r.1) h h
  one_event (Nmt node c) ds m h = rw (happens_nmt t ds m node c) (command c node m h)

  all_events : (steps : List TimedStep) (ds : List Device) (m : Manager) → Before m
      → Before (outcome (after_events_at t steps (ds, m)) image).1
  unfolding after_events_at
  all_events [] ds m h = h
  all_events (step ∷ steps) ds m h =
      let after = outcome (after_event t step.step (ds, m)) image in
      rw (outcome_events t step steps (ds, m) image) (all_events steps after.0 after.1 (one_event step.step ds m h))

  pub run_manager : Before s.manager → Before (run_by_events t s image).manager
  run_manager h =
      let b = begun t s image in
      let there : Before b.manager = rw (begun_keeps_manager image t s) h in
      rw (outcome_events_run t b image) (all_events (steps_due t b.steps) b.devices b.manager there)

  sends : (c : Contender) (o : Option ℕ) (m : Manager) → After m → After (manager_without_winner c o m)
  sends c None m h = sent m c.place h
  sends c (Some i) m h = h

  started_manager : (o : Option Contender) (b : Bus) → After b.manager → After (with_slot_of t o b).manager
  started_manager None b h = h
  started_manager (Some c) b h = sends c (sender_place c b.devices) b.manager h

  start_manager : (wire : Option Slot) (b : Bus) → After b.manager → After (after_start_on t wire b).manager
  start_manager None b h = started_manager (winner b.devices b.manager) b h
  start_manager (Some slot) b h = h

  slot_manager : (b : Bus) → After b.manager → After (after_arbitration t b).manager
  unfolding after_arbitration
  slot_manager b h = start_manager b.wire b h

  managed_manager : (m : Manager) → Before m
      → After (outcome (manager_after_delivery t (ended_slot t s.wire) m) image).0
  managed_manager m h = rw (outcome_managed t (ended_slot t s.wire) m image)
      (timed (outcome (manager_after_slot t (ended_slot t s.wire) m) image).0 (hears m h))

  -- ahead of the arbitration
  pub manager_ahead : Before s.manager → After (at_arbitration image t s).manager
  manager_ahead h =
      let ran : Bus = run_by_events t s image in
      subst (λ (wire : Option Slot). After (outcome (manager_after_delivery t (ended_slot t wire) ran.manager) image).0)
      (sym (events_keep_wire image t s)) (managed_manager ran.manager (run_manager h))

  delivery_manager : (b : Bus) → b.wire ≡ s.wire → Before b.manager
      → After (outcome (from_delivery_on t b) image).0.manager
  delivery_manager b e h =
      let slot = ended_slot t b.wire in
      let heard = outcome (after_delivery t slot b.devices) image in
      let r = outcome (manager_after_delivery t slot b.manager) image in
      let same : ended_slot t b.wire ≡ ended_slot t s.wire = ap (ended_slot t) e in
      let past : After r.0 = subst (λ (x : Option Slot). After (outcome (manager_after_delivery t x b.manager) image).0)
      (sym same) (managed_manager b.manager h) in
      rw (outcome_delivery t b image, outcome_nodes t slot b.manager b.devices image)
      (slot_manager (record {
        spent = b.spent;
        bit_time = b.bit_time;
        slots = b.slots;
        devices = map (after_instant t) heard;
        manager = r.0;
        wire = open_slot t b.wire;
        window = b.window;
        steps = b.steps;
      }) past)

  pub manager_through : Before s.manager → After (outcome (instant t s) image).0.manager
  manager_through h =
      rw (outcome_instant t s image) (delivery_manager (run_by_events t s image) (events_keep_wire image t s)
      (run_manager h))

-- what a frame keeps, what is heard keeps
pub hears_keeps : (image : Image) (t : ℕ) (P : Manager → Type 0)
    → ((slot : Slot) (m : Manager) → P m → P (outcome (after_frame t slot.frame m) image).0)
    → (slot : Option Slot) (m : Manager) → P m → P (outcome (manager_after_slot t slot m) image).0
unfolding manager_after_slot
hears_keeps image t P frame None m h = h
hears_keeps image t P frame (Some slot) m h = by (manager_sender m.number == slot.sender)
  where
    by : (b : Bool) → P (outcome (if b then Answer (m, []) else after_frame t slot.frame m) image).0
    by true = h
    by false = frame slot m h
