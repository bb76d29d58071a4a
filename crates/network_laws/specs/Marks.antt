-- Marks: the entries that an event or an RPDO was the last to write.
use Rattle.std.specs.Prelude.{ℕ, zero, suc, ◌==◌, ◌&&◌, Bool, true, false, List, [], ◌∷◌, ◌++◌, Option, Some, None}
use Rattle.std.specs.Prelude.{if◌then◌else◌}
use Rattle.std.specs.List.{flat_map}
use Rattle.image_parts.specs.Asking.{outcome}
use Rattle.bus_devices.specs.Events.{after_event}
use Rattle.bus_devices.specs.Steps.{steps_due}
use Rattle.network_laws.specs.Reads.{at_delivery}
use Rattle.can_bus.specs.Spans.{bus_at}
use Rattle.can_bus.specs.Bus.{Bus, after_window_start, ended_slot}
use Rattle.can_bus.specs.declared.slot.Slot.{Slot}
use Rattle.can_frame.specs.Senders.{device_sender}
use Rattle.co_device.specs.Device.{Device}
use Rattle.image_parts.specs.Contents.{Image}
use Rattle.co_scenario.specs.declared.step.Step.{Step}
use Rattle.co_scenario.specs.declared.step.Step.TheVariants.{Set, Power, Nmt}
use Rattle.co_scenario.specs.declared.timed_step.TimedStep.{TimedStep}
use Rattle.network_laws.specs.Writes.{writes_of_frame, writes_of_set}
use Rattle.network_laws.specs.Written.{Event, Rpdo, Sdo, Writer, Written}
use Rattle.nmt_boot.specs.Manager.{Manager}

-- ---- a set of pairs of a node and an entry, told by which pairs it has

abbrev pub MarkedEntries : Type 0
MarkedEntries = ℕ → ℕ × ℕ → Bool

abbrev pub no_marks : MarkedEntries
no_marks = λ node place. false

-- a write by an event or an RPDO marks its entry, a write by SDO takes the mark away
abbrev pub is_marking : Writer → Bool
is_marking Event = true
is_marking Rpdo = true
is_marking Sdo = false

-- the write is of this entry of this node
abbrev pub is_write_of : Written → ℕ → ℕ × ℕ → Bool
is_write_of w node place = (w.node == node) && ((w.place.0 == place.0) && (w.place.1 == place.1))

-- whether a pair is marked after a write, where it was or wasn't before
abbrev pub marked_after : Written → ℕ → ℕ × ℕ → Bool → Bool
marked_after w node place before = if is_write_of w node place then is_marking w.by else before

-- the marks after writes, one after another
abbrev pub after_writes : MarkedEntries → List Written → MarkedEntries
after_writes marks [] = marks
after_writes marks (w ∷ writes) = after_writes (λ node place. marked_after w node place (marks node place)) writes

-- ---- the writes of an instant, in their order

abbrev pub written_at : ℕ → ℕ × ℕ → List ℕ → Device → List Written
written_at node place bytes d = if d.number == node then writes_of_set place bytes d else []

-- those of an event: power and commands write nothing
abbrev pub writes_of_step : Step → List Device → List Written
writes_of_step (Set node index sub bytes) ds = flat_map (written_at node (index, sub) bytes) ds
writes_of_step (Power node on) ds = []
writes_of_step (Nmt node command) ds = []

-- those of events, each on what the one before it left
abbrev pub writes_of_events : Image → ℕ → List TimedStep → List Device × Manager → List Written
writes_of_events image t [] nodes = []
writes_of_events image t (step ∷ steps) nodes =
    writes_of_step step.step nodes.0 ++ writes_of_events image t steps (outcome (after_event t step.step nodes) image)

-- those of the frame that is delivered, at each device but its sender
abbrev pub written_by_frame : Image → ℕ → Slot → Device → List Written
written_by_frame image t slot d =
    if device_sender d.number == slot.sender then [] else writes_of_frame image t slot.frame d

abbrev pub writes_of_delivery : Image → ℕ → Option Slot → List Device → List Written
writes_of_delivery image t None ds = []
writes_of_delivery image t (Some slot) ds = flat_map (written_by_frame image t slot) ds

-- the bus once its window has started
abbrev pub at_window_start : Image → ℕ → Bus → Bus
at_window_start image t s = outcome (after_window_start t s) image

-- THE WRITES OF AN INSTANT: those of its events, and then those of the frame that is delivered
unfoldable pub writes_at : Image → ℕ → Bus → List Written
writes_at image t s =
    writes_of_events image t (steps_due t (at_window_start image t s).steps) ((at_window_start image t s).devices, (at_window_start image t s).manager)
    ++ writes_of_delivery image t (ended_slot t s.wire) (at_delivery image t s).devices

-- THE MARKS OF A RUN just before the moment t: none at power-on, and then those after each instant
unfoldable pub marks_at : Image → ℕ → MarkedEntries
marks_at image zero = no_marks
marks_at image (suc t) = after_writes (marks_at image t) (writes_at image t (bus_at image t))
