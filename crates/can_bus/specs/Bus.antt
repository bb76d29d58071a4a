-- The bus at a moment, and one instant of it. All moments are absolute, in microseconds from the power-on of the
-- network.
use Rattle.std.specs.Prelude.{ℕ, ◌+◌, ◌*◌, ◌/◌, ◌==◌, Bool, false, true, List, [], ◌∷◌, ◌++◌, map, remove}
use Rattle.std.specs.Prelude.{slice_index_or, Option, Some, None, if◌then◌else◌}
use Rattle.image_parts.specs.Asking.{Asking, Answer, Ask, bind}
use Rattle.can_frame.specs.Frames.{BaseFrame, bit_time}
use Rattle.can_frame.specs.Senders.{manager_sender}
use Rattle.can_frame.specs.Slots.{bits_of_slot}
use Rattle.can_frame.specs.Winner.{contenders, winner_of}
use Rattle.can_frame.specs.WaitingFrames.{waiting}
use Rattle.can_frame.specs.declared.contender.Contender.{Contender}
use Rattle.can_frame.specs.declared.purpose.Purpose.TheVariants.{Nmt}
use Rattle.can_frame.specs.declared.slot_rule.SlotRule.{SlotRule}
use Rattle.can_frame.specs.declared.slot_rule.SlotRule.TheVariants.{Unstuffed}
use Rattle.can_frame.specs.declared.waiting.Waiting.{Waiting}
use Rattle.image_parts.specs.Contents.{Content, roster_of, steps_of}
use Rattle.image_parts.specs.declared.part.Part.{Part}
use Rattle.image_parts.specs.declared.part.Part.TheVariants.{Events, Roster}
use Rattle.image_parts.specs.declared.roster.Roster.{Roster as Network}
use Rattle.co_device.specs.Device as device
use Rattle.co_device.specs.Device.{Device}
use Rattle.co_scenario.specs.declared.timed_step.TimedStep.{TimedStep}
use Rattle.nmt_boot.specs.Manager as manager
use Rattle.nmt_boot.specs.Manager.{Manager}
use Rattle.node_boot.specs.declared.note.Note.{Note as Noted}
use Rattle.bus_devices.specs.Senders.{device_lists, sender_place, with_sent}
use Rattle.image_parts.specs.Each.{each}
use Rattle.bus_devices.specs.Events.{after_events_at}
use Rattle.bus_devices.specs.Places.{device_at}
use Rattle.bus_devices.specs.Steps.{steps_due, steps_left}
use Rattle.device_agenda.specs.Agenda.{hears}
use Rattle.device_agenda.specs.Delivered.{Delivered}
use Rattle.can_bus.specs.declared.line.Line.{Line}
use Rattle.can_bus.specs.declared.line.Line.TheVariants.{Frame, Note}
use Rattle.can_bus.specs.declared.slot.Slot.{Slot}

-- the time of one bit in microseconds, the rule that counts the bits of a slot, the devices by number, the manager, what
-- is on the wire, the moment at which the next window starts, and the events of this window that have not run
pub record Bus : Type 0 where
  pub spent : Bool
  pub bit_time : ℕ
  pub slots : SlotRule
  pub devices : List Device
  pub manager : Manager
  pub wire : Option Slot
  pub window : ℕ
  pub steps : List TimedStep

-- ---- before and at the power-on of the network

-- a bus without devices
abbrev pub blank_bus : Bus
blank_bus = record {
  spent = false;
  bit_time = 1;
  slots = Unstuffed;
  devices = [];
  manager = manager.blank;
  wire = None;
  window = 0;
  steps = [];
}

-- the devices of a network before its power-on
abbrev pub without_power : List ℕ → List Device
without_power numbers = map (device.without_power false) numbers

abbrev pub bus_with_power : Network → List Device → Bus
bus_with_power roster devices = record {
  spent = false;
  bit_time = bit_time roster.bit_rate;
  slots = roster.slots;
  devices = devices;
  manager = manager.manager_at_power_on roster;
  wire = None;
  window = 0;
  steps = [];
}

-- each device gets power, by number, and the manager
unfoldable pub power_on_of : Network → Asking Part Content Bus
power_on_of roster = bind (each (device.after_power true 0) (without_power roster.nodes))
    (λ devices. Answer (bus_with_power roster devices))

unfoldable pub power_on : Asking Part Content Bus
power_on = Ask Roster (λ v. power_on_of (roster_of v))

-- ---- at the start of a window its events are asked for

abbrev pub with_window : ℕ → List TimedStep → Bus → Bus
with_window t steps s = record s { window = t + 10000; steps = steps }

unfoldable pub after_window_start : ℕ → Bus → Asking Part Content Bus
after_window_start t s = if t == s.window then Ask (Events (t / 10000)) (λ v. Answer (with_window t (steps_of v) s))
    else Answer s

-- ---- the events of t, by number; those that have run are forgotten

abbrev pub with_nodes : ℕ → Bus → List Device × Manager → Bus
with_nodes t s nodes = record s { devices = nodes.0; manager = nodes.1; steps = steps_left t s.steps }

unfoldable pub after_events : ℕ → Bus → Asking Part Content Bus
after_events t s = bind (after_events_at t (steps_due t s.steps) (s.devices, s.manager))
    (λ nodes. Answer (with_nodes t s nodes))

-- ---- the frame whose slot ends at t is off the wire, and its line is told

abbrev pub ends_at : ℕ → Slot → Bool
ends_at t slot = slot.end == t

-- the slot that ends
abbrev pub ended_slot : ℕ → Option Slot → Option Slot
ended_slot t None = None
ended_slot t (Some slot) = if ends_at t slot then Some slot else None

-- what is on the wire after it
abbrev pub open_slot : ℕ → Option Slot → Option Slot
open_slot t None = None
open_slot t (Some slot) = if ends_at t slot then None else Some slot

abbrev pub frame_lines : ℕ → Option Slot → List Line
frame_lines t None = []
frame_lines t (Some slot) = Frame t slot.frame ∷ []

-- ---- it is delivered to each other device, by number

-- the frame with its sender
abbrev pub delivered_of : Slot → Delivered
delivered_of slot = record { sender = slot.sender; frame = slot.frame }

abbrev pub delivery_of : Option Slot → Option Delivered
delivery_of None = None
delivery_of (Some slot) = Some (delivered_of slot)

unfoldable pub after_delivery : ℕ → Option Slot → List Device → Asking Part Content (List Device)
after_delivery t None ds = Answer ds
after_delivery t (Some slot) ds = each (hears t (delivered_of slot)) ds

-- ---- the manager: the delivered frame, and then its timers

unfoldable pub manager_after_slot : ℕ → Option Slot → Manager → Asking Part Content (Manager × List Noted)
manager_after_slot t None m = Answer (m, [])
manager_after_slot t (Some slot) m = if manager_sender m.number == slot.sender then Answer (m, [])
    else manager.after_frame t slot.frame m

abbrev pub manager_after_timers : ℕ → Manager × List Noted → Manager × List Noted
manager_after_timers t r = ((manager.timers t r.0).0, r.1 ++ (manager.timers t r.0).1)

unfoldable pub manager_after_delivery : ℕ → Option Slot → Manager → Asking Part Content (Manager × List Noted)
manager_after_delivery t slot m = bind (manager_after_slot t slot m) (λ r. Answer (manager_after_timers t r))

abbrev pub note_lines : ℕ → List Noted → List Line
note_lines t notes = map (Note t) notes

-- ---- where the wire is idle and a frame waits, the slot of the winner starts

-- the lists of the devices and that of the manager
abbrev pub waiting_lists : List Device → Manager → List (ℕ × List Waiting)
waiting_lists ds m = device_lists ds ++ (manager_sender m.number, m.waiting) ∷ []

-- the frame that waits at a place
abbrev pub waiting_frame_at : List Waiting → ℕ → BaseFrame
waiting_frame_at frames place = (slice_index_or frames place (waiting Nmt (record { id = 0; bytes = [] }))).frame

abbrev pub slot_of : ℕ → SlotRule → ℕ → ℕ → BaseFrame → Slot
slot_of t rule bit sender frame = record { end = t + bits_of_slot rule frame * bit; sender = sender; frame = frame }

-- what is sent: the frame of a device, or else of the manager
abbrev pub winning_frame : Contender → Option ℕ → List Device → Manager → BaseFrame
winning_frame c None ds m = waiting_frame_at m.waiting c.place
winning_frame c (Some i) ds m = waiting_frame_at (device_at ds i).waiting c.place

-- it leaves its list
abbrev pub devices_without_winner : Contender → Option ℕ → List Device → List Device
devices_without_winner c None ds = ds
devices_without_winner c (Some i) ds = with_sent ds i c.place

abbrev pub manager_without_winner : Contender → Option ℕ → Manager → Manager
manager_without_winner c None m = record m { waiting = remove m.waiting c.place }
manager_without_winner c (Some i) m = m

abbrev pub with_slot_of : ℕ → Option Contender → Bus → Bus
with_slot_of t None s = s
with_slot_of t (Some c) s = record s {
  devices = devices_without_winner c (sender_place c s.devices) s.devices;
  manager = manager_without_winner c (sender_place c s.devices) s.manager;
  wire = Some (slot_of t s.slots s.bit_time c.sender
      (winning_frame c (sender_place c s.devices) s.devices s.manager));
}

-- the frame that wins
unfoldable pub winner : List Device → Manager → Option Contender
winner ds m = winner_of (contenders (waiting_lists ds m))

abbrev pub after_start_on : ℕ → Option Slot → Bus → Bus
after_start_on t None s = with_slot_of t (winner s.devices s.manager) s
after_start_on t (Some slot) s = s

unfoldable pub after_arbitration : ℕ → Bus → Bus
after_arbitration t s = after_start_on t s.wire s

-- ---- what the nodes do in an instant: the delivery, the timers and TPDOs of each device, and the manager

unfoldable pub nodes_after_devices : ℕ → Option Slot → Manager → List Device
    → Asking Part Content (List Device × (Manager × List Noted))
nodes_after_devices t slot m ds = bind (manager_after_delivery t slot m) (λ r. Answer (ds, r))

unfoldable pub nodes_after : ℕ → Option Slot → List Device → Manager
    → Asking Part Content (List Device × (Manager × List Noted))
nodes_after t slot ds m = bind (after_delivery t slot ds)
    (λ heard. nodes_after_devices t slot m (map (device.after_instant t) heard))

-- ---- the instant from the delivery on: the frame that ends, what the nodes do, and the slot that starts

abbrev pub after_nodes : ℕ → Bus → List Device × (Manager × List Noted) → Bus × List Line
after_nodes t s q = (
  after_arbitration t (record {
    spent = s.spent;
    bit_time = s.bit_time;
    slots = s.slots;
    devices = q.0;
    manager = q.1.0;
    wire = open_slot t s.wire;
    window = s.window;
    steps = s.steps;
  }),
  frame_lines t (ended_slot t s.wire) ++ note_lines t q.1.1,
)

unfoldable pub from_delivery_on : ℕ → Bus → Asking Part Content (Bus × List Line)
from_delivery_on t s = bind (nodes_after t (ended_slot t s.wire) s.devices s.manager) (λ q. Answer (after_nodes t s q))

-- ---- ONE INSTANT: the window that starts, the events, and all from the delivery on

unfoldable pub after_window : ℕ → Bus → Asking Part Content (Bus × List Line)
after_window t s = bind (after_events t s) (λ ran. from_delivery_on t ran)

unfoldable pub instant : ℕ → Bus → Asking Part Content (Bus × List Line)
instant t s = bind (after_window_start t s) (λ begun. after_window t begun)
