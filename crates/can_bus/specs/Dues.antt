-- When a bus is due (this profile's own).
use Rattle.std.specs.Prelude.{ℕ, ◌<◌, ◌≤◌, All, min, List, [], ◌∷◌, ◌++◌, flat_map, map, Option, Some, None}
use Rattle.image_parts.specs.Agenda.{dues}
use Rattle.image_parts.specs.Asking.{Asking, bind}
use Rattle.image_parts.specs.Contents.{Content}
use Rattle.image_parts.specs.declared.part.Part.{Part}
use Rattle.co_scenario.specs.declared.timed_step.TimedStep.{TimedStep}
use Rattle.co_device.specs.Device as device
use Rattle.nmt_boot.specs.Manager as manager
use Rattle.device_agenda.specs.Rest.{Rests}
use Rattle.can_bus.specs.Bus.{Bus, instant, power_on}
use Rattle.can_bus.specs.Runs.{IsInTime, IsSettled}
use Rattle.can_bus.specs.declared.line.Line.{Line}
use Rattle.can_bus.specs.declared.slot.Slot.{Slot}

-- the end of the slot on the wire
abbrev pub slot_moments : Option Slot → List ℕ
slot_moments None = []
slot_moments (Some slot) = slot.end ∷ []

abbrev pub step_moments : List TimedStep → List ℕ
step_moments steps = map (λ step. step.time) steps

-- all due moments but the start of the next window: of the devices, of the manager, of the wire, and of the events
-- that have not run
abbrev pub moments : Bus → List ℕ
moments s = flat_map device.moments s.devices
    ++ (manager.moments s.manager ++ (slot_moments s.wire ++ step_moments s.steps))

-- the least of these and one more
abbrev pub least : ℕ → List ℕ → ℕ
least one [] = one
least one (m ∷ ms) = min m (least one ms)

-- THE LEAST DUE MOMENT, the start of the next window among them
unfoldable pub next_due : Bus → ℕ
next_due s = least s.window (moments s)

-- at rest: no frame waits at an idle wire, no TPDO is wanted, and no SYNC is left
pub record IsAtRest (s : Bus) : Type 0 where
  pub settled : IsSettled s
  pub devices : All Rests s.devices

-- just before the moment t: no due moment lies before it, and the bus is at rest where t itself isn't due
pub record IsJustBefore (t : ℕ) (s : Bus) : Type 0 where
  pub bit_time : 1 ≤ s.bit_time
  pub in_time : IsInTime t s
  pub from : All (λ m. t ≤ m) (moments s)
  pub rests : t < next_due s → IsAtRest s

-- from power-on, an instant at each due moment before the end
unfoldable pub due_run : ℕ → Asking Part Content (Bus × List Line)
due_run end = bind power_on (dues instant next_due end end)
