-- What the events of a scenario do to the devices of a bus and to its manager.
use Rattle.std.specs.Prelude.{ℕ, ◌==◌, Bool, List, [], ◌∷◌, map, if◌then◌else◌}
use Rattle.image_parts.specs.Asking.{Asking, Answer, bind}
use Rattle.co_device.specs.Device as device
use Rattle.co_device.specs.Device.{Device}
use Rattle.image_parts.specs.Contents.{Content}
use Rattle.image_parts.specs.declared.part.Part.{Part}
use Rattle.co_scenario.specs.declared.step.Step.{Step}
use Rattle.co_scenario.specs.declared.step.Step.TheVariants.{Set, Power, Nmt}
use Rattle.co_scenario.specs.declared.timed_step.TimedStep.{TimedStep}
use Rattle.nmt_boot.specs.Manager.{Manager, with_command}
use Rattle.image_parts.specs.Each.{each}

-- the application of a node sets an entry, at this node alone
unfoldable pub after_set_at : ℕ → ℕ → ℕ × ℕ → List ℕ → Device → Device
after_set_at t node place bytes d = if d.number == node then device.after_set t place bytes d else d

-- the power of a node is switched, at this node alone
unfoldable pub after_power_at : ℕ → ℕ → Bool → Device → Asking Part Content Device
after_power_at t node on d = if d.number == node then device.after_power on t d else Answer d

-- what an event does: a command is queued at the manager, and the power of the device that the manager runs in isn't
-- switched
unfoldable pub after_event : ℕ → Step → List Device × Manager → Asking Part Content (List Device × Manager)
after_event t (Set node index sub bytes) nodes = Answer (map (after_set_at t node (index, sub) bytes) nodes.0, nodes.1)
after_event t (Power node on) nodes = if nodes.1.number == node then Answer nodes
    else bind (each (after_power_at t node on) nodes.0) (λ ds. Answer (ds, nodes.1))
after_event t (Nmt node command) nodes = Answer (nodes.0, with_command command node nodes.1)

-- each event in turn, on what the one before it left
unfoldable pub after_events_at : ℕ → List TimedStep → List Device × Manager
    → Asking Part Content (List Device × Manager)
after_events_at t [] nodes = Answer nodes
after_events_at t (step ∷ steps) nodes = bind (after_event t step.step nodes) (λ after. after_events_at t steps after)
