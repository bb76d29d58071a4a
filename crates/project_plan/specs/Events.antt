-- What the events of a scenario do in the network of a project (this profile's own).
use Rattle.std.specs.Prelude.{ℕ, List, Option, Some, option_map, option_and_then}
use Rattle.std.specs.FinMap.{get}
use Rattle.std.specs.Result.{result_ok}
use Rattle.co_dict.specs.Shapes.{Shaped}
use Rattle.eds_device.specs.Entries.{shape_of}
use Rattle.node_parameters.specs.Judgement.{set_bytes}
use Rattle.co_scenario.specs.declared.event.Event.{Event}
use Rattle.co_scenario.specs.declared.event.Event.TheVariants as event
use Rattle.co_scenario.specs.declared.step.Step.{Step}
use Rattle.co_scenario.specs.declared.step.Step.TheVariants as step
use Rattle.co_project.specs.Project.{Content, is_controller}
use Rattle.project_plan.specs.Controller.{shape_held}
use Rattle.project_plan.specs.Network.{member_at, Member}

-- the entries of each node that has any
abbrev pub Shapes : Type 0
Shapes = ℕ → Option Shaped

-- the entries of the device of its EDS, at its number; of the device that the manager runs in but one
unfoldable pub shape_of_node : Content → ℕ → Option Shaped
shape_of_node project node =
    option_map (λ (m : Member). shape_held (is_controller project node) (shape_of m.sheet node)) (member_at project node)

-- the value that an event sets: none where the entry isn't there, its type isn't modelled, or the text spells no value
-- of it at the node
abbrev pub bytes_set : Shapes → ℕ → ℕ → ℕ → List ℕ → Option (List ℕ)
bytes_set shapes node index sub text =
    option_and_then (λ (shape : Shaped). result_ok (set_bytes (get shape.entries (index, sub)) text node)) (shapes node)

abbrev pub set_step : ℕ → ℕ → ℕ → List ℕ → Step
set_step node index sub bytes = step.Set node index sub bytes

-- what an event does; one that sets no value does nothing
abbrev pub step_of : Shapes → Event → Option Step
step_of shapes (event.Set node index sub text) = option_map (set_step node index sub)
    (bytes_set shapes node index sub text)
step_of shapes (event.Power node on) = Some (step.Power node on)
step_of shapes (event.Nmt node command) = Some (step.Nmt node command)
