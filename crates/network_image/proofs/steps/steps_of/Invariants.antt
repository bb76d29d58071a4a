use Rattle.std.proofs.Common.{◌≡◌, filter_map, take}
use Rattle.network_image.specs.Steps.{timed_step_of}
use Rattle.project_plan.specs.Events.{shape_of_node}
use Rattle.network_image.proofs.steps.steps_of.Given as goal

-- the steps of the moments so far
abbrev pub invariant-loop-moment : goal.invariant-loop-moment
invariant-loop-moment l = l.steps.items ≡ filter_map (timed_step_of (shape_of_node l.nodes.project.now) l.script)
    (take l.moment-index l.moments)
