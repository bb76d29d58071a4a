use Rattle.project_plan.specs.Events.{shape_of_node}
use Rattle.network_image.specs.Image.{window_steps}
use Rattle.network_image.proofs.StepLemmas.{exactly_these}
use Rattle.network_image.proofs.laws.each_window_has_the_steps_of_its_events.Goals as goal

pub returns : goal.returns
unfolding window_steps
returns c = λ project i step. exactly_these (shape_of_node project) project.events i step
