use Rattle.network_image.proofs.MomentLemmas.{steps_are}
use Rattle.network_image.proofs.steps.window_steps.Goals as goal

pub returns : goal.returns
returns c =
    steps_are c.args.project.now c.args.i c.events.result.now c.args.moments.now c.in_ok-steps.steps.items
    c.events.ensures c.requires.moments c.in_ok-steps.ensures
