use Rattle.std.proofs.Common.{◌∙◌}
use Rattle.can_bus.proofs.ArbitrationLemmas.{winner_found}
use Rattle.can_bus.proofs.arbitration.winner.Goals as goal

pub returns : goal.returns
returns c = c.lower.ensures
    ∙ winner_found c.args.devices.now c.args.manager.now c.contender.result c.contender-2.result c.contender.ensures
    c.contender-2.ensures
