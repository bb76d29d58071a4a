use Rattle.std.proofs.Common.{◌∙◌}
use Rattle.checks_bus.proofs.NetworkLemmas.{is_roster}
use Rattle.checks_bus.proofs.network.network.Goals as goal

pub returns-clause-fits : goal.returns-clause-fits
returns-clause-fits c =
    is_roster c.args.slots c.in_ok-new.field-0.value (c.in_ok-new.ensures.ok ∙ c.in_ok-roster.ensures)
