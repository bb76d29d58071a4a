use Rattle.std.proofs.Common.{sym, ◌∙◌}
use Rattle.device_agenda.proofs.RestLemmas.{ran_rests}
use Rattle.device_agenda.proofs.SelfLemmas.{instant_stays}
use Rattle.device_agenda.proofs.scheduled_device.run_due.Goals as goal

pub returns-clause-rests : goal.returns-clause-rests
returns-clause-rests c = rw c.in_ok-on_instant.ensures.state (ran_rests c.args.t c.args.device.now)

pub returns-clause-unspent : goal.returns-clause-unspent
returns-clause-unspent c =
    rw c.in_ok-on_instant.ensures.state ((instant_stays c.args.t c.args.device.now).spent ∙ sym c.spent.ensures
    ∙ c.if-spent.false)
