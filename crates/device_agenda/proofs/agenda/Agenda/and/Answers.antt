use Rattle.std.proofs.Common.{◌||◌, refl}
use Rattle.device_agenda.proofs.PlanLemmas.{of_both}
use Rattle.device_agenda.proofs.agenda.Agenda.and.Goals as goal

pub returns-clause-devices : goal.returns-clause-devices
returns-clause-devices c =
    of_both c.args.self c.args.other (c.args.self.awake || c.args.other.awake) c.earlier.result c.and.result
    (c.args.self.waits || c.args.other.waits) refl c.earlier.ensures c.and.ensures refl
