use Rattle.image_parts.proofs.RecordLemmas.{goes_none}
use Rattle.device_agenda.specs.Agenda.{at_instant}
use Rattle.device_agenda.proofs.scheduled_device.ScheduledDevice.run_instant.Goals as goal

pub returns-then-does_nothing-clause-ran : goal.returns-then-does_nothing-clause-ran
returns-then-does_nothing-clause-ran g c =
    goes_none (at_instant c.args.t c.args.delivery.now c.args.self.now) c.args.self.now _ _ _
    (c.does_nothing.ensures c.if-does_nothing.true)
