use Rattle.std.proofs.Common.{true, refl, arith}
use Rattle.device_agenda.specs.Alarms.{agenda_by}
use Rattle.device_agenda.proofs.AlarmLemmas.{earlier_at, either_now}
use Rattle.device_agenda.proofs.PlanLemmas.{of_both}
use Rattle.device_agenda.proofs.alarm.Alarm.and.Goals as goal

pub returns-clause-devices : goal.returns-clause-devices
returns-clause-devices c =
    let a = c.args.self in
    let b = c.args.other in
    rw c.min.ensures (of_both (agenda_by a) (agenda_by b) _ _ c.and.result true (either_now a.at b.at)
    (earlier_at a.at b.at (omega arith) (omega arith)) c.and.ensures refl)
