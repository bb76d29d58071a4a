use Rattle.device_agenda.proofs.LowByteLemmas.{deaf_beyond_all}
use Rattle.device_agenda.specs.declared.schedule.Schedule.{Schedule}
use Rattle.device_agenda.proofs.scheduled_device.ScheduledDevice.low_bytes.Goals as goal

pub returns-then-deref : goal.returns-then-deref
returns-then-deref c = deaf_beyond_all c.all.result c.args.self.now c.all.ensures

pub returns-else-deref : goal.returns-else-deref
returns-else-deref c =
    let s : Schedule = c.self.inside.schedule.value in
    let asleep = rw c.deref.ensures at c.if-deref.false in
    rw (c.deref-else-deref.ensures, ← c.self.view_is) (c.self.invariant.low_bytes asleep)
