use Rattle.device_agenda.proofs.AgendaLemmas.{due_of}
use Rattle.device_agenda.specs.declared.schedule.Schedule.{Schedule}
use Rattle.device_agenda.proofs.scheduled_device.ScheduledDevice.next_due.Goals as goal

pub returns-else-deref : goal.returns-else-deref
returns-else-deref c =
    let s : Schedule = c.self.inside.schedule.value in
    let asleep = rw c.deref.ensures at c.if-deref.false in
    rw (c.deref-else-deref.ensures, ← c.self.view_is) (due_of s.agenda s.device c.self.invariant.agenda asleep)
