use Rattle.std.proofs.Common.{sym, ◌∙◌}
use Rattle.device_agenda.proofs.SleepLemmas.{one_takes_nothing}
use Rattle.device_agenda.specs.declared.schedule.Schedule.{Schedule}
use Rattle.device_agenda.proofs.scheduled_device.ScheduledDevice.is_left_alone.Goals as goal

pub returns : goal.returns
returns c h =
    let s : Schedule = c.self.inside.schedule.value in
    let asleep = rw c.deref.ensures at c.if-deref.false in
    let not_due = sym c.has_come.ensures ∙ c.if-has_come.false in
    let early = rw c.deref-2.ensures at not_due in
    let untaken = c.takes_nothing.ensures h in
    let ignored = rw c.deref-3.ensures at untaken in
    rw (← c.self.view_is)
    (one_takes_nothing s.agenda s.device c.args.t c.args.delivery.now c.self.invariant.agenda asleep early ignored)
