use Rattle.std.proofs.Common.{sym, ◌∙◌}
use Rattle.device_agenda.proofs.SleepLemmas.{one_sleeps_on}
use Rattle.device_agenda.specs.declared.schedule.Schedule.{Schedule}
use Rattle.device_agenda.proofs.scheduled_device.ScheduledDevice.does_nothing.Goals as goal

pub returns-then-sleeps_on : goal.returns-then-sleeps_on
returns-then-sleeps_on c h =
    let s : Schedule = c.self.inside.schedule.value in
    let asleep = sym c.sleeps_on.ensures.sleeps ∙ c.if-sleeps_on.true in
    let sleeps = rw (c.deref.ensures, c.deref-2.ensures) at asleep in
    rw (← c.self.view_is)
    (one_sleeps_on s.agenda s.device c.args.t c.args.delivery.now c.self.invariant.agenda s.low_bytes
    c.self.invariant.low_bytes (c.sleeps_on.ensures.bound c.if-sleeps_on.true) sleeps)
