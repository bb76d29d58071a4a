use Rattle.std.proofs.Common.{sym, ◌∙◌}
use Rattle.device_agenda.proofs.SleepLemmas.{nothing_happens}
use Rattle.device_agenda.specs.Alarms.{agenda_by}
use Rattle.bus_devices.proofs.IdleLemmas.{idle_asked, idle_state}
use Rattle.bus_devices.proofs.OutlookLemmas.{whole_known}
use Rattle.bus_devices.proofs.devices.Devices.instant.Goals as goal

pub returns-then-sleeps_through-clause-ran : goal.returns-then-sleeps_through-clause-ran
returns-then-sleeps_through-clause-ran g c =
    let agenda = agenda_by c.self.inside.all.alarm in
    let items = c.self.inside.devices.items in
    let bound = c.sleeps_through.ensures.bound c.if-sleeps_through.true in
    let known = (whole_known c.self.inside.blocks.items c.self.inside.all items (c.self.invariant c.if-self.true)).agenda in
    let sleeps = sym c.sleeps_through.ensures.sleeps ∙ c.if-sleeps_through.true in
    rw (← c.self.view_is) (record {
      state = idle_state nothing_happens agenda items c.args.t c.args.delivery.now bound known sleeps
          (g.P.Asked.seen c.args.shapes.now).image;
      asked = idle_asked nothing_happens agenda items c.args.t c.args.delivery.now bound known sleeps _ _;
    })
