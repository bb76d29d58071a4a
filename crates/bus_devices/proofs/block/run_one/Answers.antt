use Rattle.std.proofs.Common.{◌≡◌, sym, ◌∙◌}
use Rattle.image_parts.proofs.RecordLemmas.{goes_none}
use Rattle.image_parts.specs.Asking.{Answer}
use Rattle.device_agenda.proofs.SleepLemmas.{one_sleeps}
use Rattle.device_agenda.specs.Agenda.{at_instant}
use Rattle.device_agenda.specs.Alarms.{agenda_by}
use Rattle.bus_devices.proofs.block.run_one.Goals as goal

pub returns-then-sleeps_through-clause-ran : goal.returns-then-sleeps_through-clause-ran
returns-then-sleeps_through-clause-ran g c =
    let d = c.args.device.now in
    let still : at_instant c.args.t c.args.delivery.now d ≡ Answer d =
    one_sleeps (agenda_by c.args.outlook.now.alarm) d c.args.t c.args.delivery.now c.requires.outlook.agenda
    (c.sleeps_through.ensures.bound c.if-sleeps_through.true) (sym c.sleeps_through.ensures.sleeps
    ∙ c.if-sleeps_through.true) in
    goes_none (at_instant c.args.t c.args.delivery.now d) d _ _ _ still
