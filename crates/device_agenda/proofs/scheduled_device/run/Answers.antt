use Rattle.std.proofs.Common.{ap, ◌∙◌}
use Rattle.co_device.specs.Device.{after_instant}
use Rattle.device_agenda.proofs.InstantLemmas.{told_asked, told_state}
use Rattle.device_agenda.proofs.scheduled_device.run.Goals as goal

pub returns-clause-ran : goal.returns-clause-ran
returns-clause-ran g c =
    let heard = c.in_ok-hear.ensures.ran in
    rw c.in-Some.is (record {
      state = c.in_ok-run_due.ensures.state ∙ ap (after_instant c.args.t) heard.state
          ∙ told_state c.args.t c.in-Some.delivery c.args.device.now (g.P.Asked.seen c.args.shapes.now).image;
      asked = told_asked c.args.t c.in-Some.delivery c.args.device.now _ _ _ _ heard.asked;
    })
