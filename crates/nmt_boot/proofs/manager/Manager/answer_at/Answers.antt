use Rattle.std.proofs.Common.{rules}
use Rattle.nmt_boot.proofs.EventLemmas.{answered_asked, answered_outcome, answered_state}
use Rattle.nmt_boot.specs.contracts.manager.Manager.{the_view}
use Rattle.nmt_boot.proofs.manager.Manager.answer_at.Goals as goal

pub returns-clause-ran : goal.returns-clause-ran
returns-clause-ran g c =
    let m = the_view c.self.inside in
    let image = (g.P.Asked.seen c.args.boots.now).image in
    let done = rw (c.timeout.ensures.timeout, ← c.self.view_is) at c.in_ok-sent.ensures in
    let queued = rw c.number_at-number.ensures at c.in_ok-tell.ensures.queued in
    record {
      state = rw (← c.self.view_is)
          (answered_state c.args.t c.args.answer.now c.args.i m image c.in_ok-sent.sent c.tell.new.startup
          c.answer_at.new.self c.tell.new.waiting done.nodes done.sent queued c.in_ok-tell.ensures.started);
      notes = search (rules, answered_outcome);
      asked = rw (← c.self.view_is)
          (answered_asked c.args.t c.args.answer.now c.args.i m _ _ _ _ done.asked);
    }
