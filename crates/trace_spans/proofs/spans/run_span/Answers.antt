use Rattle.std.proofs.Common.{◌∙◌, ◌<◌, ◌++◌, arith, sym, ap, length-append}
use Rattle.can_bus.proofs.DueRunLemmas.{before_first}
use Rattle.trace_spans.proofs.SpanLemmas.{first_span, first_seen, first_reads, later_span}
use Rattle.trace_spans.proofs.spans.run_span.Goals as goal

pub returns-in_ok-run_to : goal.returns-in_ok-run_to
returns-in_ok-run_to g c =
    let seen = g.P.Asked.seen c.args.parts.now in
    let p = c.in_ok-bus.ensures in
    let r = c.in_ok-run_to.ensures in
    let e = first_span c.args.start.now seen.image in
    rw c.if-number-eq0.true (record {
      state = (rw (p.lasts.kept, p.ran.state) at r.state) ∙ ap (λ x. x.0) (sym e);
      told = (rw (p.lasts.kept, p.ran.state) at r.told) ∙ ap (λ x. c.args.lines.now ++ x.1) (sym e);
      noted = (rw (p.ran.asked.noted, p.ran.state) at r.noted) ∙ sym (first_seen c.args.start.now seen);
      counted = rw (first_reads c.args.start.now seen.image, length-append) (omega (arith, p.ran.asked.counted, rw (p.lasts.kept, p.ran.state) at r.counted));
      kept = r.kept ∙ p.lasts.kept;
    })

pub returns-in_ok-run_to-2 : goal.returns-in_ok-run_to-2
returns-in_ok-run_to-2 g c =
    let r = c.in_ok-run_to-2.ensures in
    let k = c.in_ok-bus-2.ensures.same in
    let later : 0 < c.args.number = omega arith in
    rw (later_span c.args.number c.args.start.now later) (record {
      state = rw k at r.state;
      told = rw k at r.told;
      noted = rw k at r.noted;
      counted = rw k at r.counted;
      kept = r.kept;
    })

pub run_to-requires-clause-before : goal.run_to-requires-clause-before
run_to-requires-clause-before g c = rw c.in_ok-bus.ensures.ran.state (before_first (g.P.Asked.seen c.args.parts.now).image c.requires.image)
