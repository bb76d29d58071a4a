use Rattle.std.proofs.Common.{refl, ◌∙◌, ◌≤◌, ◌<◌, ◌+◌, ◌++◌, arith, sym, ap}
use Rattle.std.proofs.lemmas.List.{append-nil}
use Rattle.image_parts.proofs.LoopLemmas.{turned_state, turned_told, turned_noted, turned_counted}
use Rattle.can_bus.specs.Bus.{instant}
use Rattle.can_bus.specs.Dues.{IsJustBefore, next_due}
use Rattle.can_bus.proofs.DueRunLemmas.{before_next, due_ahead}
use Rattle.trace_spans.proofs.SpanLemmas.{at_moment, ended, ended_seen, ended_reads, skipped, skipped_seen, skipped_reads}
use Rattle.trace_spans.proofs.spans.run_to.Goals as goal

pub dues-init : goal.dues-init
dues-init g c =
    let seen = g.P.Asked.seen c.args.parts.now in
    let next = c.min-due.result in
    let s = c.args.bus.now in
    let h = c.requires.before in
    let ahead = due_ahead c.args.first s h in
    let from : c.args.first ≤ next = omega (arith, c.requires.ordered, ahead, c.next_due.ensures) in
    let to : next ≤ c.args.end = omega arith in
    let due : next ≤ next_due s = omega (arith, c.next_due.ensures) in
    let e = skipped c.args.first next c.args.end s h from to due seen.image in
    record {
      within = to;
      before = at_moment c.args.first next s h from due;
      state = ap (λ r. r.0) (sym e);
      told = ap (λ r. c.args.lines.now ++ r.1) (sym e);
      noted = sym (skipped_seen c.args.first next c.args.end s h from to due seen);
      counted = rw (skipped_reads c.args.first next c.args.end s h from to due seen.image) (omega arith);
      kept = refl;
    }

pub dues-preserved : goal.dues-preserved
dues-preserved g c =
    let image = (g.P.Asked.seen c.args.parts.now).image in
    let old = c.dues.invariant in
    let i = c.in_ok-instant.ensures in
    let t = c.dues.due in
    let end = c.args.end in
    let s = c.dues.bus in
    let bus = c.instant.new.self in
    let next = c.min-due-in-dues.result in
    let state = rw old.kept at i.state in
    let within : t < end = omega arith in
    let still : IsJustBefore (t + 1) bus = rw (← state) at (before_next image c.requires.image t s old.before) in
    let ahead = due_ahead (t + 1) bus still in
    let is = c.next_due-in-dues.ensures in
    let from : t + 1 ≤ next = omega (arith, ahead, is, within) in
    let to : next ≤ end = omega arith in
    let due : next ≤ next_due bus = omega (arith, is) in
    let e = skipped (t + 1) next end bus still from to due image in
    record {
      within = to;
      before = at_moment (t + 1) next bus still from due;
      state = ap (λ r. r.0) (sym e) ∙ turned_state instant t end s bus image within state ∙ old.state;
      told = ap (λ r. c.instant.new.lines ++ r.1) (sym e) ∙ turned_told instant t end s bus image within state c.dues.lines c.instant.new.lines (rw old.kept at i.told) ∙ old.told;
      noted =
          sym (skipped_seen (t + 1) next end bus still from to due (g.P.Asked.seen c.instant.new.parts))
          ∙ turned_noted instant t end s bus (g.P.Asked.seen c.dues.parts) (g.P.Asked.seen c.instant.new.parts) within i.state i.asked.noted
          ∙ old.noted;
      counted =
          let turned = turned_counted instant t end s bus image within state (g.P.Asked.asks c.dues.parts) (g.P.Asked.asks c.instant.new.parts) (rw old.kept at i.asked.counted) in
          rw (← skipped_reads (t + 1) next end bus still from to due image) (omega (arith, turned, old.counted));
      kept = i.lasts.kept ∙ old.kept;
    }

pub returns : goal.returns
returns g c =
    let seen = g.P.Asked.seen c.args.parts.now in
    let old = c.dues.invariant in
    let over = c.dues-test.false in
    let e = ended c.dues.due c.args.end c.dues.bus over seen.image in
    record {
      state = rw e at old.state;
      told = sym (append-nil c.dues.lines) ∙ (rw e at old.told);
      noted = sym (ended_seen c.dues.due c.args.end c.dues.bus over (g.P.Asked.seen c.dues.parts)) ∙ old.noted;
      counted =
          let none = ended_reads c.dues.due c.args.end c.dues.bus over seen.image in
          omega (arith, rw none at old.counted);
      kept = old.kept;
    }

pub dues-smaller : goal.dues-smaller
dues-smaller g c =
    let image = (g.P.Asked.seen c.args.parts.now).image in
    let old = c.dues.invariant in
    let i = c.in_ok-instant.ensures in
    let t = c.dues.due in
    let bus = c.instant.new.self in
    let state = rw old.kept at i.state in
    let still : IsJustBefore (t + 1) bus = rw (← state) at (before_next image c.requires.image t c.dues.bus old.before) in
    let ahead = due_ahead (t + 1) bus still in
    omega (arith, ahead, c.next_due-in-dues.ensures)
