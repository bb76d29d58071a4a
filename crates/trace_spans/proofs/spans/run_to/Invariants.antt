use Rattle.std.proofs.Common.{◌≡◌, ◌-◌, ◌≤◌, ◌++◌, ◌+◌, length}
use Rattle.image_parts.specs.Asking.{outcome, reads, after_reads, turns}
use Rattle.can_bus.specs.Bus.{instant}
use Rattle.can_bus.specs.Dues.{IsJustBefore}
use Rattle.trace_spans.proofs.spans.run_to.Given as goal

-- what was done and what is left give the whole
abbrev pub invariant-dues : goal.invariant-dues
invariant-dues g l =
    let seen = g.P.Asked.seen l.fn.parts in
    let rest = turns instant (l.end - l.due) l.due l.bus in
    let all = turns instant (l.end - l.first) l.first l.fn.bus in
    record {
      within : l.due ≤ l.end;
      before : IsJustBefore l.due l.bus;
      state : (outcome rest seen.image).0 ≡ (outcome all seen.image).0;
      told : l.lines ++ (outcome rest seen.image).1 ≡ l.fn.lines ++ (outcome all seen.image).1;
      noted : after_reads rest (g.P.Asked.seen l.parts) ≡ after_reads all seen;
      counted : g.P.Asked.asks l.parts + length (reads rest seen.image) ≤ g.P.Asked.asks l.fn.parts + length (reads all seen.image);
      kept : (g.P.Asked.seen l.parts).image ≡ seen.image;
    }

abbrev pub decreases-dues : goal.decreases-dues
decreases-dues g l = l.end - l.due
