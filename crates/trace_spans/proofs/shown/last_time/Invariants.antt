use Rattle.std.proofs.Common.{◌≡◌, take}
use Rattle.trace_spans.specs.Passages.{latest}
use Rattle.trace_spans.proofs.shown.last_time.Given as goal

abbrev pub invariant-loop-line : goal.invariant-loop-line
invariant-loop-line l = l.last ≡ latest (take l.line-index l.lines)
