use Rattle.std.proofs.Common.{◌≡◌, take, filter}
use Rattle.can_bus.specs.Runs.{is_shown}
use Rattle.trace_spans.proofs.shown.shown_lines.Given as goal

abbrev pub invariant-loop-line : goal.invariant-loop-line
invariant-loop-line l = l.shown.items ≡ filter (is_shown l.horizon) (take l.line-index l.lines)
