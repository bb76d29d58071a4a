use Rattle.std.proofs.Common.{◌≡◌, ◌++◌, take, drop, map, filter}
use Rattle.can_bus.specs.Runs.{is_shown}
use Rattle.trace_spans.proofs.passages.cut_all.Given as goal

abbrev pub invariant-loop-place : goal.invariant-loop-place
invariant-loop-place l = l.passages
    ≡ map (filter (is_shown l.horizon)) (take l.place l.initial.passages) ++ drop l.place l.initial.passages
