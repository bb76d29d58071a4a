use Rattle.std.proofs.Common.{◌≡◌, take}
use Rattle.trace_spans.specs.Passages.{lines_of_passages}
use Rattle.trace_spans.proofs.passages.lines_of.Given as goal

abbrev pub invariant-loop-passage : goal.invariant-loop-passage
invariant-loop-passage l = l.lines.items ≡ lines_of_passages (take l.passage-index l.passages)
