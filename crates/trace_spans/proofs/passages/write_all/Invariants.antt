use Rattle.std.proofs.Common.{◌≡◌, ◌++◌, take}
use Rattle.can_bus.specs.Lines.{lines_text}
use Rattle.trace_spans.specs.Passages.{lines_of_passages}
use Rattle.trace_spans.proofs.passages.write_all.Given as goal

abbrev pub invariant-loop-passage : goal.invariant-loop-passage
invariant-loop-passage l =
    l.out.items ≡ l.initial.out.items ++ lines_text (lines_of_passages (take l.passage-index l.passages))
