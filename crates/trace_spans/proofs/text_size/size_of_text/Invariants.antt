use Rattle.std.proofs.Common.{◌≡◌, length, take}
use Rattle.can_bus.specs.Lines.{lines_text}
use Rattle.base.specs.Lines.{line_count}
use Rattle.trace_spans.specs.Passages.{lines_of_passages}
use Rattle.trace_spans.proofs.text_size.size_of_text.Given as goal

abbrev pub invariant-loop-passage : goal.invariant-loop-passage
invariant-loop-passage l =
    let text = lines_text (lines_of_passages (take l.passage-index l.passages)) in
    (l.lines ≡ line_count text) × (l.bytes ≡ length text)
