use Rattle.std.proofs.Common.{◌≡◌, take}
use Rattle.can_bus.specs.Lines.{lines_text}
use Rattle.can_bus.proofs.line_texts.text.Given as goal

abbrev pub invariant-loop-line : goal.invariant-loop-line
invariant-loop-line l = l.out.items ≡ lines_text (take l.line-index l.lines)
