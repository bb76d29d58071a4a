use Rattle.std.proofs.Common.{◌≡◌, take}
use Rattle.diag_lines.specs.Lines.{diag_text}
use Rattle.diag_lines.proofs.lines.text.Given as goal

abbrev pub invariant-loop-diag : goal.invariant-loop-diag
invariant-loop-diag l = l.out.items ≡ diag_text (take l.diag-index l.diags)
