use Rattle.std.proofs.Common.{◌≡◌, ◌++◌, drop}
use Rattle.project_edits.specs.Eds.{text_of, block_lines}
use Rattle.project_edits.proofs.block.text_of.Given as goal

abbrev pub invariant-loop-line : goal.invariant-loop-line
invariant-loop-line l =
    l.text.items ++ text_of (block_lines (drop l.line-index l.lines)) ≡ text_of (block_lines l.lines)
