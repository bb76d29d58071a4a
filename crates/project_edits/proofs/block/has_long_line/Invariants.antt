use Rattle.std.proofs.Common.{◌≡◌, drop}
use Rattle.project_edits.specs.Eds.{has_long_line, block_lines}
use Rattle.project_edits.proofs.block.has_long_line.Given as goal

abbrev pub invariant-loop-line : goal.invariant-loop-line
invariant-loop-line l = has_long_line (block_lines (drop l.line-index l.lines)) ≡ has_long_line (block_lines l.lines)
