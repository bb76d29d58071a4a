use Rattle.std.proofs.Common.{◌≡◌, drop}
use Rattle.project_edits.specs.Eds.{has_bad_line, block_lines}
use Rattle.project_edits.proofs.block.has_bad_line.Given as goal

abbrev pub invariant-loop-line : goal.invariant-loop-line
invariant-loop-line l = has_bad_line (block_lines (drop l.line-index l.lines)) ≡ has_bad_line (block_lines l.lines)
