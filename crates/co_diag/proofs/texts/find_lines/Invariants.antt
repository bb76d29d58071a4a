use Rattle.std.proofs.Common.{◌≡◌, ◌++◌, map, take}
use Rattle.diag_lines.specs.declared.code.Code.TheVariants.{SkippedLine}
use Rattle.diag_lines.specs.declared.subject.Subject.TheVariants as of
use Rattle.diag_nodes.specs.Found.{diagnostic}
use Rattle.co_diag.proofs.texts.find_lines.Given as goal

abbrev pub invariant-loop-line : goal.invariant-loop-line
invariant-loop-line l = l.found.items ≡ l.fn.found.items ++ map (λ line. diagnostic SkippedLine (of.Eds l.name line))
    (take l.line-index l.lines)
