use Rattle.std.proofs.Common.{◌≡◌, ◌++◌, map, take}
use Rattle.diag_lines.specs.declared.code.Code.TheVariants.{UnplannedRpdo}
use Rattle.diag_lines.specs.declared.subject.Subject.TheVariants as of
use Rattle.diag_nodes.specs.Found.{diagnostic}
use Rattle.co_diag.proofs.vendor.find_rpdos.Given as goal

abbrev pub invariant-loop-number : goal.invariant-loop-number
invariant-loop-number l = l.found.items ≡ l.fn.found.items
    ++ map (λ number. diagnostic UnplannedRpdo (of.Rpdo l.node number)) (take l.number-index l.numbers)
