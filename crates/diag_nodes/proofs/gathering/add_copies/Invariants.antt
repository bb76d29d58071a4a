use Rattle.std.proofs.Common.{◌≡◌, ◌++◌, take}
use Rattle.diag_nodes.proofs.gathering.add_copies.Given as goal

abbrev pub invariant-loop-diag : goal.invariant-loop-diag
invariant-loop-diag l = l.found.items ≡ l.fn.found.items ++ take l.diag-index l.more
