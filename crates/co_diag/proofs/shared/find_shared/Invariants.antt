use Rattle.std.proofs.Common.{◌≡◌, ◌++◌, filter_map, take}
use Rattle.co_diag.specs.Counts.{shared_among}
use Rattle.co_diag.proofs.shared.find_shared.Given as goal

abbrev pub invariant-loop-identifier : goal.invariant-loop-identifier
invariant-loop-identifier l = l.found.items ≡ l.fn.found.items ++ filter_map (shared_among l.counts.had)
    (take l.identifier-index l.identifiers)
