use Rattle.std.proofs.Common.{◌≡◌, ◌++◌, filter_map, take}
use Rattle.project_plan.specs.Values.{number_among}
use Rattle.diag_nodes.specs.Rules.{identifier_at}
use Rattle.diag_nodes.proofs.kept.keep_identifiers.Given as goal

abbrev pub invariant-loop-index : goal.invariant-loop-index
invariant-loop-index l = l.identifiers.items
    ≡ l.fn.identifiers.items ++ filter_map (identifier_at (number_among l.device l.values))
    (take l.index-index l.index-items)
