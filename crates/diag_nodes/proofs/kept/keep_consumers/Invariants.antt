use Rattle.std.proofs.Common.{◌≡◌, ◌++◌, filter_map, take}
use Rattle.project_plan.specs.Values.{number_among}
use Rattle.diag_nodes.specs.Rules.{consumer_of}
use Rattle.diag_nodes.proofs.kept.keep_consumers.Given as goal

abbrev pub invariant-loop-index : goal.invariant-loop-index
invariant-loop-index l = l.consumers.items
    ≡ l.fn.consumers.items ++ filter_map (consumer_of (number_among l.device l.values) l.id)
    (take l.index-index l.index-items)
