use Rattle.std.proofs.Common.{◌≡◌, ◌++◌, filter_map}
use Rattle.std.specs.FinMap.{entries}
use Rattle.project_plan.specs.Network.{member_of}
use Rattle.diag_nodes.specs.Found.{parameter_diagnostic}
use Rattle.diag_nodes.proofs.parameters.find_own.Given as goal

abbrev pub invariant-loop-index : goal.invariant-loop-index
invariant-loop-index l = l.found.items
    ++ filter_map (λ own. parameter_diagnostic (member_of l.id l.node l.device) own.0) l.index-iterator
    ≡ l.fn.found.items ++ filter_map (λ own. parameter_diagnostic (member_of l.id l.node l.device) own.0)
    (entries l.node.params)
