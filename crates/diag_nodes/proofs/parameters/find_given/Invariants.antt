use Rattle.std.proofs.Common.{◌≡◌, ◌++◌, filter_map, take}
use Rattle.project_plan.specs.Network.{member_of}
use Rattle.diag_nodes.specs.Found.{parameter_diagnostic}
use Rattle.diag_nodes.proofs.parameters.find_given.Given as goal

abbrev pub invariant-loop-index : goal.invariant-loop-index
invariant-loop-index l = l.found.items ≡ l.fn.found.items
    ++ filter_map (parameter_diagnostic (member_of l.id l.node l.device)) (take l.index-index l.places)
