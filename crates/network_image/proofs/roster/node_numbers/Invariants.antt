use Rattle.std.proofs.Common.{◌≡◌, ◌++◌}
use Rattle.std.specs.FinMap.{keys}
use Rattle.std.specs.Map.{keys_of}
use Rattle.network_image.proofs.roster.node_numbers.Given as goal

-- the numbers so far, and those of the nodes that are left, are all
abbrev pub invariant-loop-id : goal.invariant-loop-id
invariant-loop-id l = l.numbers.items ++ keys_of l.id-iterator ≡ keys l.project.nodes
