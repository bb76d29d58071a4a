use Rattle.std.proofs.Common.{◌≡◌, ◌↔◌}
use Rattle.std.specs.FinMap.{keys}
use Rattle.std.specs.Map.{keys_of}
use Rattle.network_image.proofs.roster.are_numbers.Given as goal

-- the numbers are all if those that are left are the numbers of the nodes that are left
abbrev pub invariant-loop-id : goal.invariant-loop-id
invariant-loop-id l = (l.rest ≡ keys_of l.id-iterator) ↔ (l.numbers ≡ keys l.project.nodes)
