use Rattle.std.proofs.Common.{◌≡◌, ◌++◌, filter_map, take}
use Rattle.project_plan.specs.Network.{member_of}
use Rattle.diag_nodes.specs.Found.{unreadable_default}
use Rattle.diag_nodes.proofs.defaults.find_unreadable.Given as goal

abbrev pub invariant-loop-place : goal.invariant-loop-place
invariant-loop-place l = l.found.items ≡ l.fn.found.items
    ++ filter_map (unreadable_default (member_of l.id l.node l.device)) (take l.place-index l.places)
