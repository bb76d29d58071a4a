use Rattle.std.proofs.Common.{◌≡◌, ◌++◌}
use Rattle.std.specs.FinMap.{entries}
use Rattle.std.specs.List.{All, flat_map}
use Rattle.project_plan.specs.Library.{IsRead}
use Rattle.diag_nodes.specs.Devices.{of_node}
use Rattle.co_diag.specs.Found.{node_findings}
use Rattle.co_diag.proofs.vendor.find_of_nodes.Given as goal

-- the devices of the nodes that are left were read, and with what is found of these it is all
abbrev pub invariant-loop-id : goal.invariant-loop-id
invariant-loop-id l = record {
  read : All (λ e. IsRead l.library e.1.eds) l.id-iterator;
  found : l.found.items ++ flat_map (of_node (node_findings l.plan) l.library.project) l.id-iterator
      ≡ l.fn.found.items ++ flat_map (of_node (node_findings l.plan) l.library.project) (entries l.library.project.nodes);
}
