use Rattle.std.proofs.Common.{◌≡◌, ◌++◌}
use Rattle.std.specs.FinMap.{entries}
use Rattle.std.specs.List.{All, flat_map}
use Rattle.project_plan.specs.Library.{AreRead, IsRead}
use Rattle.diag_nodes.specs.Devices.{of_node}
use Rattle.diag_nodes.specs.Found.{unreadable_defaults}
use Rattle.project_edits.specs.Versions.{is_three}
use Rattle.diag_nodes.specs.Kept.{numbers_by}
use Rattle.diag_nodes.specs.Rules.{consumers_in, counters_in, identifiers_in, times_in}
use Rattle.diag_nodes.specs.Sheets.{faults_of_node}
use Rattle.diag_nodes.proofs.gathering.gather_nodes.Given as goal

-- the devices of the nodes that are left were read, what was found before is of the devices of now, and with what is
-- found of these it is all
abbrev pub invariant-loop-id : goal.invariant-loop-id
invariant-loop-id l = record {
  read : All (λ e. IsRead l.library e.1.eds) l.id-iterator;
  current : AreRead l.library.project l.nodes;
  faults : l.faults.items ++ flat_map (of_node faults_of_node l.library.project) l.id-iterator
      ≡ l.fn.faults.items ++ flat_map (of_node faults_of_node l.library.project) (entries l.library.project.nodes);
  defaults : l.gathered.defaults.items ++ flat_map (of_node unreadable_defaults l.library.project) l.id-iterator
      ≡ flat_map (of_node unreadable_defaults l.library.project) (entries l.library.project.nodes);
  identifiers : l.gathered.kept.identifiers.items ++ flat_map (of_node (identifiers_in (numbers_by (is_three l.library.project.version) l.plan)) l.library.project) l.id-iterator
      ≡ flat_map (of_node (identifiers_in (numbers_by (is_three l.library.project.version) l.plan)) l.library.project) (entries l.library.project.nodes);
  consumers : l.gathered.kept.consumers.items ++ flat_map (of_node (consumers_in (numbers_by (is_three l.library.project.version) l.plan)) l.library.project) l.id-iterator
      ≡ flat_map (of_node (consumers_in (numbers_by (is_three l.library.project.version) l.plan)) l.library.project) (entries l.library.project.nodes);
  times : l.gathered.kept.times.items ++ flat_map (of_node (times_in (numbers_by (is_three l.library.project.version) l.plan)) l.library.project) l.id-iterator
      ≡ flat_map (of_node (times_in (numbers_by (is_three l.library.project.version) l.plan)) l.library.project) (entries l.library.project.nodes);
  counters : l.gathered.kept.counters.items ++ flat_map (of_node (counters_in (numbers_by (is_three l.library.project.version) l.plan)) l.library.project) l.id-iterator
      ≡ flat_map (of_node (counters_in (numbers_by (is_three l.library.project.version) l.plan)) l.library.project) (entries l.library.project.nodes);
}
