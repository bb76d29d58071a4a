use Rattle.std.proofs.Common.{◌≡◌}
use Rattle.std.specs.FinMap.{entries}
use Rattle.diag_nodes.proofs.DeviceLemmas.{AreReadFirst}
use Rattle.diag_nodes.proofs.devices.read_all.Given as goal

-- the devices of the first nodes were read
abbrev pub invariant-loop-id : goal.invariant-loop-id
invariant-loop-id l = record {
  project : l.library.project ≡ l.fn.library.project;
  read : AreReadFirst l.library l._id-iterator (entries l.fn.library.project.nodes);
}
