use Rattle.std.proofs.Common.{refl}
use Rattle.project_plan.specs.Network.{member_of}
use Rattle.diag_nodes.proofs.SheetLemmas.{faults_by}
use Rattle.diag_nodes.proofs.nodes.find_faults.Goals as goal

pub returns : goal.returns
returns c =
    faults_by (member_of c.args.id c.args.node.now c.args.device.now) c.args.device.now c.args.entries.now
    c.deref.result.now c.args.found.now.items c.find_own.new.found.items c.find_given.new.found.items
    c.requires refl c.deref.ensures.value c.in_ok-find_own.ensures c.in_ok-find_given.ensures
