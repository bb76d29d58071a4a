use Rattle.kept_parts.proofs.AllLemmas.{node_brought, plan_still}
use Rattle.kept_parts.proofs.kept_parts.KeptParts.bring_node.Goals as goal

pub returns-clause-brings : goal.returns-clause-brings
returns-clause-brings c =
    node_brought c.args.project.now c.args.node c.args.self.now c.bring_writes.new.self c.bring_device_parts.new.self
    c.args.meter.now c.bring_writes.new.meter c.bring_device_parts.new.meter c.requires.plan
    c.in_ok-bring_writes.ensures.brings c.in_ok-bring_device_parts.ensures.brings

pub returns-clause-plan : goal.returns-clause-plan
returns-clause-plan c =
    plan_still c.args.project.now c.args.node c.args.self.now c.bring_writes.new.self c.bring_device_parts.new.self
    c.args.meter.now c.bring_writes.new.meter c.bring_device_parts.new.meter c.requires.plan
    c.in_ok-bring_writes.ensures.brings c.in_ok-bring_device_parts.ensures.brings
