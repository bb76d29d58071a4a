use Rattle.std.proofs.Common.{rules}
use Rattle.bus_devices.proofs.BlockLemmas.{all_planned}
use Rattle.bus_devices.proofs.blocks.plan.Goals as goal

pub returns : goal.returns
returns c = all_planned c.planning.blocks.items c.args.devices.now c.planning.rest.now (search rules)
    c.planning.invariant
