use Rattle.std.proofs.Common.{sym, ◌∙◌}
use Rattle.bus_devices.proofs.OutlookLemmas.{block_outlook}
use Rattle.bus_devices.proofs.SenderLemmas.{none_sends}
use Rattle.bus_devices.proofs.blocks.place_in.Goals as goal

pub returns-else-may_wait_at : goal.returns-else-may_wait_at
returns-else-may_wait_at c = none_sends c.args.contender.now c.args.devices.now c.args.block.now.outlook.best
    (block_outlook c.args.block.now c.args.devices.now c.requires).best (sym c.may_wait_at.ensures ∙ c.if-may_wait_at.false)
