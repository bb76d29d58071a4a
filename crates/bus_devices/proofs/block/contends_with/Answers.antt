use Rattle.std.proofs.Common.{ap, ◌∙◌}
use Rattle.bus_devices.specs.Senders.{is_contender}
use Rattle.bus_devices.proofs.SenderLemmas.{winner_is}
use Rattle.bus_devices.proofs.block.contends_with.Goals as goal

pub returns : goal.returns
returns c = c.is_same.ensures ∙ ap (is_contender c.args.contender.now)
    (winner_is _ c.contender.result c.contender.ensures)
