use Rattle.pdo_links.proofs.Tabled.{rpdo_had}
use Rattle.pdo_links.proofs.rpdo.rpdo_of.Goals as goal

pub returns : goal.returns
returns c = rpdo_had c.args.node c.args.planned.now.outcome c.in-Planned.clean c.in_ok-consumer.consumer.now
    c.in-Planned.is (rw c.as_slice.ensures at c.in_ok-consumer.ensures)
