use Rattle.std.proofs.Common.{arith}
use Rattle.pdo_links.proofs.Values.{rpdo_values}
use Rattle.pdo_links.proofs.rpdo.put_rpdo.Goals as goal

pub returns-clause-fits : goal.returns-clause-fits
returns-clause-fits c = λ sheet node has.
    rpdo_values sheet node c.args.clean.now c.args.consumer.now has
    (omega (arith, c.requires.1)) (rw c.as_slice.ensures at c.in_ok-put_mapping.ensures.bytes)
