use Rattle.std.proofs.Common.{arith}
use Rattle.pdo_links.proofs.Values.{tpdo_values}
use Rattle.pdo_links.proofs.tpdo.put_tpdo.Goals as goal

pub returns-clause-fits : goal.returns-clause-fits
returns-clause-fits c = λ has.
    tpdo_values c.args.device.now c.args.node c.args.clean.now has
    c.in_ok-put_timing.ensures.range c.in_ok-put_timing.ensures.start (omega (arith, c.requires.sent.1))
    (rw c.as_slice.ensures at c.in_ok-put_mapping.ensures.bytes)
