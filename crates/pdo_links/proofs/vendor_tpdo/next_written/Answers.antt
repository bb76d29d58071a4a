use Rattle.std.proofs.Common.{◌<◌, arith}
use Rattle.cia301.specs.PdoObjects.{tpdo_object}
use Rattle.pdo_links.proofs.Used.{no_unused}
use Rattle.pdo_links.proofs.vendor_tpdo.next_written.Goals as goal

pub returns-clause-nothing : goal.returns-clause-nothing
returns-clause-nothing c = λ number low below.
    let before : number < c.next_tpdo.result = omega (arith, below, c.next_number.ensures.high) in
    no_unused c.args.device.now (tpdo_object number) (c.next_tpdo.ensures.before number low before)
