use Rattle.std.proofs.Common.{◌<◌, arith}
use Rattle.cia301.specs.PdoObjects.{rpdo_object}
use Rattle.pdo_links.proofs.Used.{no_unused}
use Rattle.pdo_links.proofs.vendor_rpdo.next_written.Goals as goal

pub returns-clause-nothing : goal.returns-clause-nothing
returns-clause-nothing c = λ number low below.
    let before : number < c.next_rpdo.result = omega (arith, below, c.next_number.ensures.high) in
    no_unused c.args.device.now (rpdo_object number) (c.next_rpdo.ensures.before number low before)
