use Rattle.std.proofs.Common.{◌≡◌, ◌<◌, ◌||◌, Bool, true, false, arith}
use Rattle.cia301.specs.PdoObjects.{rpdo_object, tpdo_object}
use Rattle.vendor_pdos.proofs.PresentLemmas.{never_fixed}
use Rattle.vendor_pdos.proofs.withheld.next_of_both.Goals as goal

neither : (a b : Bool) → a ≡ false → b ≡ false → a || b ≡ false
neither false b first second = second
neither true b first second = cc

pub returns-clause-before : goal.returns-clause-before
returns-clause-before c = λ number id low below.
    let tpdo : number < c.next_tpdo.result = omega (arith, c.min.ensures, below) in
    let rpdo : number < c.next_rpdo.result = omega (arith, c.min.ensures, below) in
    neither _ _
    (never_fixed c.args.device.now (tpdo_object number) (c.next_tpdo.ensures.before number low tpdo) id)
    (never_fixed c.args.device.now (rpdo_object number) (c.next_rpdo.ensures.before number low rpdo) id)
