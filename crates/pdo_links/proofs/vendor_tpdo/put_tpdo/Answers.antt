use Rattle.std.proofs.Common.{◌++◌, ◌+◌, ℕ, List, arith}
use Rattle.cia301.specs.CobIds.{no_rtr_bit}
use Rattle.cia301.specs.PdoObjects.{tpdo_object}
use Rattle.concise_dcf.specs.declared.write.Write.{Write}
use Rattle.pdo_choices.specs.declared.clean.Clean.{Clean}
use Rattle.pdo_links.specs.VendorWrites.{parameter_write, vendor_tpdo_writes}
use Rattle.pdo_links.proofs.VendorJoined.{joined}
use Rattle.pdo_links.proofs.VendorValues.{opened, tpdo_values}
use Rattle.pdo_links.proofs.vendor_tpdo.put_tpdo.Goals as goal

pub returns-clause-writes : goal.returns-clause-writes
unfolding vendor_tpdo_writes
returns-clause-writes c =
    let k : Clean = c.args.clean.now in
    let object : ℕ = tpdo_object k.message.tpdo in
    let settings : List Write = parameter_write c.args.device.now object 2 k.message.transmission
    ++ parameter_write c.args.device.now object 3 k.message.inhibit
    ++ parameter_write c.args.device.now object 5 k.message.event ++ parameter_write c.args.device.now object 6 k.start in
    joined c.args.device.now object (no_rtr_bit + k.identifier) settings k.mapping c.args.writes.now.items
    c.put_off.new.writes.items c.put_settings.new.writes.items c.put_on.new.writes.items
    (rw (c.tpdo_object-object.ensures, c.from-cob.ensures) at c.in_ok-put_off.ensures)
    (rw c.tpdo_object-object.ensures at c.in_ok-put_settings.ensures)
    (rw (c.as_slice.ensures, c.tpdo_object-object.ensures, c.from-cob.ensures) at c.in_ok-put_on.ensures.writes)

pub returns-clause-fits : goal.returns-clause-fits
returns-clause-fits c = λ sheet node is.
    let k : Clean = c.args.clean.now in
    tpdo_values sheet node c.args.device.now is k (omega (arith, c.requires.sent.1)) (λ written.
    (rw (c.as_slice.ensures, c.tpdo_object-object.ensures) at c.in_ok-put_on.ensures.bytes) (opened c.args.device.now (tpdo_object k.message.tpdo) _ written)
    written)
