use Rattle.std.proofs.Common.{◌++◌, ℕ, [], List, arith}
use Rattle.std.specs.Prelude.{◌==◌, if◌then◌else◌}
use Rattle.cia301.specs.PdoObjects.{rpdo_object}
use Rattle.concise_dcf.specs.declared.write.Write.{Write}
use Rattle.pdo_choices.specs.declared.clean.Clean.{Clean}
use Rattle.pdo_choices.specs.declared.consumer.Consumer.{Consumer}
use Rattle.pdo_links.specs.PdoWrites.{taken_type}
use Rattle.pdo_links.specs.VendorWrites.{parameter_write, vendor_rpdo_writes}
use Rattle.pdo_links.proofs.VendorJoined.{joined}
use Rattle.pdo_links.proofs.VendorValues.{opened, rpdo_values}
use Rattle.pdo_links.proofs.vendor_rpdo.put_rpdo.Goals as goal

pub returns-clause-writes : goal.returns-clause-writes
unfolding vendor_rpdo_writes
returns-clause-writes c =
    let m : Clean = c.args.clean.now in
    let k : Consumer = c.args.consumer.now in
    let object : ℕ = rpdo_object k.rpdo in
    let event : List Write = if k.event == 0 then [] else parameter_write c.args.device.now object 5 k.event in
    let settings : List Write = parameter_write c.args.device.now object 2 (taken_type m.message.transmission) ++ event in
    joined c.args.device.now object m.identifier settings k.mapping c.args.writes.now.items
    c.put_off.new.writes.items c.put_settings.new.writes.items c.put_on.new.writes.items
    (rw (c.rpdo_object-object.ensures, c.from-cob.ensures) at c.in_ok-put_off.ensures)
    (rw c.rpdo_object-object.ensures at c.in_ok-put_settings.ensures)
    (rw (c.as_slice.ensures, c.rpdo_object-object.ensures, c.from-cob.ensures) at c.in_ok-put_on.ensures.writes)

pub returns-clause-fits : goal.returns-clause-fits
returns-clause-fits c = λ sheet node is.
    let k : Consumer = c.args.consumer.now in
    rpdo_values sheet node c.args.device.now is c.args.clean.now k (omega (arith, c.requires.1)) (λ written.
    (rw (c.as_slice.ensures, c.rpdo_object-object.ensures) at c.in_ok-put_on.ensures.bytes) (opened c.args.device.now (rpdo_object k.rpdo) _ written)
    written)
