use Rattle.std.proofs.Common.{option_map, ap, ◌∙◌}
use Rattle.part_shelves.specs.SheetText.{sheet_made}
use Rattle.part_shelves.proofs.SlotLemmas.{sheet_read}
use Rattle.kept_parts.proofs.KindLemmas.{device_brought, device_is_of, device_now, device_stays, device_unmarked}
use Rattle.kept_parts.proofs.KindLemmas.{device_value}
use Rattle.kept_parts.proofs.kept_parts.KeptParts.bring_device.Goals as goal

pub bring-requires : goal.bring-requires
bring-requires c = device_now c.args.project.now c.args.self.now c.requires c.args.name.now

pub returns-in_err-device-clause-is_of : goal.returns-in_err-device-clause-is_of
returns-in_err-device-clause-is_of c =
    device_is_of c.args.project.now c.args.self.now c.requires c.args.name.now c.bring.new.self
    c.in_ok-bring.ensures.ok

pub returns-clause-is_of : goal.returns-clause-is_of
returns-clause-is_of c =
    device_is_of c.args.project.now c.args.self.now c.requires c.args.name.now c.bring.new.self
    c.in_ok-bring.ensures.ok

pub returns-clause-brings : goal.returns-clause-brings
returns-clause-brings c =
    device_brought c.args.project.now c.args.self.now c.requires c.args.name.now c.bring.new.self
    c.in_ok-bring.ensures.ok c.args.meter.now c.bring.new.meter c.in_ok-bring.ensures.counted

pub returns-clause-value : goal.returns-clause-value
returns-clause-value c =
    c.in_ok-device.ensures ∙ c.value.ensures
    ∙ ap (option_map sheet_made)
    (device_value c.args.project.now c.args.self.now c.requires c.args.name.now c.bring.new.self
    c.in_ok-bring.ensures.ok)
    ∙ sheet_read c.args.project.now c.args.name.now

pub returns-clause-unmarked : goal.returns-clause-unmarked
returns-clause-unmarked c =
    device_unmarked c.args.project.now c.args.self.now c.requires c.args.name.now c.bring.new.self
    c.in_ok-bring.ensures.ok

pub returns-in_err-device-clause-stays : goal.returns-in_err-device-clause-stays
returns-in_err-device-clause-stays c =
    device_stays c.args.project.now c.args.self.now c.requires c.args.name.now c.bring.new.self
    c.in_ok-bring.ensures.ok

pub returns-clause-stays : goal.returns-clause-stays
returns-clause-stays c =
    device_stays c.args.project.now c.args.self.now c.requires c.args.name.now c.bring.new.self
    c.in_ok-bring.ensures.ok
