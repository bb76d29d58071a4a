use Rattle.std.proofs.Common.{option_map, ap, sym, ◌∙◌}
use Rattle.part_shelves.specs.SheetText.{sheet_made}
use Rattle.part_shelves.proofs.SlotLemmas.{sheet_read}
use Rattle.kept_parts.proofs.KindLemmas.{device_now}
use Rattle.kept_parts.proofs.StepLemmas.{all_there_is, with_devices}
use Rattle.kept_parts.proofs.kept_parts.KeptParts.common_device_of_now.Goals as goal

pub returns-in_err-device-clause-same : goal.returns-in_err-device-clause-same
returns-in_err-device-clause-same c = ap (with_devices c.args.self.now) c.common.ensures.same

pub returns-clause-same : goal.returns-clause-same
returns-clause-same c = ap (with_devices c.args.self.now) c.common.ensures.same

pub returns-clause-value : goal.returns-clause-value
returns-clause-value c =
    all_there_is c.in_ok-device.device _
    (c.in_ok-device.ensures.device
    ∙ ap (option_map sheet_made)
    (device_now c.args.project.now c.args.self.now c.requires c.args.name.now
    (sym c.is_fresh.ensures ∙ c.if-not-is_fresh.false))
    ∙ sheet_read c.args.project.now c.args.name.now)
