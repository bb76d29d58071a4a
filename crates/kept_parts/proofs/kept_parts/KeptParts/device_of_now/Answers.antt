use Rattle.std.proofs.Common.{option_map, sym, ap, ◌∙◌}
use Rattle.part_shelves.specs.SheetText.{sheet_made}
use Rattle.part_shelves.proofs.SlotLemmas.{sheet_read}
use Rattle.kept_parts.proofs.KindLemmas.{device_now}
use Rattle.kept_parts.proofs.StepLemmas.{all_there_is}
use Rattle.kept_parts.proofs.kept_parts.KeptParts.device_of_now.Goals as goal

pub returns-then-is_fresh : goal.returns-then-is_fresh
returns-then-is_fresh c =
    all_there_is c.in_ok-device.device _
    (c.in_ok-device.ensures ∙ c.value.ensures
    ∙ ap (option_map sheet_made)
    (device_now c.args.project.now c.args.self.now c.requires c.args.name.now
    (sym c.is_fresh.ensures ∙ c.if-is_fresh.true))
    ∙ sheet_read c.args.project.now c.args.name.now)
