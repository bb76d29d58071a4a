use Rattle.std.proofs.Common.{◌≡◌, Option, None, Some, IfSome, option_map, ap, sym, ◌∙◌}
use Rattle.eds_device.specs.Sheets.{Sheet}
use Rattle.part_shelves.specs.SheetText.{sheet_made, SheetText}
use Rattle.part_shelves.proofs.SlotLemmas.{sheet_found, slot_left, slots_stay}
use Rattle.part_shelves.proofs.device_shelf.DeviceShelf.template.Goals as goal

-- what is of the device that is kept
of_kept : (found : Option Sheet) (kept : SheetText) (given : Option SheetText) → Some kept ≡ given
    → IfSome found (λ t. t ≡ sheet_made kept) → IfSome found (λ t. option_map sheet_made given ≡ Some t)
of_kept None kept given is h = tt
of_kept (Some t) kept given is h = sym (ap Some h ∙ ap (option_map sheet_made) is)

pub returns-in_default-clause-same : goal.returns-in_default-clause-same
returns-in_default-clause-same c =
    slots_stay c.self.inside.slots c.args.self.now c.self.view_is c.get_mut.follows.lender-at-none
    c.get_mut.follows.holds-at-none

pub returns-in_err-template-clause-same : goal.returns-in_err-template-clause-same
returns-in_err-template-clause-same c =
    let new = c.template.new.self in
    slot_left c.self.inside.slots c.args.self.now c.self.view_is (c.get_mut.follows.lender new) c.args.name.now
    c.in-Some.seat.now new c.in-Some.ensures.value c.template.ensures.same (c.get_mut.follows.holds new)

pub returns-clause-same : goal.returns-clause-same
returns-clause-same c =
    let new = c.template.new.self in
    slot_left c.self.inside.slots c.args.self.now c.self.view_is (c.get_mut.follows.lender new) c.args.name.now
    c.in-Some.seat.now new c.in-Some.ensures.value c.template.ensures.same (c.get_mut.follows.holds new)

pub returns-clause-template : goal.returns-clause-template
returns-clause-template c =
    of_kept c.in_ok-template.template c.in-Some.seat.now.kept _
    (sheet_found c.self.inside.slots c.args.self.now c.self.view_is c.args.name.now (Some c.in-Some.seat.now)
    c.in-Some.ensures.value)
    c.in_ok-template.ensures.template
