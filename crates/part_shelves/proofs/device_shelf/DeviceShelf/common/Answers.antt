use Rattle.std.proofs.Common.{None, Some, option_map, ap, ◌∙◌}
use Rattle.part_shelves.specs.SheetText.{sheet_made}
use Rattle.part_shelves.proofs.SlotLemmas.{sheet_found, slot_left, slots_stay}
use Rattle.part_shelves.proofs.device_shelf.DeviceShelf.common.Goals as goal

pub returns-in_default-clause-same : goal.returns-in_default-clause-same
returns-in_default-clause-same c =
    slots_stay c.self.inside.slots c.args.self.now c.self.view_is c.get_mut.follows.lender-at-none
    c.get_mut.follows.holds-at-none

pub returns-in_default-clause-device : goal.returns-in_default-clause-device
returns-in_default-clause-device c =
    ap (option_map sheet_made)
    (sheet_found c.self.inside.slots c.args.self.now c.self.view_is c.args.name.now None c.in_default.ensures.value)

pub returns-in_err-device-clause-same : goal.returns-in_err-device-clause-same
returns-in_err-device-clause-same c =
    let new = c.common.new.self in
    slot_left c.self.inside.slots c.args.self.now c.self.view_is (c.get_mut.follows.lender new) c.args.name.now
    c.in-Some.seat.now new c.in-Some.ensures.value c.common.ensures.same (c.get_mut.follows.holds new)

pub returns-clause-same : goal.returns-clause-same
returns-clause-same c =
    let new = c.common.new.self in
    slot_left c.self.inside.slots c.args.self.now c.self.view_is (c.get_mut.follows.lender new) c.args.name.now
    c.in-Some.seat.now new c.in-Some.ensures.value c.common.ensures.same (c.get_mut.follows.holds new)

pub returns-clause-device : goal.returns-clause-device
returns-clause-device c =
    ap Some c.in_ok-device.ensures.device
    ∙ ap (option_map sheet_made)
    (sheet_found c.self.inside.slots c.args.self.now c.self.view_is c.args.name.now (Some c.in-Some.seat.now)
    c.in-Some.ensures.value)
