use Rattle.std.proofs.Common.{◌∙◌}
use Rattle.part_shelves.proofs.SlotLemmas.{none_marked, slot_marked, slots_stay}
use Rattle.part_shelves.proofs.device_shelf.DeviceShelf.set_fresh.Goals as goal

pub returns-in_default : goal.returns-in_default
returns-in_default c =
    slots_stay c.self.inside.slots c.args.self.now c.self.view_is c.get_mut.follows.lender-at-none
    c.get_mut.follows.holds-at-none
    ∙ none_marked c.self.inside.slots c.args.self.now c.self.view_is c.args.name.now c.args.fresh
    c.in_default.ensures.value

pub returns : goal.returns
returns c =
    let new = c.set_fresh.new.self in
    slot_marked c.self.inside.slots c.args.self.now c.self.view_is (c.get_mut.follows.lender new) c.args.name.now
    c.in-Some.seat.now c.in-Some.ensures.value c.args.fresh new c.set_fresh.ensures (c.get_mut.follows.holds new)
