use Rattle.part_shelves.proofs.SlotLemmas.{slot_put}
use Rattle.part_shelves.proofs.device_shelf.DeviceShelf.put.Goals as goal

pub returns-clause-ok : goal.returns-clause-ok
returns-clause-ok c =
    slot_put c.self.inside.slots c.args.self.now c.self.view_is c.insert.new.self c.args.name c.args.seat
    c.in_ok-insert.ensures.updates
