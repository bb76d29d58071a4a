use Rattle.std.proofs.Common.{◌∙◌}
use Rattle.part_shelves.proofs.SlotLemmas.{slot_found}
use Rattle.part_shelves.proofs.device_shelf.DeviceShelf.get.Goals as goal

pub returns : goal.returns
returns c = c.get.ensures.value ∙ slot_found c.self.inside.slots c.args.self.now c.self.view_is c.args.name.now
