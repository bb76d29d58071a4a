use Rattle.std.proofs.Common.{◌∙◌, ap, option_map}
use Rattle.std.specs.FinMap.{get}
use Rattle.part_shelves.specs.Slots.{marked, Slots}
use Rattle.part_shelves.proofs.device_shelf.DeviceShelf.mark_all.Goals as goal

pub returns : goal.returns
returns c = λ q. c.mark_each.ensures q ∙ ap (λ (s : Slots). option_map marked (get s q)) c.self.view_is
