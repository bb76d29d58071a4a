use Rattle.std.proofs.Common.{ap, ◌∙◌}
use Rattle.std.specs.FinMap as map
use Rattle.project_messages.proofs.NameLemmas.{value_removed}
use Rattle.part_shelves.proofs.device_shelf.DeviceShelf.remove.Goals as goal

pub returns : goal.returns
returns c =
    value_removed c.self.inside.slots.entries c.remove.new.self.entries c.args.name.now c.remove.ensures.updates.0
    ∙ ap (λ slots. map.remove slots c.args.name.now) c.self.view_is
