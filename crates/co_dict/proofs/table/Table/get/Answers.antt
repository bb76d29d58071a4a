use Rattle.std.proofs.Common.{ap, sym, ◌∙◌}
use Rattle.std.specs.FinMap as map
use Rattle.co_dict.proofs.PlaceLemmas.{get_place}
use Rattle.co_dict.proofs.table.Table.get.Goals as goal

pub returns : goal.returns
returns c =
    c.get.ensures.value ∙ sym (get_place c.self.inside.tree.entries c.args.place)
    ∙ ap (λ m. map.get m c.args.place) c.self.view_is
