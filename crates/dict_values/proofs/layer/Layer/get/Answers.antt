use Rattle.std.proofs.Common.{ap, sym, ◌∙◌}
use Rattle.std.specs.FinMap.{get, get-empty}
use Rattle.dict_values.specs.Layers.{values_behind}
use Rattle.dict_values.specs.Places.{place_cmp}
use Rattle.dict_values.proofs.layer.Layer.get.Goals as goal

pub returns-in-None-clause-value : goal.returns-in-None-clause-value
returns-in-None-clause-value c =
    sym (ap (λ m. get m c.args.place) (sym c.self.view_is ∙ ap values_behind c.in-None.is) ∙ get-empty place_cmp c.args.place)
