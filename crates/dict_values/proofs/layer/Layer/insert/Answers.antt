use Rattle.std.proofs.Common.{ap, sym, ◌∙◌}
use Rattle.std.specs.FinMap.{get, get-empty}
use Rattle.dict_values.specs.Layers.{values_behind}
use Rattle.dict_values.specs.Places.{place_cmp}
use Rattle.dict_values.proofs.layer.Layer.insert.Goals as goal

pub returns-in_ok-table-in-None-clause-before : goal.returns-in_ok-table-in-None-clause-before
returns-in_ok-table-in-None-clause-before c =
    sym (ap (λ m. get m c.args.place) (sym c.self.view_is ∙ ap values_behind c.in-None.is) ∙ get-empty place_cmp c.args.place)
