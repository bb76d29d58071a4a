use Rattle.std.proofs.Common.{ℕ, false}
use Rattle.dict_values.specs.Restored.{is_kept}
use Rattle.dict_values.proofs.LayerLemmas.{has_both}
use Rattle.dict_values.proofs.dict.Dict.has_all.Goals as goal

pub returns-then-has_layer : goal.returns-then-has_layer
returns-then-has_layer c t =
    has_both (λ (q : ℕ × ℕ). is_kept c.args.first c.args.last false q.0) c.other.inside.base c.other.inside.own
    c.args.other.now c.args.self.now c.other.view_is
    (c.has_layer.ensures c.if-has_layer.true) (c.has_layer-then-has_layer.ensures t)
