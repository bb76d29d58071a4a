use Rattle.std.proofs.Common.{ℕ, false}
use Rattle.dict_values.specs.Restored.{is_kept}
use Rattle.dict_values.proofs.LayerLemmas.{has_nowhere}
use Rattle.dict_values.proofs.dict.Dict.has_layer.Goals as goal

pub returns-in-None : goal.returns-in-None
returns-in-None c t = has_nowhere
    (λ (q : ℕ × ℕ). is_kept c.args.first c.args.last false q.0) c.args.places.now c.args.self.now c.in-None.ensures
