use Rattle.std.proofs.Common.{ℕ, Bool, subst}
use Rattle.std.proofs.lemmas.Result.{on_ok_weaker}
use Rattle.dict_values.specs.Layers.{HasWritten}
use Rattle.dict_values.specs.Restored.{is_kept}
use Rattle.dict_values.proofs.WrittenLemmas.{written_in_turn}
use Rattle.dict_values.proofs.dict.Dict.write_from.Goals as goal

pub returns : goal.returns
returns c =
    let kept : ℕ × ℕ → Bool = λ q. is_kept c.args.first c.args.last c.args.inside q.0 in
    on_ok_weaker c.write_layer-2.result (λ h.
    subst (λ m. HasWritten kept m c.args.self.now c.write_layer-2.new.self) c.from.view_is
    (written_in_turn kept c.from.inside.base c.from.inside.own c.args.self.now c.write_layer.new.self
    c.write_layer-2.new.self c.in_ok-write_layer.ensures h))
    c.write_layer-2.ensures
