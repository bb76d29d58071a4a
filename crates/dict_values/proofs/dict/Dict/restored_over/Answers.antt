use Rattle.std.proofs.Common.{ℕ, Bool, false, subst}
use Rattle.dict_values.specs.Layers.{HasWritten}
use Rattle.dict_values.specs.Restored.{is_kept}
use Rattle.dict_values.proofs.WrittenLemmas.{restored_over}
use Rattle.dict_values.proofs.dict.Dict.restored_over.Goals as goal

pub returns : goal.returns
returns c =
    let kept : ℕ × ℕ → Bool = λ q. is_kept c.args.first c.args.last false q.0 in
    restored_over c.args.first c.args.last c.args.self.now c.args.from.now c.write_from.new.self c.requires
    (subst (λ m. HasWritten kept c.args.self.now m c.write_from.new.self) c.in_ok-dict.ensures
    c.in_ok-write_from.ensures)
