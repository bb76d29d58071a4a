use Rattle.std.proofs.Common.{ℕ}
use Rattle.dict_values.specs.Restored.{is_kept}
use Rattle.dict_values.proofs.WrittenLemmas.{none_written}
use Rattle.dict_values.proofs.dict.Dict.write_layer.Goals as goal

pub returns-in-None : goal.returns-in-None
returns-in-None c = none_written
    (λ (q : ℕ × ℕ). is_kept c.args.first c.args.last c.args.inside q.0) c.args.from.now c.args.self.now
    c.in-None.ensures
