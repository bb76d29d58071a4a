use Rattle.std.proofs.Common.{arith, refl}
use Rattle.kept_values.specs.Numbers.{without_key}
use Rattle.kept_values.proofs.IndexLemmas.{changed_none, changed_one}
use Rattle.kept_values.proofs.index.Index.take_out.Goals as goal

pub returns-then-place-len : goal.returns-then-place-len
returns-then-place-len c =
    rw (← c.self.view_is) (changed_one (λ k. k.items) c.self.inside.keys.items c.args.number (without_key c.args.key) c.index_mut.result.now c.take_out.new.keys (omega arith) c.index_mut.ensures.value c.take_out.ensures)

pub returns-else-place-len : goal.returns-else-place-len
returns-else-place-len c =
    rw (← c.self.view_is) (changed_none (λ k. k.items) c.self.inside.keys.items c.args.number (without_key c.args.key) (omega arith) refl)
