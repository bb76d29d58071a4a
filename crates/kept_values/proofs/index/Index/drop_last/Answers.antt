use Rattle.std.proofs.Common.{arith, ◌-◌, length, refl, take}
use Rattle.kept_values.proofs.IndexLemmas.{changed_none, changed_one}
use Rattle.kept_values.proofs.index.Index.drop_last.Goals as goal

pub returns-then-place-len : goal.returns-then-place-len
returns-then-place-len c =
    rw (← c.self.view_is) (changed_one (λ k. k.items) c.self.inside.keys.items c.args.number (λ keys. take (length keys - 1) keys) c.index_mut.result.now c.drop_last.new.keys (omega arith) c.index_mut.ensures.value c.drop_last.ensures)

pub returns-else-place-len : goal.returns-else-place-len
returns-else-place-len c =
    rw (← c.self.view_is) (changed_none (λ k. k.items) c.self.inside.keys.items c.args.number (λ keys. take (length keys - 1) keys) (omega arith) refl)
