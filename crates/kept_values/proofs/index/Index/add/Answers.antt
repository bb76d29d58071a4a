use Rattle.std.proofs.Common.{◌∷◌, map}
use Rattle.kept_values.proofs.IndexLemmas.{changed_one, kept_same, on_err, same_changed, same_twice}
use Rattle.kept_values.proofs.index.Index.add.Goals as goal

pub returns-clause-ok : goal.returns-clause-ok
returns-clause-ok c =
    let mid = c.make_place.new.keys.items in
    rw (← c.self.view_is) (same_changed c.args.number (λ keys. c.args.key ∷ keys) _ (map (λ k. k.items) mid) _ c.make_place.ensures.same
    (changed_one (λ k. k.items) mid c.args.number (λ keys. c.args.key ∷ keys) c.index_mut.result.now c.put_first.new.keys c.in_ok-make_place.ensures.there c.index_mut.ensures.value c.in_ok-put_first.ensures.ok))

pub returns-in_err-put_first-clause-err : goal.returns-in_err-put_first-clause-err
returns-in_err-put_first-clause-err c =
    let mid = c.make_place.new.keys.items in
    rw (← c.self.view_is) (on_err _ (same_twice _ (map (λ k. k.items) mid) _ c.make_place.ensures.same
    (kept_same c.args.number _ _ (changed_one (λ k. k.items) mid c.args.number (λ keys. keys) c.index_mut.result.now c.put_first.new.keys c.in_ok-make_place.ensures.there c.index_mut.ensures.value c.in_err-put_first.ensures.err))))
