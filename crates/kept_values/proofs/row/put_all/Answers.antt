use Rattle.std.proofs.Common.{◌++◌, ◌∷◌, [], ap, sym, ◌∙◌, append_assoc}
use Rattle.kept_values.proofs.KeyLemmas.{none_behind}
use Rattle.kept_values.proofs.row.put_all.Goals as goal

pub put-requires : goal.put-requires
put-requires g c =
    let left = c.pop.new.self.items in
    let key = c.in-Some.key in
    let value = c.in-Some.value in
    let is = ap (λ l. l ++ c.left.rest) (sym c.in-Some.ensures.items) ∙ c.left.invariant in
    let split = sym (append_assoc left ((key, value) ∷ []) c.left.rest) ∙ is in
    none_behind left (key, value) c.left.rest (rw split c.requires)
