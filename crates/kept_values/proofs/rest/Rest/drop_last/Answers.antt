use Rattle.std.proofs.Common.{sym}
use Rattle.kept_values.proofs.NumberLemmas.{index_less, index_least}
use Rattle.kept_values.proofs.rest.Rest.drop_last.Goals as goal

pub invariant_of-self : goal.invariant_of-self
invariant_of-self g c =
    let es = c.self.inside.cache.entries in
    rw c.in-Some.ensures.entries (c.self.invariant.0, index_less g.V.Numbered.number_of es (c.in-Some._key, c.in-Some.value) c.self.inside.index c.drop_last.new.self c.number.result (sym c.in-Some.ensures.value) c.number.ensures c.drop_last.ensures c.self.invariant.1)

pub invariant_of-self-in_default : goal.invariant_of-self-in_default
invariant_of-self-in_default g c =
    let es = c.self.inside.cache.entries in
    rw c.in_default.ensures.entries (c.self.invariant.0, index_least g.V.Numbered.number_of es c.self.inside.index (sym c.in_default.ensures.value) c.self.invariant.1)
