use Rattle.std.proofs.Common.{refl}
use Rattle.kept_values.proofs.NumberLemmas.{index_new}
use Rattle.kept_values.proofs.rest.Rest.new.Goals as goal

pub invariant_of-result : goal.invariant_of-result
invariant_of-result g c = rw (c.in_ok-cache.ensures, c.new.ensures) (refl, index_new g.V.Numbered.number_of)
