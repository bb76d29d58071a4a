use Rattle.std.proofs.Common.{sym}
use Rattle.kept_values.proofs.NumberLemmas.{index_taken, none_removed}
use Rattle.kept_values.proofs.rest.Rest.take_out.Goals as goal

pub invariant_of-self : goal.invariant_of-self
invariant_of-self g c = rw (c.pop.ensures.entries, none_removed c.args.key c.self.inside.cache.entries (sym c.in_err-value.ensures.value)) c.self.invariant

pub invariant_of-self-2 : goal.invariant_of-self-2
invariant_of-self-2 g c =
    let es = c.self.inside.cache.entries in
    rw c.pop.ensures.entries (c.self.invariant.0, index_taken g.V.Numbered.number_of es c.self.inside.index c.take_out.new.self c.args.key c.number.result c.in_ok-value.value (sym c.in_ok-value.ensures.value) c.number.ensures c.take_out.ensures c.self.invariant.1)
