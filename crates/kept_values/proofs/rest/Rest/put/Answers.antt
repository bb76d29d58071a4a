use Rattle.kept_values.proofs.NumberLemmas.{index_added, index_back, index_same}
use Rattle.kept_values.proofs.rest.Rest.put.Goals as goal

pub invariant_of-self : goal.invariant_of-self
invariant_of-self g c = (c.self.invariant.0, index_same g.V.Numbered.number_of c.self.inside.cache.entries c.self.inside.index c.add.new.self c.in_err-add.ensures.err c.self.invariant.1)

pub invariant_of-self-in-Ok : goal.invariant_of-self-in-Ok
invariant_of-self-in-Ok g c =
    let es = c.self.inside.cache.entries in
    rw c.in-Ok.ensures.ok (c.self.invariant.0, index_added g.V.Numbered.number_of es c.self.inside.index c.add.new.self c.args.key c.number-number.result c.args.value c.number-number.ensures c.in_ok-add.ensures.ok c.self.invariant.1)

pub invariant_of-self-in-Err : goal.invariant_of-self-in-Err
invariant_of-self-in-Err g c =
    let es = c.self.inside.cache.entries in
    let added = index_added g.V.Numbered.number_of es c.self.inside.index c.add.new.self c.args.key c.number-number.result c.args.value c.number-number.ensures c.in_ok-add.ensures.ok c.self.invariant.1 in
    rw c.in-Err.ensures.err (c.self.invariant.0, index_back g.V.Numbered.number_of es c.add.new.self c.drop_first.new.self c.args.key c.number-number.result c.args.value c.number-number.ensures c.drop_first.ensures added)
