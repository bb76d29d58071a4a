use Rattle.kept_values.proofs.RowLemmas.{ahead_distinct, put_fewer, put_recent}
use Rattle.kept_values.proofs.recent.Recent.give_up_ahead.Goals as goal

pub put_back-requires-clause-distinct : goal.put_back-requires-clause-distinct
put_back-requires-clause-distinct g c = ahead_distinct c.self.inside.row.items c.self.inside.used c.self.inside.rest c.self.invariant.distinct

pub invariant_of-self : goal.invariant_of-self
invariant_of-self g c =
    let in' = c.self.inside in
    rw c.put_back.ensures.row (put_recent in'.row.items in'.used in'.rest c.put_back.new.rest g.V.Numbered.number_of in'.capacity in'.given in'.first c.self.invariant c.put_back.ensures.fewer)

pub returns-clause-fewer : goal.returns-clause-fewer
returns-clause-fewer g c =
    let in' = c.self.inside in
    rw (c.put_back.ensures.row, ← c.self.view_is) (put_fewer in'.row.items in'.used in'.rest c.put_back.new.rest c.self.invariant.within c.put_back.ensures.fewer)
