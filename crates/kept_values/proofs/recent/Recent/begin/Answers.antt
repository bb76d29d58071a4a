use Rattle.kept_values.proofs.RowLemmas.{ahead_distinct, begun_recent, empty_recent, less_shown, put_fewer, put_recent}
use Rattle.kept_values.proofs.recent.Recent.begin.Goals as goal

pub put_back-requires-clause-distinct : goal.put_back-requires-clause-distinct
put_back-requires-clause-distinct g c = ahead_distinct c.self.inside.row.items c.self.inside.used c.self.inside.rest c.self.invariant.distinct

pub invariant_of-self : goal.invariant_of-self
invariant_of-self g c =
    let in' = c.self.inside in
    rw c.put_back.ensures.row (put_recent in'.row.items in'.used in'.rest c.put_back.new.rest g.V.Numbered.number_of in'.capacity in'.given in'.first c.self.invariant c.put_back.ensures.fewer)

pub returns-in_err-put_back-clause-fewer : goal.returns-in_err-put_back-clause-fewer
returns-in_err-put_back-clause-fewer g c =
    let in' = c.self.inside in
    rw (c.put_back.ensures.row, ← c.self.view_is) (put_fewer in'.row.items in'.used in'.rest c.put_back.new.rest c.self.invariant.within c.put_back.ensures.fewer)

pub invariant_of-self-then-self-eq0 : goal.invariant_of-self-then-self-eq0
invariant_of-self-then-self-eq0 g c =
    let in' = c.self.inside in
    rw c.put_back.ensures.row (begun_recent in'.row.items in'.used in'.rest c.put_back.new.rest g.V.Numbered.number_of in'.capacity in'.given in'.first c.self.invariant c.put_back.ensures.fewer)

pub put_back-requires-2-clause-distinct : goal.put_back-requires-2-clause-distinct
put_back-requires-2-clause-distinct g c =
    let in' = c.self.inside in
    rw c.put_back.ensures.row (begun_recent in'.row.items in'.used in'.rest c.put_back.new.rest g.V.Numbered.number_of in'.capacity in'.given in'.first c.self.invariant c.put_back.ensures.fewer).distinct

pub invariant_of-self-in_err-put_back-2 : goal.invariant_of-self-in_err-put_back-2
invariant_of-self-in_err-put_back-2 g c =
    let in' = c.self.inside in
    let begun = begun_recent in'.row.items in'.used in'.rest c.put_back.new.rest g.V.Numbered.number_of in'.capacity in'.given in'.first c.self.invariant c.put_back.ensures.fewer in
    rw c.put_back-2.ensures.row (empty_recent g.V.Numbered.number_of in'.capacity in'.given in'.first _ c.put_back.new.rest c.put_back-2.new.rest begun (rw c.put_back.ensures.row at c.put_back-2.ensures.fewer) in'.first)

pub returns-in_err-put_back-2-clause-fewer : goal.returns-in_err-put_back-2-clause-fewer
returns-in_err-put_back-2-clause-fewer g c =
    let in' = c.self.inside in
    rw (c.put_back-2.ensures.row, ← c.self.view_is) (λ e d.
    less_shown in'.row.items in'.used in'.rest c.put_back.new.rest c.put_back.ensures.fewer e (rw c.put_back.ensures.row at (less_shown c.put_back.new.row.items 0 c.put_back.new.rest c.put_back-2.new.rest c.put_back-2.ensures.fewer e d)))

pub invariant_of-self-2 : goal.invariant_of-self-2
invariant_of-self-2 g c =
    let in' = c.self.inside in
    let begun = begun_recent in'.row.items in'.used in'.rest c.put_back.new.rest g.V.Numbered.number_of in'.capacity in'.given in'.first c.self.invariant c.put_back.ensures.fewer in
    rw c.put_back-2.ensures.row (empty_recent g.V.Numbered.number_of in'.capacity in'.given in'.first _ c.put_back.new.rest c.put_back-2.new.rest begun (rw c.put_back.ensures.row at c.put_back-2.ensures.fewer) 0)

pub returns-clause-fewer : goal.returns-clause-fewer
returns-clause-fewer g c =
    let in' = c.self.inside in
    rw (c.put_back-2.ensures.row, ← c.self.view_is) (λ e d.
    less_shown in'.row.items in'.used in'.rest c.put_back.new.rest c.put_back.ensures.fewer e (rw c.put_back.ensures.row at (less_shown c.put_back.new.row.items 0 c.put_back.new.rest c.put_back-2.new.rest c.put_back-2.ensures.fewer e d)))
