use Rattle.kept_values.proofs.RowLemmas.{next_first, next_held, read_ahead}
use Rattle.kept_values.proofs.recent.Recent.next.Goals as goal

pub returns-in-Some-clause-held : goal.returns-in-Some-clause-held
returns-in-Some-clause-held g c =
    let in' = c.self.inside in
    let read = rw c.deref.ensures.value at c.in-Some.ensures.lookup in
    let next = read_ahead in'.row.items in'.used c.in-Some.held.now read.3.0 read.1 in
    rw (← c.self.view_is) (next_held g.V.Numbered.number_of in'.first in'.used in'.row.items in'.rest c.in-Some.held.now next c.self.invariant.distinct)

pub returns-in-Some-clause-first : goal.returns-in-Some-clause-first
returns-in-Some-clause-first g c =
    let in' = c.self.inside in
    let read = rw c.deref.ensures.value at c.in-Some.ensures.lookup in
    let next = read_ahead in'.row.items in'.used c.in-Some.held.now read.3.0 read.1 in
    rw (← c.self.view_is) (next_first g.V.Numbered.number_of in'.first in'.used in'.row.items in'.rest c.in-Some.held.now next c.self.invariant.numbers)
