use Rattle.std.proofs.Common.{◌++◌, reverse, take, ap, ◌∙◌, arith}
use Rattle.kept_values.proofs.RowLemmas.{added_recent, all_used, reversed_push, row_push}
use Rattle.kept_values.proofs.recent.Recent.add.Goals as goal

pub fit-self-inside-requires-clause-numbers : goal.fit-self-inside-requires-clause-numbers
fit-self-inside-requires-clause-numbers g c =
    let in' = c.self.inside in
    let row = in'.row.items in
    let settled = rw (← c.self.view_is) at c.requires.settled in
    let turn = rw (← c.self.view_is) at c.requires.turn in
    let used = all_used g.V.Numbered.number_of in'.first in'.used row in'.rest c.self.invariant.numbers c.self.invariant.within settled in
    rw c.in_default.ensures.items (row_push g.V.Numbered.number_of in'.first row (in'.given, c.args.value) c.self.invariant.numbers (omega (arith, turn, used)))

pub invariant_of-self-2 : goal.invariant_of-self-2
invariant_of-self-2 g c =
    let in' = c.self.inside in
    let row = in'.row.items in
    let new = c.fit-self-inside.new.row in
    let is =
    c.fit-self-inside.ensures.entries
    ∙ ap (λ l. take in'.capacity (reverse l ++ in'.rest)) c.in_default.ensures.items
    ∙ ap (λ l. take in'.capacity (l ++ in'.rest)) (reversed_push row (in'.given, c.args.value)) in
    rw (c.len-self-inside.ensures ∙ new.ok.0) (added_recent g.V.Numbered.number_of in'.capacity in'.given c.fit-self-inside.result c.args.value (reverse row ++ in'.rest) new.items c.fit-self-inside.new.rest c.self.invariant.distinct c.self.invariant.known is c.fit-self-inside.ensures.numbers)
