use Rattle.std.proofs.Common.{◌+◌, ◌∷◌, [], drop, length, nat_eq, refl, ap, sym, ◌∙◌, arith, length-append}
use Rattle.std.proofs.lemmas.List.{drop_all}
use Rattle.lru.specs.LruCache.{promoted}
use Rattle.kept_values.specs.Rows.{use_order}
use Rattle.kept_values.proofs.RowLemmas.{all_used, brought_recent, brought_shown, same_last_used, turn_lookup}
use Rattle.kept_values.proofs.recent.Recent.use_again.Goals as goal

pub bring-requires : goal.bring-requires
bring-requires g c =
    let in' = c.self.inside in
    let settled = rw (← c.self.view_is) at c.requires.settled in
    let turn = rw (← c.self.view_is) at c.requires.turn in
    rw (turn_lookup g.V.Numbered.number_of in'.first in'.used in'.row.items in'.rest c.self.invariant.numbers c.self.invariant.within settled c.args.key turn.0 turn.1.0 turn.1.1) refl

pub invariant_of-self-2 : goal.invariant_of-self-2
invariant_of-self-2 g c =
    let in' = c.self.inside in
    let row = in'.row.items in
    let new = c.bring.new.row in
    let settled = rw (← c.self.view_is) at c.requires.settled in
    let turn = rw (← c.self.view_is) at c.requires.turn in
    let used = all_used g.V.Numbered.number_of in'.first in'.used row in'.rest c.self.invariant.numbers c.self.invariant.within settled in
    let found = turn_lookup g.V.Numbered.number_of in'.first in'.used row in'.rest c.self.invariant.numbers c.self.invariant.within settled c.args.key turn.0 turn.1.0 turn.1.1 in
    rw (c.len-self-inside.ensures ∙ new.ok.0, c.in_ok-bring.ensures.row turn.0 found, c.in_ok-bring.ensures.rest)
    (brought_recent row in'.rest c.args.key turn.0 c.self.invariant.distinct found g.V.Numbered.number_of in'.capacity in'.given in'.first in'.used c.self.invariant (omega (arith, turn.1.1, used)))

pub returns-clause-ok : goal.returns-clause-ok
returns-clause-ok g c =
    let in' = c.self.inside in
    let row = in'.row.items in
    let new = c.bring.new.row in
    let settled = rw (← c.self.view_is) at c.requires.settled in
    let turn = rw (← c.self.view_is) at c.requires.turn in
    let used = all_used g.V.Numbered.number_of in'.first in'.used row in'.rest c.self.invariant.numbers c.self.invariant.within settled in
    let found = turn_lookup g.V.Numbered.number_of in'.first in'.used row in'.rest c.self.invariant.numbers c.self.invariant.within settled c.args.key turn.0 turn.1.0 turn.1.1 in
    let long = c.len-self-inside.ensures ∙ new.ok.0 in
    let items = c.in_ok-bring.ensures.row turn.0 found in
    let longer = ap length items ∙ length-append row ((c.args.key, turn.0) ∷ []) in
    rw (← c.self.view_is) (same_last_used in'.capacity in'.given (in'.first + c.len-self-inside.result) (in'.first + in'.used + 1) (use_order new.items c.len-self-inside.result c.bring.new.rest) (promoted (nat_eq c.args.key) (use_order row in'.used in'.rest)) (drop c.len-self-inside.result new.items) (drop in'.used row)
    (rw (long, items, c.in_ok-bring.ensures.rest) (brought_shown row in'.rest c.args.key turn.0 c.self.invariant.distinct found g.V.Numbered.number_of in'.first in'.used c.self.invariant.numbers c.self.invariant.within settled))
    (omega (arith, long, longer, used))
    (drop_all c.len-self-inside.result new.items (omega (arith, long)) ∙ sym settled))
