use Rattle.std.proofs.Common.{◌≡◌, Some, nat_eq, slice_get, reverse, ap, sym, ◌∙◌}
use Rattle.std.specs.Map.{lookup}
use Rattle.kept_values.specs.Rows.{use_order}
use Rattle.kept_values.proofs.KeyLemmas.{found_behind, if_some}
use Rattle.kept_values.proofs.RowLemmas.{later_numbers, settled_shown}
use Rattle.kept_values.proofs.recent.Recent.at.Goals as goal

pub returns-clause-is : goal.returns-clause-is
returns-clause-is g c =
    let in' = c.self.inside in
    let settled = rw (← c.self.view_is) at c.requires.settled in
    let later = rw (← c.self.view_is) at c.requires.later in
    rw (← c.self.view_is) (c.at.ensures.is ∙ ap (λ l. slice_get l c.args.place) (sym (later_numbers g.V.Numbered.number_of in'.first in'.used in'.row.items in'.rest c.self.invariant.numbers c.self.invariant.within settled c.args.number later)))

pub returns-clause-held : goal.returns-clause-held
returns-clause-held g c =
    let in' = c.self.inside in
    let settled = rw (← c.self.view_is) at c.requires.settled in
    let is = settled_shown g.V.Numbered.number_of in'.first in'.used in'.row.items in'.rest c.self.invariant.numbers c.self.invariant.within settled in
    rw (← c.self.view_is) (if_some (λ found. lookup (nat_eq found.0) in'.rest ≡ Some found.1.now) (λ found. lookup (nat_eq found.0) (use_order in'.row.items in'.used in'.rest) ≡ Some found.1.now) c.at.result
    (λ found h. ap (lookup (nat_eq found.0)) is ∙ found_behind found.0 (reverse in'.row.items) in'.rest found.1.now c.self.invariant.distinct h) c.at.ensures.held)
