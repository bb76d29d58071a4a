use Rattle.std.proofs.Common.{sym, ◌∙◌}
use Rattle.kept_values.proofs.RowLemmas.{later_lookup}
use Rattle.kept_values.proofs.recent.Recent.get.Goals as goal

pub returns : goal.returns
returns g c =
    let in' = c.self.inside in
    let settled = rw (← c.self.view_is) at c.requires.settled in
    let later = rw (← c.self.view_is) at c.requires.later in
    rw (← c.self.view_is) (c.get.ensures ∙ sym (later_lookup g.V.Numbered.number_of in'.first in'.used in'.row.items in'.rest c.self.invariant.numbers c.self.invariant.within settled c.args.key later))
