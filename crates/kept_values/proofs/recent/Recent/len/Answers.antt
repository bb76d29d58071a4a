use Rattle.kept_values.proofs.RowLemmas.{shown_distinct, shown_given}
use Rattle.kept_values.proofs.recent.Recent.len.Goals as goal

pub returns-clause-distinct : goal.returns-clause-distinct
returns-clause-distinct g c = rw (← c.self.view_is) (shown_distinct c.self.inside.row.items c.self.inside.used c.self.inside.rest c.self.invariant.distinct)

pub returns-clause-given : goal.returns-clause-given
returns-clause-given g c = rw (← c.self.view_is) (shown_given c.self.inside.row.items c.self.inside.used c.self.inside.rest c.self.inside.given c.self.invariant.known)
