use Rattle.std.proofs.Common.{List, ℕ, ap, sym, subst, All, ◌∙◌}
use Rattle.std.specs.FinMap as map
use Rattle.project_messages.specs.declared.linked.Linked.{Linked}
use Rattle.project_messages.specs.Messages.{by_name, IsLinked}
use Rattle.project_messages.proofs.LimitLemmas.{limits_of_all}
use Rattle.project_messages.proofs.NameLemmas.{made, values_made}
use Rattle.project_messages.proofs.messages.Messages.iter.Goals as goal

pub returns-clause-messages : goal.returns-clause-messages
returns-clause-messages c = ap by_name c.iter.ensures.rest
    ∙ sym (values_made c.self.inside.linked.entries c.iter.ensures.ordered) ∙ ap map.entries c.self.view_is

pub returns-clause-limits : goal.returns-clause-limits
returns-clause-limits c =
    let es = c.self.inside.linked.entries in
    subst (λ (l : List (List ℕ × Linked)). All (λ e. IsLinked e.1) l)
    (values_made es c.iter.ensures.ordered ∙ sym (ap by_name c.iter.ensures.rest))
    (limits_of_all (made es) c.self.invariant)
