use Rattle.std.proofs.Common.{◌≡◌, ℕ, List, sym, subst, ◌∙◌}
use Rattle.std.specs.Ordering.{nat_cmp}
use Rattle.std.proofs.lemmas.Map.Views.{All-values-insert_entry}
use Rattle.project_plan.specs.Network.{Member}
use Rattle.diag_nodes.specs.Held.{AreOfSheet}
use Rattle.diag_nodes.proofs.sheet_found.SheetFound.put.Goals as goal

pub invariant_of-self-2 : goal.invariant_of-self-2
invariant_of-self-2 c = (
  c.self.invariant.0,
  subst (λ (found : List (ℕ × (ℕ × Member))). AreOfSheet c.self.inside.device found)
      (sym c.in_ok-insert.ensures.entries)
      (All-values-insert_entry nat_cmp c.id.result c.args.found
      (λ (f : ℕ × Member). f.1.sheet ≡ c.self.inside.device) c.self.inside.found.entries c.self.invariant.1
      (sym (c.self.view_is ∙ c.requires))),
)
