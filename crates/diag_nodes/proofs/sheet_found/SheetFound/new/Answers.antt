use Rattle.std.proofs.Common.{◌≡◌, ℕ, List, subst, sym}
use Rattle.std.proofs.lemmas.List.Elements.{All-nil}
use Rattle.eds_device.specs.Sheets.{Sheet}
use Rattle.project_plan.specs.Network.{Member}
use Rattle.project_plan.specs.Sheets.{AreEntriesOf}
use Rattle.diag_nodes.specs.Held.{AreOfSheet}
use Rattle.diag_nodes.proofs.sheet_found.SheetFound.new.Goals as goal

pub invariant_of-result : goal.invariant_of-result
invariant_of-result c = (
  subst (λ (s : Sheet). AreEntriesOf s c.in_ok-entries.entries) c.get.ensures c.in_ok-entries.ensures,
  subst (λ (found : List (ℕ × (ℕ × Member))). AreOfSheet c.args.device found) (sym c.new.ensures.empty)
      (All-nil (λ (f : ℕ × Member). f.1.sheet ≡ c.args.device)),
)
