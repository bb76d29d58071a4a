use Rattle.std.proofs.Common.{◌≡◌, ℕ, subst}
use Rattle.std.specs.BTreeMap.{is_at}
use Rattle.std.specs.Map.{lookup}
use Rattle.std.specs.Ordering.{nat_cmp}
use Rattle.std.proofs.lemmas.Map.Views.{IfSome-lookup_from_All}
use Rattle.eds_device.specs.Sheets.{Sheet}
use Rattle.co_project.proofs.SoundLemmas.{IfSome-copied}
use Rattle.project_plan.specs.Network.{Member}
use Rattle.diag_nodes.specs.Held.{AreOfSheet}
use Rattle.diag_nodes.proofs.sheet_found.SheetFound.found_of.Goals as goal

pub returns : goal.returns
returns c =
    let es = c.self.inside.found.entries in
    IfSome-copied (λ (f : ℕ × Member). f.1.sheet ≡ c.args.self.now) c.get.result
    (lookup (is_at (nat_cmp c.args.id)) es) c.get.ensures.value
    (IfSome-lookup_from_All (λ (f : ℕ × Member). f.1.sheet ≡ c.args.self.now) (is_at (nat_cmp c.args.id)) es
    (subst (λ (s : Sheet). AreOfSheet s es) c.self.view_is c.self.invariant.1))
