use Rattle.std.proofs.Common.{◌≡◌, ℕ, rules}
use Rattle.project_plan.specs.Network.{Member}
use Rattle.diag_nodes.proofs.HeldLemmas.{values_left}
use Rattle.diag_nodes.proofs.sheet_found.keep_nodes.Goals as goal

pub returns : goal.returns
returns c = λ sheet all.
    values_left _ (λ (f : ℕ × Member). f.1.sheet ≡ sheet) _ (λ k v b w after t. search rules) _ _ all
    c.retain.ensures.filtered
