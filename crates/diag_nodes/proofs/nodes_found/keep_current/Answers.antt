use Rattle.std.proofs.Common.{rules}
use Rattle.diag_nodes.proofs.HeldLemmas.{are_now, pairs_left, IsNow}
use Rattle.diag_nodes.proofs.nodes_found.keep_current.Goals as goal

pub returns : goal.returns
returns c =
    are_now c.args.library.now.project c.retain.new.self.entries
    (pairs_left _ (IsNow c.args.library.now.project) _ (λ k v b w after t. (λ yes. search rules, search rules)) _ _
    c.retain.ensures.filtered)
