use Rattle.std.proofs.Common.{◌≡◌, ℕ, ◌∷◌, rules}
use Rattle.project_messages.specs.declared.receive.Receive.{Receive}
use Rattle.co_diag.specs.Found.{useless_receive}
use Rattle.co_diag.proofs.WalkLemmas.{walk_given}
use Rattle.co_diag.proofs.useless.find_of_linked.Goals as goal

pub loop-node-preserved : goal.loop-node-preserved
loop-node-preserved c =
    let e : ℕ × Receive = (c.in-Some.node.now, c.in-Some.receive.now) in
    let left : c.loop-node.node-iterator ≡ e ∷ c.next.new.self = search rules in
    walk_given (useless_receive c.args.library.now.project c.args.message.now c.args.linked.now) _
    c.loop-node.found.items c.find_if_useless.new.found.items e c.next.new.self c.loop-node.node-iterator left
    c.in_ok-find_if_useless.ensures c.loop-node.invariant
