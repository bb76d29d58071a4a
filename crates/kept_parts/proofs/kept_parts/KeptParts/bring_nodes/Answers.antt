use Rattle.std.proofs.Common.{arith, ◌≡◌, ◌∷◌, ℕ, List, subst}
use Rattle.std.proofs.lemmas.Grind.{common_steps}
use Rattle.co_project.specs.declared.node.Node.{Node}
use Rattle.kept_parts.proofs.AllLemmas.{holds_planned, nodes_brought, nodes_more, nodes_start, NodesSoFar}
use Rattle.kept_parts.proofs.kept_parts.KeptParts.bring_nodes.Goals as goal

pub loop-number-init : goal.loop-number-init
loop-number-init c =
    nodes_start c.args.project.now c.into_iter-number-iterator.result c.args.self.now c.args.meter.now
    (grind (arith, common_steps)) c.requires.plan c.requires.is_of

pub bring_node-requires : goal.bring_node-requires
bring_node-requires c = record { is_of = c.loop-number.invariant.is; plan = c.loop-number.invariant.plan }

pub loop-number-preserved : goal.loop-number-preserved
loop-number-preserved c =
    let p = c.args.project.now in
    let e : ℕ × Node = (c.in-Some.number.now, c.in-Some._node.now) in
    let steps : c.loop-number.number-iterator ≡ e ∷ c.next.new.self = grind (arith, common_steps) in
    nodes_more p e c.next.new.self c.args.self.now c.loop-number.self c.bring_node.new.self c.args.meter.now
    c.loop-number.meter c.bring_node.new.meter
    (subst (λ (it : List (ℕ × Node)). NodesSoFar p it c.args.self.now c.loop-number.self c.args.meter.now
    c.loop-number.meter) steps c.loop-number.invariant)
    c.in_ok-bring_node.ensures.brings c.in_ok-bring_node.ensures.plan c.in_ok-bring_node.ensures.is_of

pub returns-clause-brings : goal.returns-clause-brings
returns-clause-brings c =
    nodes_brought c.args.project.now c.args.self.now c.loop-number.self c.args.meter.now c.loop-number.meter
    (subst (λ (it : List (ℕ × Node)). NodesSoFar c.args.project.now it c.args.self.now c.loop-number.self
    c.args.meter.now c.loop-number.meter) c.in-None.ensures.steps.0 c.loop-number.invariant)

pub returns-clause-devices : goal.returns-clause-devices
returns-clause-devices c = holds_planned c.args.project.now c.loop-number.self c.loop-number.invariant.plan

pub returns-clause-is_of : goal.returns-clause-is_of
returns-clause-is_of c = c.loop-number.invariant.is
