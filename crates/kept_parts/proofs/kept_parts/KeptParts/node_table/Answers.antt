use Rattle.std.proofs.Common.{arith, ◌≡◌, ◌∷◌, ℕ, List, subst}
use Rattle.std.proofs.lemmas.Grind.{common_steps}
use Rattle.co_project.specs.declared.node.Node.{Node}
use Rattle.kept_parts.proofs.NetworkLemmas.{node_current, table_is, table_more, table_start, TableSoFar}
use Rattle.kept_parts.proofs.kept_parts.KeptParts.node_table.Goals as goal

pub loop-id-init : goal.loop-id-init
loop-id-init c =
    table_start c.args.project.now c.into_iter-id-iterator.result c.new-table.result (grind (arith, common_steps))
    c.new-table.ensures

pub add_node-requires : goal.add_node-requires
add_node-requires c =
    let e : ℕ × Node = (c.in-Some.id.now, c.in-Some._node.now) in
    let steps : c.loop-id.id-iterator ≡ e ∷ c.next.new.self = grind (arith, common_steps) in
    let so = subst (λ (it : List (ℕ × Node)). TableSoFar c.args.project.now it c.loop-id.table) steps
    c.loop-id.invariant in
    node_current c.args.project.now c.args.self.now c.requires e so.done c.next.new.self so.all

pub loop-id-preserved : goal.loop-id-preserved
loop-id-preserved c =
    let e : ℕ × Node = (c.in-Some.id.now, c.in-Some._node.now) in
    let steps : c.loop-id.id-iterator ≡ e ∷ c.next.new.self = grind (arith, common_steps) in
    table_more c.args.project.now e c.next.new.self c.loop-id.table c.add_node.new.table
    (subst (λ (it : List (ℕ × Node)). TableSoFar c.args.project.now it c.loop-id.table) steps c.loop-id.invariant)
    c.in_ok-add_node.ensures

pub returns : goal.returns
returns c =
    table_is c.args.project.now c.loop-id.table
    (subst (λ (it : List (ℕ × Node)). TableSoFar c.args.project.now it c.loop-id.table) c.in-None.ensures.steps.0
    c.loop-id.invariant)
