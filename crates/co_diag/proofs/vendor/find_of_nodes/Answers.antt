use Rattle.std.proofs.Common.{◌≡◌, ◌∙◌, ℕ, List, [], ◌∷◌, ◌++◌, ap, rules, subst, sym}
use Rattle.std.specs.FinMap.{entries}
use Rattle.std.specs.List.{All, flat_map}
use Rattle.std.proofs.lemmas.List.Elements.{All-head, All-tail}
use Rattle.project_plan.specs.Library.{IsRead}
use Rattle.co_project.specs.declared.node.Node.{Node}
use Rattle.diag_lines.specs.declared.diag.Diag.{Diag}
use Rattle.diag_nodes.specs.Devices.{AreAllRead, of_node}
use Rattle.co_diag.specs.Found.{node_findings}
use Rattle.diag_nodes.proofs.WalkLemmas.{all_members, walk_ends, walk_on}
use Rattle.co_diag.proofs.vendor.find_of_nodes.Goals as goal

pub loop-id-init : goal.loop-id-init
unfolding AreAllRead
loop-id-init c =
    let p = c.args.library.now.project in
    let start : c.into_iter-id-iterator.result ≡ entries p.nodes = search rules in
    record {
      read = subst (All (λ e. IsRead c.args.library.now e.1.eds)) (sym start) c.requires;
      found = ap (λ (xs : List (ℕ × Node)). c.args.found.now.items
          ++ flat_map (of_node (node_findings c.args.plan.now) p) xs) start;
    }

pub find_of_node-requires : goal.find_of_node-requires
find_of_node-requires c =
    let e : ℕ × Node = (c.in-Some.id.now, c.in-Some.node.now) in
    let left : c.loop-id.id-iterator ≡ e ∷ c.next.new.self = search rules in
    All-head (λ e. IsRead c.args.library.now e.1.eds) e c.next.new.self
    (subst (λ (es : List (ℕ × Node)). All (λ e. IsRead c.args.library.now e.1.eds) es) left c.loop-id.invariant.read)

pub loop-id-preserved : goal.loop-id-preserved
loop-id-preserved c =
    let e : ℕ × Node = (c.in-Some.id.now, c.in-Some.node.now) in
    let left : c.loop-id.id-iterator ≡ e ∷ c.next.new.self = search rules in
    record {
      read = All-tail (λ e. IsRead c.args.library.now e.1.eds) e c.next.new.self
          (subst (λ (es : List (ℕ × Node)). All (λ e. IsRead c.args.library.now e.1.eds) es) left c.loop-id.invariant.read);
      found = walk_on (of_node (node_findings c.args.plan.now) c.args.library.now.project) _
          c.loop-id.found.items c.find_of_node.new.found.items e c.next.new.self c.loop-id.id-iterator left
          c.in_ok-find_of_node.ensures c.loop-id.invariant.found;
    }

pub returns : goal.returns
returns c =
    let ended : c.loop-id.id-iterator ≡ [] = search rules in
    walk_ends (of_node (node_findings c.args.plan.now) c.args.library.now.project) _ c.loop-id.found.items
    c.loop-id.id-iterator ended c.loop-id.invariant.found
    ∙ ap (λ (ds : List Diag). c.args.found.now.items ++ ds)
    (all_members (node_findings c.args.plan.now) c.args.library.now.project)
