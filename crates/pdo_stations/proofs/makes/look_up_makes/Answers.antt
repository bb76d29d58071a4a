use Rattle.std.proofs.Common.{◌≡◌, ℕ, ◌-◌, ◌+◌, ◌∷◌, ◌++◌, length, get_or, None, take, drop, sym, subst, ◌∙◌, ap, arith}
use Rattle.std.proofs.Math.Seq.{take-append_seam}
use Rattle.pdo_stations.specs.Shown.{nodes_of}
use Rattle.pdo_stations.proofs.StationLemmas.{made, made_more, node_before}
use Rattle.pdo_stations.proofs.makes.look_up_makes.Goals as goal

pub nodes-preserved : goal.nodes-preserved
nodes-preserved c =
    let nodes = c.args.nodes.now in
    let i : ℕ = c.nodes.count - 1 in
    let number = get_or nodes i c.index-nodes-count.result in
    let device = get_or nodes i c.index-nodes-count-in-nodes.result in
    let next : i + 1 ≡ c.nodes.count = omega arith in
    let left : nodes_of (drop i nodes) ≡ (number.0, device.1.now) ∷ nodes_of (drop c.nodes.count nodes) =
    node_before nodes i c.index-nodes-count.result c.index-nodes-count-in-nodes.result (omega arith)
    ∙ ap (λ n. (number.0, device.1.now) ∷ nodes_of (drop n nodes)) next in
    let so_far : (node : ℕ) → get_or c.as_mut_slice.result.now node None
    ≡ made node (nodes_of (drop c.nodes.count nodes)) =
    subst (λ makes. (node : ℕ) → get_or makes node None ≡ made node (nodes_of (drop c.nodes.count nodes)))
    (sym c.as_mut_slice.ensures.value) c.nodes.invariant.makes in
    let more = made_more c.as_mut_slice.result.now c.put_made.new.makes number.0
    device.1.now (nodes_of (drop c.nodes.count nodes)) c.in_ok-put_made.ensures.made so_far in
    let after = c.put_made.new.makes in
    let count : length after ≡ 256 = c.in_ok-put_made.ensures.count in
    let as_many : c.nodes.makes.len ≡ length after = omega (arith, count, c.nodes.invariant.count, c.nodes.makes.ok) in
    let back : take c.nodes.makes.len (after ++ drop (length after) c.nodes.makes.items) ≡ after =
    ap (λ n. take n (after ++ drop (length after) c.nodes.makes.items)) as_many
    ∙ take-append_seam after (drop (length after) c.nodes.makes.items) in
    record {
      within = omega arith;
      count = ap length back ∙ count;
      makes = λ node. ap (λ makes. get_or makes node None) back ∙ more node ∙ ap (made node) (sym left);
    }

pub returns : goal.returns
returns c =
    let none : c.nodes.count ≡ 0 = omega arith in
    subst (λ n. (node : ℕ) → get_or c.nodes.makes.items node None
    ≡ made node (nodes_of (drop n c.args.nodes.now))) none c.nodes.invariant.makes
