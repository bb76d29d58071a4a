use Rattle.std.proofs.Common.{◌≡◌, ℕ, ◌-◌, ◌+◌, ◌∷◌, ◌++◌, length, get_or, take, drop, sym, subst, ◌∙◌, ap, arith}
use Rattle.std.proofs.Math.Seq.{take-append_seam}
use Rattle.pdo_stations.specs.Shown.{nodes_of}
use Rattle.pdo_stations.specs.Seats.{shape_at, seats_by_number}
use Rattle.pdo_stations.proofs.StationLemmas.{shaped, stations_more, node_before}
use Rattle.pdo_stations.proofs.seats.look_up.Goals as goal

pub nodes-preserved : goal.nodes-preserved
nodes-preserved c =
    let nodes = c.args.nodes.now in
    let i : ℕ = c.nodes.count - 1 in
    let number = get_or nodes i c.index-nodes-count.result in
    let device = get_or nodes i c.index-nodes-count-in-nodes.result in
    let next : i + 1 ≡ c.nodes.count = omega arith in
    let left : nodes_of (drop i nodes) ≡ (number.0, device.1.now) ∷ nodes_of (drop c.nodes.count nodes) =
    node_before nodes i c.index-nodes-count.result c.index-nodes-count-in-nodes.result (omega arith)
    ∙ ap (λ n. (number.0, device.1.now) ∷ nodes_of (drop n nodes)) next in
    let so_far : (node : ℕ) → shape_at (seats_by_number 0 c.as_mut_slice.result.now) node
    ≡ shaped node (nodes_of (drop c.nodes.count nodes)) =
    subst (λ seats. (node : ℕ) → shape_at (seats_by_number 0 seats) node ≡ shaped node (nodes_of (drop c.nodes.count nodes)))
    (sym c.as_mut_slice.ensures.value) c.nodes.invariant.stations in
    let more = stations_more (seats_by_number 0 c.as_mut_slice.result.now) (seats_by_number 0 c.add_station.new.seats) number.0
    device.1.now (nodes_of (drop c.nodes.count nodes)) c.in_ok-add_station.ensures.station so_far in
    let after = c.add_station.new.seats in
    let count : length after ≡ 256 = c.in_ok-add_station.ensures.count in
    let as_many : c.nodes.seats.len ≡ length after = omega (arith, count, c.nodes.invariant.count, c.nodes.seats.ok) in
    let back : take c.nodes.seats.len (after ++ drop (length after) c.nodes.seats.items) ≡ after =
    ap (λ n. take n (after ++ drop (length after) c.nodes.seats.items)) as_many
    ∙ take-append_seam after (drop (length after) c.nodes.seats.items) in
    record {
      within = omega arith;
      count = ap length back ∙ count;
      stations = λ node. ap (λ seats. shape_at (seats_by_number 0 seats) node) back ∙ more node ∙ ap (shaped node) (sym left);
    }

pub returns : goal.returns
returns c =
    let none : c.nodes.count ≡ 0 = omega arith in
    subst (λ n. (node : ℕ) → shape_at (seats_by_number 0 c.nodes.seats.items) node
    ≡ shaped node (nodes_of (drop n c.args.nodes.now))) none c.nodes.invariant.stations
