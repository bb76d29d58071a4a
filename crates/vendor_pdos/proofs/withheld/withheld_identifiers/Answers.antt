use Rattle.std.proofs.Common.{◌≡◌, ◌||◌, ◌∙◌, true, false, is_some, ap, rules, arith}
use Rattle.std.specs.BTreeSet.{contains}
use Rattle.std.specs.List.{list_any, range_with_len}
use Rattle.std.specs.Ordering.{nat_cmp}
use Rattle.pdo_stations.specs.Stations.{devices_in}
use Rattle.vendor_pdos.specs.Fixed.{is_withheld}
use Rattle.vendor_pdos.proofs.EachLemmas.{none_left, some_noted}
use Rattle.vendor_pdos.proofs.WithheldLemmas.{at_node, withheld_none, withheld_some}
use Rattle.vendor_pdos.proofs.withheld.withheld_identifiers.Goals as goal

pub returns-then-not-is_three : goal.returns-then-not-is_three
returns-then-not-is_three c = λ id.
    let none : is_some (devices_in c.args.stations.now).vendor ≡ false = search rules in
    let empty : contains nat_cmp c.new-identifiers.result id ≡ false = search rules in
    empty ∙ withheld_none (devices_in c.args.stations.now) id none

pub loop-node-init : goal.loop-node-init
loop-node-init c = λ id.
    let some : is_some (devices_in c.args.stations.now).vendor ≡ true = search rules in
    let empty : contains nat_cmp c.new-identifiers.result id ≡ false = search rules in
    ap (λ b. b || list_any (at_node (devices_in c.args.stations.now).vendor id) (range_with_len 1 127)) empty
    ∙ withheld_some (devices_in c.args.stations.now) id some

pub loop-node-preserved : goal.loop-node-preserved
loop-node-preserved c = λ id.
    some_noted (at_node (devices_in c.args.stations.now).vendor id) c.loop-node.node 128
    (contains nat_cmp c.loop-node.identifiers id) (contains nat_cmp c.withhold_node.new.identifiers id)
    (is_withheld (devices_in c.args.stations.now) id) (omega arith) (c.in_ok-withhold_node.ensures id)
    (c.loop-node.invariant id)

pub returns : goal.returns
returns c = λ id.
    none_left (at_node (devices_in c.args.stations.now).vendor id) c.loop-node.node 128
    (contains nat_cmp c.loop-node.identifiers id) (is_withheld (devices_in c.args.stations.now) id) (omega arith)
    (c.loop-node.invariant id)
