use Rattle.std.proofs.Common.{◌+◌, [], arith}
use Rattle.pdo_findings.specs.Findings.{unplanned_tpdo, unplanned_tpdos}
use Rattle.pdo_links.proofs.NumberLemmas.{begun, ended, further, walked}
use Rattle.pdo_findings.proofs.AbsentLemmas.{no_tpdo}
use Rattle.pdo_findings.proofs.unplanned.unplanned_tpdos.Goals as goal

pub numbers-init : goal.numbers-init
numbers-init c =
    let found = unplanned_tpdo c.args.plan.now c.args.device.now c.args.node in
    let next = c.next_tpdo-number in
    record {
      high = next.ensures.high;
      all = further found [] c.new-found.result.items 1 next.result next.ensures.low next.ensures.high
          (λ k low below. no_tpdo c.args.plan.now c.args.device.now c.args.node k (next.ensures.before k low below))
          (begun found [] c.new-found.result.items c.new-found.ensures.items);
    }

pub numbers-preserved : goal.numbers-preserved
numbers-preserved c =
    let found = unplanned_tpdo c.args.plan.now c.args.device.now c.args.node in
    let next = c.next_tpdo-number-in-numbers in
    record {
      high = next.ensures.high;
      all = further found [] c.add_tpdo.new.found.items (c.numbers.number + 1) next.result
          next.ensures.low next.ensures.high
          (λ k low below. no_tpdo c.args.plan.now c.args.device.now c.args.node k (next.ensures.before k low below))
          (walked found [] c.numbers.found.items c.add_tpdo.new.found.items c.numbers.number
          (c.in_ok-add_tpdo.ensures c.args.plan.now c.args.node c.in_ok-used.ensures) c.numbers.invariant.all);
    }

pub returns : goal.returns
unfolding unplanned_tpdos
returns c =
    ended (unplanned_tpdo c.args.plan.now c.args.device.now c.args.node) [] c.numbers.found.items c.numbers.number
    (omega (arith, c.numbers.invariant.high)) c.numbers.invariant.all
