use Rattle.std.proofs.Common.{◌+◌, [], arith}
use Rattle.pdo_findings.specs.Findings.{unplanned_rpdo, unplanned_rpdos}
use Rattle.pdo_links.proofs.NumberLemmas.{begun, ended, further, walked}
use Rattle.pdo_findings.proofs.AbsentLemmas.{no_rpdo}
use Rattle.pdo_findings.proofs.unplanned.unplanned_rpdos.Goals as goal

pub numbers-init : goal.numbers-init
numbers-init c =
    let found = unplanned_rpdo c.args.plan.now c.args.device.now c.args.node in
    let next = c.next_rpdo-number in
    record {
      high = next.ensures.high;
      all = further found [] c.new-found.result.items 1 next.result next.ensures.low next.ensures.high
          (λ k low below. no_rpdo c.args.plan.now c.args.device.now c.args.node k (next.ensures.before k low below))
          (begun found [] c.new-found.result.items c.new-found.ensures.items);
    }

pub numbers-preserved : goal.numbers-preserved
numbers-preserved c =
    let found = unplanned_rpdo c.args.plan.now c.args.device.now c.args.node in
    let next = c.next_rpdo-number-in-numbers in
    record {
      high = next.ensures.high;
      all = further found [] c.add_rpdo.new.found.items (c.numbers.number + 1) next.result
          next.ensures.low next.ensures.high
          (λ k low below. no_rpdo c.args.plan.now c.args.device.now c.args.node k (next.ensures.before k low below))
          (walked found [] c.numbers.found.items c.add_rpdo.new.found.items c.numbers.number
          (c.in_ok-add_rpdo.ensures c.args.plan.now c.args.node c.in_ok-used.ensures c.in_ok-heard.ensures) c.numbers.invariant.all);
    }

pub returns : goal.returns
unfolding unplanned_rpdos
returns c =
    ended (unplanned_rpdo c.args.plan.now c.args.device.now c.args.node) [] c.numbers.found.items c.numbers.number
    (omega (arith, c.numbers.invariant.high)) c.numbers.invariant.all
