use Rattle.std.proofs.Common.{ℕ, ◌+◌, ◌||◌, Bool, refl, arith}
use Rattle.std.specs.BTreeSet.{contains}
use Rattle.std.specs.Ordering.{nat_cmp}
use Rattle.cia301.specs.PdoObjects.{rpdo_object, tpdo_object}
use Rattle.pdo_stations.specs.declared.as_made.AsMade.{AsMade}
use Rattle.vendor_pdos.specs.Fixed.{fixes, has_fixed}
use Rattle.vendor_pdos.proofs.EachLemmas.{none_left, some_further, some_noted}
use Rattle.vendor_pdos.proofs.withheld.withhold_all.Goals as goal

abbrev fixed_at : AsMade → ℕ → ℕ → Bool
fixed_at device id n = has_fixed device (tpdo_object n) id || has_fixed device (rpdo_object n) id

pub numbers-init : goal.numbers-init
unfolding fixes
numbers-init c = record {
  high = c.next_of_both-number.ensures.high;
  all = λ id. some_further (fixed_at c.args.device.now id) 1 c.next_of_both-number.result 513
      (contains nat_cmp c.args.identifiers.now id) (contains nat_cmp c.args.identifiers.now id || fixes c.args.device.now id)
      c.next_of_both-number.ensures.low c.next_of_both-number.ensures.high
      (λ k low below. c.next_of_both-number.ensures.before k id low below) refl;
}

pub numbers-preserved : goal.numbers-preserved
numbers-preserved c = record {
  high = c.next_of_both-number-in-numbers.ensures.high;
  all = λ id. some_further (fixed_at c.args.device.now id) (c.numbers.number + 1) c.next_of_both-number-in-numbers.result 513
      (contains nat_cmp c.withhold_both.new.identifiers id)
      (contains nat_cmp c.args.identifiers.now id || fixes c.args.device.now id)
      c.next_of_both-number-in-numbers.ensures.low c.next_of_both-number-in-numbers.ensures.high
      (λ k low below. c.next_of_both-number-in-numbers.ensures.before k id low below)
      (some_noted (fixed_at c.args.device.now id) c.numbers.number 513
      (contains nat_cmp c.numbers.identifiers id) (contains nat_cmp c.withhold_both.new.identifiers id)
      (contains nat_cmp c.args.identifiers.now id || fixes c.args.device.now id) (omega arith)
      (c.in_ok-withhold_both.ensures id) (c.numbers.invariant.all id));
}

pub returns : goal.returns
returns c = λ id.
    none_left (fixed_at c.args.device.now id) c.numbers.number 513 (contains nat_cmp c.numbers.identifiers id)
    (contains nat_cmp c.args.identifiers.now id || fixes c.args.device.now id) (omega arith) (c.numbers.invariant.all id)
