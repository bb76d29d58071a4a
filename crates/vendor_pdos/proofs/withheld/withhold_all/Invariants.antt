use Rattle.std.proofs.Common.{◌≡◌, ℕ, ◌-◌, ◌≤◌, ◌||◌}
use Rattle.std.specs.BTreeSet.{contains}
use Rattle.std.specs.Ordering.{nat_cmp}
use Rattle.cia301.specs.PdoObjects.{rpdo_object, tpdo_object}
use Rattle.vendor_pdos.specs.Fixed.{fixes, has_fixed}
use Rattle.vendor_pdos.proofs.EachLemmas.{some_from}
use Rattle.vendor_pdos.proofs.withheld.withhold_all.Given as goal

-- with those of the numbers that are left they are all
abbrev pub invariant-numbers : goal.invariant-numbers
invariant-numbers l = record {
  high : l.number ≤ 513;
  all : (id : ℕ) → (contains nat_cmp l.identifiers id
      || some_from (λ n. has_fixed l.device (tpdo_object n) id || has_fixed l.device (rpdo_object n) id) l.number 513)
      ≡ (contains nat_cmp l.fn.identifiers id || fixes l.device id);
}

abbrev pub decreases-numbers : goal.decreases-numbers
decreases-numbers l = 513 - l.number
