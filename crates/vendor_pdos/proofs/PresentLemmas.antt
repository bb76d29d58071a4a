-- The objects of PDOs that a device has, and those that it hasn't.
use Rattle.std.proofs.Common.{◌≡◌, ℕ, ◌+◌, ◌-◌, ◌<◌, ◌≤◌, false, Option, Some, None, IsSome, refl, sym, subst, arith}
use Rattle.std.specs.FinMap.{get}
use Rattle.co_dict.specs.declared.entry.Entry.{Entry}
use Rattle.co_dict.specs.Shapes.{HasIndex}
use Rattle.co_dict.specs.Tables.{HasIndexIn, IsNextIndexIn}
use Rattle.pdo_stations.specs.declared.as_made.AsMade.{AsMade}
use Rattle.vendor_pdos.specs.Fixed.{fixed_identifier, has_fixed}
use Rattle.vendor_pdos.specs.Parameters.{has_parameter, is_open}
use Rattle.vendor_pdos.specs.Present.{IsNextPdo}

-- ---- the next one

module _ (device : AsMade) (below from : ℕ) where
  abbrev numbered : ℕ → ℕ
  numbered number = below + number

  pub next_found : (object : ℕ) → IsNextIndexIn device.shape.entries (below + from) (Some object)
      → object ≤ below + 512 → IsNextPdo numbered device from (object - below)
  next_found object is within =
      let low : below + from ≤ object = is.0 in
      let same : object ≡ below + (object - below) = omega (arith, low) in record {
        low = omega (arith, low);
        high = omega (arith, low, within);
        there = λ up. subst (HasIndexIn device.shape.entries) same is.1;
        before = λ number first before. is.2 (below + number) (omega (arith, first)) (omega (arith, low, before));
      }

  pub next_beyond : (object : ℕ) → IsNextIndexIn device.shape.entries (below + from) (Some object)
      → below + 512 < object → from ≤ 513 → IsNextPdo numbered device from 513
  next_beyond object is past high = record {
    low = high;
    high = omega arith;
    there = λ up. absurd (omega (arith, up));
    before = λ number first before. is.2 (below + number) (omega (arith, first)) (omega (arith, past, before));
  }

  pub next_none : IsNextIndexIn device.shape.entries (below + from) None → from ≤ 513 → IsNextPdo numbered device from 513
  next_none none high = record {
    low = high;
    high = omega arith;
    there = λ up. absurd (omega (arith, up));
    before = λ number first before. none (below + number) (omega (arith, first));
  }

-- ---- an object that isn't there

module _ (device : AsMade) (object : ℕ) (none : HasIndex device.shape object → ⊥) where
  pub no_entry : (sub : ℕ) → get device.shape.entries (object, sub) ≡ None
  no_entry sub = by (get device.shape.entries (object, sub)) refl
    where
      by : (o : Option Entry) → get device.shape.entries (object, sub) ≡ o → o ≡ None
      by None is = refl
      by (Some entry) is = absurd (none (sub, subst IsSome (sym is) refl))

  pub never_open : is_open device object ≡ false
  never_open = rw (no_entry 1) refl

  pub no_cob_id : has_parameter device object 1 ≡ false
  no_cob_id = rw (no_entry 1) refl

  pub never_fixed : (id : ℕ) → has_fixed device object id ≡ false
  unfolding fixed_identifier
  never_fixed id = rw (no_entry 1) refl
