-- The identifier of a message.
use Rattle.std.proofs.Common.{◌≡◌, ℕ, ◌<◌, ◌≤◌, ◌==◌, Bool, true, false, not, ◌&&◌, ◌||◌, nat_lt}
use Rattle.std.proofs.Common.{nat_le, Option, Some, None}
use Rattle.std.proofs.Common.{option_and_then, ◌%◌, refl, sym, ap, subst, arith}
use Rattle.std.specs.Prelude.{if◌then◌else◌}
use Rattle.std.specs.Option.{option_map_or, option_or}
use Rattle.std.proofs.lemmas.Bool.{false≢true}
use Rattle.std.proofs.lemmas.Bool.Decides.{nat_tests}
use Rattle.cia301.specs.CobIds.{identifier_in, is_restricted}
use Rattle.cia301.specs.PdoObjects.{tpdo_object}
use Rattle.project_messages.specs.declared.message.Message.{Message}
use Rattle.pdo_stations.specs.Devices.{Devices}
use Rattle.pdo_stations.specs.declared.as_made.AsMade.{AsMade}
use Rattle.vendor_pdos.specs.Fixed.{fixed_at, fixed_identifier, is_fixed_on}
use Rattle.vendor_pdos.specs.Parameters.{parameter_default}
use Rattle.pdo_choices.specs.Least.{least_free, IsLeastFree}
use Rattle.pdo_choices.specs.Had.{Had}
use Rattle.pdo_choices.specs.Identifiers.{predefined_identifier, explicit, automatic, fixed_for, identifier_for}
use Rattle.pdo_choices.specs.Identifiers.{is_free_identifier, sought_identifier}
use Rattle.pdo_choices.proofs.LeastLemmas.{least_free_is}

pub is_false : (b : Bool) → not b ≡ true → b ≡ false
is_false true e = absurd (false≢true e)
is_false false e = refl

none_of : (a b c : Bool) → a || b || c ≡ false → (b ≡ false) × (c ≡ false)
none_of false false false e = (refl, refl)
none_of false false true e = cc
none_of false true c e = cc
none_of true b c e = cc

left_true : (a b : Bool) → (a && b) ≡ true → a ≡ true
left_true true b e = refl
left_true false b e = e

-- identifiers that are not restricted
allowed : (id : ℕ) → 0x181 ≤ id → id ≤ 0x580 → is_restricted id ≡ false
unfolding is_restricted
allowed id low high = grind (arith, nat_tests)

allowed_pool : (id : ℕ) → 0x681 ≤ id → id < 0x6E0 → is_restricted id ≡ false
unfolding is_restricted
allowed_pool id low high = grind (arith, nat_tests)

-- an identifier is free; and of a message within its limits it is allowed
pub record IsFine (had : Had) (m : Message) (id : ℕ) : Type 0 where
  pub free : had.identifier id ≡ false
  pub allowed : 1 ≤ m.tpdo → 1 ≤ m.node → m.node ≤ 127 → is_restricted id ≡ false
  pub below : m.node ≤ 127 → m.cob ≤ 0x7FF → id < 0x800

-- an explicit one is the one that was asked for
pub explicit_is : (had : Had) (cob id : ℕ) → explicit had cob ≡ Some id → cob ≡ id
explicit_is had cob id e = by (nat_lt cob 0x181 || is_restricted cob || had.identifier cob) e
  where
    by : (b : Bool) → (if b then None else Some cob) ≡ Some id → cob ≡ id
    by true e = cc
    by false e = cc

explicit_fine : (had : Had) (m : Message) (cob id : ℕ) → explicit had cob ≡ Some id
    → (m.cob ≤ 0x7FF → cob < 0x800) → IsFine had m id
explicit_fine had m cob id e most = by (nat_lt cob 0x181 || is_restricted cob || had.identifier cob) refl e
  where
    by : (b : Bool) → nat_lt cob 0x181 || is_restricted cob || had.identifier cob ≡ b
        → (if b then None else Some cob) ≡ Some id → IsFine had m id
    by true t e = cc
    by false t e =
        let same : cob ≡ id = cc in
        let none = none_of (nat_lt cob 0x181) (is_restricted cob) (had.identifier cob) t in
        record {
          free = subst (λ n. had.identifier n ≡ false) same none.1;
          allowed = λ tpdo low high. subst (λ n. is_restricted n ≡ false) same none.0;
          below = λ high low. subst (λ n. n < 0x800) same (most low);
        }

-- one that may be chosen is free
free_of : (had : Had) (id : ℕ) → is_free_identifier had id ≡ true → had.identifier id ≡ false
free_of had id e = is_false (had.identifier id) (left_true (not (had.identifier id)) _ e)

pool_fine : (had : Had) (m : Message) (id : ℕ) → least_free (is_free_identifier had) 0x681 95 ≡ Some id
    → IsFine had m id
pool_fine had m id e =
    let is : IsLeastFree (is_free_identifier had) 0x681 95 (Some id) =
    least_free_is (is_free_identifier had) 0x681 95 (Some id) (sym e) in
    record {
      free = free_of had id is.2;
      allowed = λ tpdo low high. allowed_pool id is.0 (omega (arith, is.1));
      below = λ high most. omega (arith, is.1);
    }

automatic_fine : (had : Had) (m : Message) (id : ℕ) → automatic had m.node m.tpdo ≡ Some id → IsFine had m id
automatic_fine had m id e =
    by (nat_le m.tpdo 4) (is_free_identifier had (predefined_identifier m.node m.tpdo)) refl refl e
  where
    few : (n : ℕ) → nat_le n 4 ≡ true → n ≤ 4
    few n t = grind (arith, nat_tests)

    by : (few_tpdo is_free : Bool) → nat_le m.tpdo 4 ≡ few_tpdo
        → is_free_identifier had (predefined_identifier m.node m.tpdo) ≡ is_free
        → (if few_tpdo && is_free then Some (predefined_identifier m.node m.tpdo)
        else least_free (is_free_identifier had) 0x681 95) ≡ Some id → IsFine had m id
    by true true f h e =
        let same : predefined_identifier m.node m.tpdo ≡ id = cc in
        let up : m.tpdo ≤ 4 = few m.tpdo f in
        record {
          free = subst (λ n. had.identifier n ≡ false) same (free_of had (predefined_identifier m.node m.tpdo) h);
          allowed = λ tpdo low high. subst (λ n. is_restricted n
              ≡ false) same (allowed (predefined_identifier m.node m.tpdo) (omega arith) (omega arith));
          below = λ high most. omega arith;
        }
    by true false f h e = pool_fine had m id e
    by false b f h e = pool_fine had m id e

-- a fixed one has 11 bits
fixed_below : (device : AsMade) (object id : ℕ) → fixed_identifier device object ≡ Some id → id < 0x800
unfolding fixed_identifier
fixed_below device object id e = by (is_fixed_on device object) e
  where
    by : (b : Bool) → (if b then Some (identifier_in (parameter_default device object 1)) else None) ≡ Some id
        → id < 0x800
    by true e =
        let same : parameter_default device object 1 % 0x800 ≡ id = cc in
        omega (arith, same)
    by false e = cc

fixed_at_below : (devices : Devices) (node object id : ℕ) → fixed_at devices node object ≡ Some id → id < 0x800
fixed_at_below devices node object id e = by devices.vendor e
  where
    at : (o : Option AsMade) → option_and_then (λ device. fixed_identifier device object) o ≡ Some id → id < 0x800
    at None e = cc
    at (Some device) e = fixed_below device object id e

    by : (o : Option (ℕ → Option AsMade))
        → option_and_then (λ made. option_and_then (λ device. fixed_identifier device object) (made node)) o ≡ Some id
        → id < 0x800
    by None e = cc
    by (Some made) e = at (made node) e

fixed_fine : (had : Had) (m : Message) (fixed id : ℕ) → fixed < 0x800 → fixed_for had m.cob fixed ≡ Some id
    → IsFine had m id
fixed_fine had m fixed id below e = by (m.cob == 0 || m.cob == fixed) e
  where
    by : (b : Bool) → (if b then explicit had fixed else None) ≡ Some id → IsFine had m id
    by true e = explicit_fine had m fixed id e (λ most. below)
    by false e = cc

pub identifier_fine : (had : Had) (devices : Devices) (m : Message) (id : ℕ) → identifier_for had devices m ≡ Some id
    → IsFine had m id
unfolding identifier_for
identifier_fine had devices m id e = by (fixed_at devices m.node (tpdo_object m.tpdo)) refl e
  where
    own : (b : Bool) → (if b then automatic had m.node m.tpdo else explicit had m.cob) ≡ Some id → IsFine had m id
    own true e = automatic_fine had m id e
    own false e = explicit_fine had m m.cob id e (λ most. omega arith)

    by : (o : Option ℕ) → fixed_at devices m.node (tpdo_object m.tpdo) ≡ o
        → option_map_or (fixed_for had m.cob) o (if m.cob == 0 then automatic had m.node m.tpdo else explicit had m.cob)
        ≡ Some id → IsFine had m id
    by None is e = own (m.cob == 0) e
    by (Some fixed) is e =
        fixed_fine had m fixed id (fixed_at_below devices m.node (tpdo_object m.tpdo) fixed is) e

-- the identifier of a message that can have one is the one by which its receivers are sought
pub sought_same : (had : Had) (devices : Devices) (m : Message) (id : ℕ) → identifier_for had devices m ≡ Some id
    → sought_identifier had devices m ≡ Some id
unfolding identifier_for
sought_same had devices m id e = by (fixed_at devices m.node (tpdo_object m.tpdo)) e
  where
    own : (b : Bool) → (if b then automatic had m.node m.tpdo else explicit had m.cob) ≡ Some id
        → (if b then automatic had m.node m.tpdo else Some m.cob) ≡ Some id
    own true e = e
    own false e = ap Some (explicit_is had m.cob id e)

    named : (fixed : ℕ) (b : Bool) → (if b then explicit had fixed else None) ≡ Some id → Some fixed ≡ Some id
    named fixed true e = ap Some (explicit_is had fixed id e)
    named fixed false e = cc

    by : (o : Option ℕ)
        → option_map_or (fixed_for had m.cob) o (if m.cob == 0 then automatic had m.node m.tpdo else explicit had m.cob)
        ≡ Some id
        → option_or o (if m.cob == 0 then automatic had m.node m.tpdo else Some m.cob) ≡ Some id
    by None e = own (m.cob == 0) e
    by (Some fixed) e = named fixed (m.cob == 0 || m.cob == fixed) e
