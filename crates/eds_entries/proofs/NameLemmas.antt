-- Names that are too short for their form, and the numbers of their digits.
use Rattle.std.proofs.Common.{◌≡◌, ℕ, ◌^◌, ◌<◌, ◌≤◌, Bool, true, false, List, [], ◌∷◌, length, drop, Option, Some, None}
use Rattle.std.proofs.Common.{IsTrue, ◌↔◌, refl, lit<, arith}
use Rattle.std.specs.Prelude.{if◌then◌else◌}
use Rattle.std.specs.Option.{option_zip}
use Rattle.std.proofs.Math.Nat.{pow-le-pow_right}
use Rattle.std.proofs.lemmas.Bool.Decides.{same_from_decides}
use Rattle.std.proofs.lemmas.Slice.Eq.{bytes_eq-Decides}
use Rattle.ini_text.specs.Content.{lower_case, same}
use Rattle.eds_entries.specs.Names.{sub_named, place_named, values_named}

-- a test that says whether two names are equal without case
pub same_is : (r : Bool) (a b : List ℕ) → (IsTrue r ↔ (lower_case a ≡ lower_case b)) → r ≡ same a b
same_is r a b h = same_from_decides r (same a b) h (bytes_eq-Decides (lower_case a) (lower_case b))

none_or_none : {X : Type 0} (b : Bool) → let none : Option X = None in (if b then none else none) ≡ none
none_or_none true = refl
none_or_none false = refl

zip_none : (o : Option ℕ) → let none : Option ℕ = None in option_zip o none ≡ None
zip_none None = refl
zip_none (Some x) = refl

no_sub : (name : List ℕ) → length name < 7 → sub_named (drop 7 name) ≡ None
unfolding sub_named
no_sub [] h = refl
no_sub (a ∷ []) h = refl
no_sub (a ∷ b ∷ []) h = refl
no_sub (a ∷ b ∷ c ∷ []) h = refl
no_sub (a ∷ b ∷ c ∷ d ∷ []) h = refl
no_sub (a ∷ b ∷ c ∷ d ∷ e ∷ []) h = refl
no_sub (a ∷ b ∷ c ∷ d ∷ e ∷ f ∷ []) h = refl
no_sub (a ∷ b ∷ c ∷ d ∷ e ∷ f ∷ g ∷ rest) h = absurd (omega arith)

pub short_for_place : (name : List ℕ) → length name < 7 → place_named name ≡ None
unfolding place_named
short_for_place name h = rw (no_sub name h) (rw zip_none (none_or_none _))

pub short_for_values : (name : List ℕ) → length name < 4 → values_named name ≡ None
unfolding values_named
short_for_values [] h = refl
short_for_values (a ∷ []) h = refl
short_for_values (a ∷ b ∷ []) h = refl
short_for_values (a ∷ b ∷ c ∷ []) h = refl
short_for_values (a ∷ b ∷ c ∷ d ∷ rest) h = absurd (omega arith)

-- ---- digits

-- what at most four hexadecimal digits write
pub four_digits : (i n : ℕ) → i ≤ 4 → n < 16 ^ i → n < 65536
four_digits i n few low = let most : 16 ^ i ≤ 16 ^ 4 = pow-le-pow_right {n = 16} (lit< tt) few
    in omega (arith, low, most)

-- what at most two write
pub two_digits : (i n : ℕ) → i ≤ 2 → n < 16 ^ i → n < 256
two_digits i n few low = let most : 16 ^ i ≤ 16 ^ 2 = pow-le-pow_right {n = 16} (lit< tt) few
    in omega (arith, low, most)
