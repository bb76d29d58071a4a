-- The earliest of moments.
use Rattle.std.proofs.Common.{◌≡◌, ◌↔◌, ℕ, zero, ◌≤◌, Bool, true, false, List, [], ◌∷◌, Option, Some, None, IfSome, ◌⊎◌}
use Rattle.std.proofs.Common.{inl, inr, refl, ap, subst, arith}
use Rattle.std.specs.Prelude.{All, Contains, min, nat_le}
use Rattle.std.proofs.lemmas.Bool.Decides.{nat_tests}
use Rattle.std.proofs.lemmas.List.Elements.{All-cons, All-head, All-nil, All-tail, Contains-append_right}
use Rattle.base.specs.Moments.{earlier, earliest}

earlier_splits : (t : ℕ) (a b : Option ℕ) → IfSome (earlier a b) (λ d. t ≤ d)
    → IfSome a (λ d. t ≤ d) × IfSome b (λ d. t ≤ d)
earlier_splits t None b h = (tt, h)
earlier_splits t (Some a) None h = (h, tt)
earlier_splits t (Some a) (Some b) h = (omega (arith, h), omega (arith, h))

earlier_joins : (t : ℕ) (a b : Option ℕ) → IfSome a (λ d. t ≤ d) → IfSome b (λ d. t ≤ d)
    → IfSome (earlier a b) (λ d. t ≤ d)
earlier_joins t None b h k = k
earlier_joins t (Some a) None h k = h
earlier_joins t (Some a) (Some b) h k = omega (arith, h, k)

-- the earliest lies from t on, and so do all
pub all_from : (t : ℕ) (moments : List ℕ) → IfSome (earliest moments) (λ d. t ≤ d) → All (λ d. t ≤ d) moments
all_from t [] h = All-nil (λ d. t ≤ d)
all_from t (m ∷ ms) h =
    let both = earlier_splits t (Some m) (earliest ms) h in
    All-cons (λ d. t ≤ d) m ms both.0 (all_from t ms both.1)

-- all lie from t on, and so does the earliest
pub earliest_from : (t : ℕ) (moments : List ℕ) → All (λ d. t ≤ d) moments → IfSome (earliest moments) (λ d. t ≤ d)
earliest_from t [] h = tt
earliest_from t (m ∷ ms) h =
    earlier_joins t (Some m) (earliest ms) (All-head (λ d. t ≤ d) m ms h)
    (earliest_from t ms (All-tail (λ d. t ≤ d) m ms h))

pub from_earliest : (t : ℕ) (moments : List ℕ) → IfSome (earliest moments) (λ d. t ≤ d) ↔ All (λ d. t ≤ d) moments
from_earliest t moments = (all_from t moments, earliest_from t moments)

some_earlier : (m : ℕ) (o : Option ℕ) → earlier (Some m) o ≡ None → ⊥
some_earlier m None e = cc
some_earlier m (Some n) e = cc

no_moments : (moments : List ℕ) → earliest moments ≡ None → moments ≡ []
no_moments [] e = refl
no_moments (m ∷ ms) e = absurd (some_earlier m (earliest ms) e)

pub none_only : (moments : List ℕ) → (earliest moments ≡ None) ↔ (moments ≡ [])
none_only moments = (no_moments moments, λ e. ap earliest e)

min_is : (a b : ℕ) → (a ≡ min a b) ⊎ (b ≡ min a b)
min_is a b = by (nat_le a b) refl
  where
    by : (t : Bool) → nat_le a b ≡ t → (a ≡ min a b) ⊎ (b ≡ min a b)
    by true e = inl (grind (arith, nat_tests))
    by false e = inr (grind (arith, nat_tests))

first_is : (m : ℕ) (ms : List ℕ) → Contains (m ∷ ms) m
first_is m ms = (zero, omega arith, refl)

-- the earlier of a moment and one of others is one of all
one_of_more : (m : ℕ) (ms : List ℕ) (o : Option ℕ) → IfSome o (Contains ms)
    → IfSome (earlier (Some m) o) (Contains (m ∷ ms))
one_of_more m ms None h = first_is m ms
one_of_more m ms (Some n) h = by (min_is m n)
  where
    by : (m ≡ min m n) ⊎ (n ≡ min m n) → Contains (m ∷ ms) (min m n)
    by (inl e) = subst (Contains (m ∷ ms)) e (first_is m ms)
    by (inr e) = subst (Contains (m ∷ ms)) e (Contains-append_right (m ∷ []) ms n h)

pub one_of_them : (moments : List ℕ) → IfSome (earliest moments) (Contains moments)
one_of_them [] = tt
one_of_them (m ∷ ms) = one_of_more m ms (earliest ms) (one_of_them ms)
