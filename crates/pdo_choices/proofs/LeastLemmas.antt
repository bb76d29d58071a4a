-- The least free number is the one that is free and below which none is.
use Rattle.std.proofs.Common.{◌≡◌, ◌↔◌, ◌⊎◌, inl, inr, ℕ, zero, suc, ◌+◌, ◌<◌, ◌≤◌, min, Bool, true, false, cond, List, ◌∷◌}
use Rattle.std.proofs.Common.{filter, Option, Some, None, refl, sym, ap, subst, ◌∙◌, arith}
use Rattle.std.specs.List.{range_with_len}
use Rattle.std.specs.declared.cmp.Ordering.{Ordering}
use Rattle.std.specs.declared.cmp.Ordering.TheVariants.{Less, Equal, Greater}
use Rattle.std.specs.Ordering.{nat_cmp}
use Rattle.std.proofs.lemmas.Bool.{cases_lt, false≢true}
use Rattle.std.proofs.lemmas.Cmp.{ranked}
use Rattle.pdo_stations.proofs.RoomLemmas.{here_or_past}
use Rattle.pdo_choices.specs.Least.{lesser, least, least_free, IsLeastFree}

-- what holds of a number and of those after it
from : (is_free : ℕ → Bool) (first k : ℕ) → is_free first ≡ false → first ≤ k → (first + 1 ≤ k → is_free k ≡ false)
    → is_free k ≡ false
from is_free first k here low rest = by (here_or_past first k low)
  where
    by : (first ≡ k) ⊎ (first + 1 ≤ k) → is_free k ≡ false
    by (inl e) = subst (λ n. is_free n ≡ false) e here
    by (inr past) = rest past

-- one number before those that a least one is of
step : (is_free : ℕ → Bool) (first count : ℕ) (b : Bool) (ns : List ℕ) → is_free first ≡ b
    → IsLeastFree is_free (first + 1) count (least ns)
    → IsLeastFree is_free first (suc count) (least (cond b (first ∷ ns) ns))
step is_free first count b ns here rest = by b (least ns) here rest
  where
    taken : (b : Bool) → least (cond b (first ∷ ns) ns) ≡ cond b (Some (lesser first (least ns))) (least ns)
    taken true = refl
    taken false = refl

    at : (b : Bool) (o : Option ℕ) → is_free first ≡ b → IsLeastFree is_free (first + 1) count o
        → IsLeastFree is_free first (suc count) (cond b (Some (lesser first o)) o)
    at true None here rest = (omega arith, omega arith, here, λ k low below. absurd (omega arith))
    at true (Some n) here rest =
        let same : min first n ≡ first = omega (arith, rest.0) in
        rw same (omega arith, omega arith, here, λ k low below. absurd (omega arith))
    at false None here rest = λ k low below. from is_free first k here low (λ past. rest k past (omega arith))
    at false (Some n) here rest = (
      omega (arith, rest.0),
      omega (arith, rest.1),
      rest.2,
      λ k low below. from is_free first k here low (λ past. rest.3 k past below),
    )

    by : (b : Bool) (o : Option ℕ) → is_free first ≡ b → IsLeastFree is_free (first + 1) count (least ns)
        → IsLeastFree is_free first (suc count) (least (cond b (first ∷ ns) ns))
    by b o here rest = subst (IsLeastFree is_free first (suc count)) (sym (taken b)) (at b (least ns) here rest)

least_is : (is_free : ℕ → Bool) (first count : ℕ)
    → IsLeastFree is_free first count (least (filter is_free (range_with_len first count)))
least_is is_free first zero = λ k low below. absurd (omega arith)
least_is is_free first (suc count) = step is_free first count (is_free first)
    (filter is_free (range_with_len (first + 1) count)) refl (least_is is_free (first + 1) count)

clash : (b : Bool) {P : Type 0} → b ≡ true → b ≡ false → P
clash b t f = absurd (false≢true (sym f ∙ t))

same : (is_free : ℕ → Bool) (first count m n : ℕ) → IsLeastFree is_free first count (Some m)
    → IsLeastFree is_free first count (Some n) → m ≡ n
same is_free first count m n a b = by (nat_cmp m n) refl
  where
    by : (o : Ordering) → o ≡ nat_cmp m n → m ≡ n
    by Less e = clash (is_free m) a.2 (b.3 m a.0 (ranked m n Less e))
    by Equal e = ranked m n Equal e
    by Greater e = clash (is_free n) b.2 (a.3 n b.0 (ranked m n Greater e))

one : (is_free : ℕ → Bool) (first count : ℕ) (o p : Option ℕ) → IsLeastFree is_free first count o
    → IsLeastFree is_free first count p → o ≡ p
one is_free first count None None a b = refl
one is_free first count None (Some n) a b = clash (is_free n) b.2 (a n b.0 b.1)
one is_free first count (Some m) None a b = clash (is_free m) a.2 (b m a.0 a.1)
one is_free first count (Some m) (Some n) a b = ap Some (same is_free first count m n a b)

pub is_least_free : (is_free : ℕ → Bool) (first count : ℕ) (o : Option ℕ) → IsLeastFree is_free first count o
    → o ≡ least_free is_free first count
unfolding least_free
is_least_free is_free first count o h = one is_free first count o _ h (least_is is_free first count)

pub least_free_is : (is_free : ℕ → Bool) (first count : ℕ) (o : Option ℕ) → o ≡ least_free is_free first count
    → IsLeastFree is_free first count o
unfolding least_free
least_free_is is_free first count o e = subst (IsLeastFree is_free first count) (sym e) (least_is is_free first count)

pub least_free_both : (is_free : ℕ → Bool) (first count : ℕ) (o : Option ℕ) → (o ≡ least_free is_free first count)
    ↔ IsLeastFree is_free first count o
least_free_both is_free first count o = (least_free_is is_free first count o, is_least_free is_free first count o)

-- one more number that isn't free
pub none_more : (is_free : ℕ → Bool) (first n : ℕ) → ((k : ℕ) → first ≤ k → k < n → is_free k ≡ false)
    → is_free n ≡ false → (k : ℕ) → first ≤ k → k < n + 1 → is_free k ≡ false
none_more is_free first n so_far here k low below = by (cases_lt k n)
  where
    by : (k < n) ⊎ (n ≤ k) → is_free k ≡ false
    by (inl before) = so_far k low before
    by (inr past) = let same : n ≡ k = omega arith in subst (λ x. is_free x ≡ false) same here
