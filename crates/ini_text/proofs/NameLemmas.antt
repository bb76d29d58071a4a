-- Names without case, and lists in which none comes twice.
use Rattle.std.proofs.Common.{◌≡◌, ℕ, Bool, true, false, cond, not, ◌||◌, List, [], ◌∷◌, ◌++◌, filter, refl, ap, ◌∙◌}
use Rattle.std.proofs.Common.{sym}
use Rattle.std.specs.List.{list_any, AllByRecursion}
use Rattle.std.specs.Str.{bytes_eq}
use Rattle.std.proofs.lemmas.Bool.{false≢true}
use Rattle.std.proofs.lemmas.Bool.Decides.{same_from_decides}
use Rattle.std.proofs.lemmas.Slice.Eq.{bytes_eq-Decides}
use Rattle.ini_text.specs.Content.{lower_case, same, firsts}
use Rattle.ini_text.specs.Printable.{AreApart}

-- equal names have one folded form
pub same_folded : (a b : List ℕ) → same a b ≡ true → lower_case a ≡ lower_case b
same_folded a b h = (bytes_eq-Decides (lower_case a) (lower_case b)).0 h

-- and are equal both ways
pub same_sym : (a b : List ℕ) → same a b ≡ same b a
same_sym a b = same_from_decides (same a b) (same b a) (bytes_eq-Decides (lower_case a) (lower_case b))
    (λ h. sym ((bytes_eq-Decides (lower_case b) (lower_case a)).0 h), λ e. (bytes_eq-Decides (lower_case b) (lower_case a)).1 (sym e))

-- equal names are equal to the same names
pub same_as : (a b c : List ℕ) → same a b ≡ true → same a c ≡ same b c
same_as a b c h = ap (λ f. bytes_eq f (lower_case c)) (same_folded a b h)

pub record IsSameness {X : Type 0} (e : X → X → Bool) : Type 0 where
  pub flips : (a b : X) → e a b ≡ e b a
  pub joins : (a b c : X) → e a b ≡ true → e a c ≡ e b c

pub append_nil : {X : Type 0} (xs : List X) → xs ++ [] ≡ xs
append_nil [] = refl
append_nil (x ∷ xs) = ap (λ ys. x ∷ ys) (append_nil xs)

module _ {X : Type 0} (e : X → X → Bool) where
  pub list_any-push : (p : X → Bool) (xs : List X) (x : X) → list_any p (xs ++ x ∷ []) ≡ (list_any p xs || p x)
  list_any-push p [] x = elim (p x) as (λ t. (t || false) ≡ t) [ true ↦ refl | false ↦ refl ]
  list_any-push p (y ∷ xs) x = elim (p y) as (λ t. (t || list_any p (xs ++ x ∷ []))
      ≡ ((t || list_any p xs) || p x)) [ true ↦ refl | false ↦ list_any-push p xs x ]

  filter-push : (p : X → Bool) (xs : List X) (x : X) → filter p (xs ++ x ∷ []) ≡ filter p xs ++ cond (p x) (x ∷ []) []
  filter-push p [] x = elim (p x) as (λ t. cond t (x ∷ []) [] ≡ cond t (x ∷ []) []) [ true ↦ refl | false ↦ refl ]
  filter-push p (y ∷ xs) x = elim (p y) as (λ t. cond t (y ∷ filter p (xs ++ x ∷ [])) (filter p (xs ++ x ∷ []))
      ≡ cond t (y ∷ filter p xs) (filter p xs) ++ cond (p x) (x ∷ []) []) [
        | true ↦ ap (λ ys. y ∷ ys)
            (filter-push p xs x)
        | false ↦ filter-push p xs x
      ]

  -- one more element comes last, where no earlier one equals it
  pub firsts-push : (xs : List X) (x : X) → firsts e (xs ++ x ∷ []) ≡ cond (list_any (λ y. e y x) xs) (firsts e xs)
      (firsts e xs ++ x ∷ [])
  firsts-push [] x = refl
  firsts-push (y ∷ xs) x =
      ap (λ ys. y ∷ filter (λ z. not (e y z)) ys) (firsts-push xs x)
      ∙ by (e y x) (list_any (λ z. e z x) xs) refl
    where
      by : (t u : Bool) → e y x ≡ t → y ∷ filter (λ z. not (e y z)) (cond u (firsts e xs) (firsts e xs ++ x ∷ []))
          ≡ cond (t || u) (y ∷ filter (λ z. not (e y z)) (firsts e xs))
          ((y ∷ filter (λ z. not (e y z)) (firsts e xs)) ++ x ∷ [])
      by true true h = refl
      by false true h = refl
      by true false h = ap (λ ys. y ∷ ys) (filter-push (λ z. not (e y z)) (firsts e xs) x ∙ rw h (append_nil _))
      by false false h = ap (λ ys. y ∷ ys) (filter-push (λ z. not (e y z)) (firsts e xs) x ∙ rw h refl)

  module _ (laws : IsSameness e) where
    -- what isn't equal to y is found as well without those that are
    any-filter : (q y : X) (xs : List X) → e q y ≡ false
        → list_any (e q) (filter (λ z. not (e y z)) xs) ≡ list_any (e q) xs
    any-filter q y [] h = refl
    any-filter q y (x ∷ xs) h = by (e y x) (e q x) refl refl (any-filter q y xs h)
      where
        by : (t u : Bool) → e y x ≡ t → e q x ≡ u → list_any (e q) (filter (λ z. not (e y z)) xs) ≡ list_any (e q) xs
            → list_any (e q) (cond (not t) (x ∷ filter (λ z. not (e y z)) xs) (filter (λ z. not (e y z)) xs))
            ≡ (u || list_any (e q) xs)
        by true true g k ih = absurd (false≢true (sym h ∙ laws.flips q y ∙ laws.joins y x q g ∙ laws.flips x q ∙ k))
        by true false g k ih = ih
        by false true g k ih = ap (λ b. b || list_any (e q) (filter (λ z. not (e y z)) xs)) k
        by false false g k ih = ap (λ b. b || list_any (e q) (filter (λ z. not (e y z)) xs)) k ∙ ih

    -- the first ones have what all have
    pub any-firsts : (q : X) (xs : List X) → list_any (e q) (firsts e xs) ≡ list_any (e q) xs
    any-firsts q [] = refl
    any-firsts q (x ∷ xs) = by (e q x) refl (any-firsts q xs)
      where
        by : (t : Bool) → e q x ≡ t → list_any (e q) (firsts e xs) ≡ list_any (e q) xs
            → (t || list_any (e q) (filter (λ z. not (e x z)) (firsts e xs))) ≡ (t || list_any (e q) xs)
        by true h ih = refl
        by false h ih = any-filter q x (firsts e xs) h ∙ ih

module _ {X : Type 0} (e : X → X → Bool) where
  pub all_filtered : (P : X → Type 0) (p : X → Bool) (xs : List X) → AllByRecursion P xs
      → AllByRecursion P (filter p xs)
  all_filtered P p [] h = tt
  all_filtered P p (x ∷ xs) h =
      elim (p x) as (λ t. AllByRecursion P (cond t (x ∷ filter p xs) (filter p xs)))
      [ true ↦ (h.0, all_filtered P p xs h.1) | false ↦ all_filtered P p xs h.1 ]

  apart_filtered : (p : X → Bool) (xs : List X) → AreApart e xs → AreApart e (filter p xs)
  apart_filtered p [] h = tt
  apart_filtered p (x ∷ xs) h =
      elim (p x) as (λ t. AreApart e (cond t (x ∷ filter p xs) (filter p xs)))
      [ true ↦ (all_filtered (λ y. e x y ≡ false) p xs h.0, apart_filtered p xs h.1) | false ↦ apart_filtered p xs h.1 ]

  none_left : (x : X) (xs : List X) → AllByRecursion (λ y. e x y ≡ false) (filter (λ z. not (e x z)) xs)
  none_left x [] = tt
  none_left x (y ∷ xs) = by (e x y) refl (none_left x xs)
    where
      by : (t : Bool) → e x y ≡ t → AllByRecursion (λ y. e x y ≡ false) (filter (λ z. not (e x z)) xs)
          → AllByRecursion (λ y. e x y ≡ false) (cond (not t) (y ∷ filter (λ z. not (e x z)) xs)
          (filter (λ z. not (e x z)) xs))
      by true h ih = ih
      by false h ih = (h, ih)

  pub firsts_apart : (xs : List X) → AreApart e (firsts e xs)
  firsts_apart [] = tt
  firsts_apart (x ∷ xs) = (none_left x (firsts e xs), apart_filtered (λ z. not (e x z)) (firsts e xs) (firsts_apart xs))

pub same_laws : IsSameness same
same_laws = record { flips = same_sym; joins = same_as }

pub same_refl : (a : List ℕ) → same a a ≡ true
same_refl a = (bytes_eq-Decides (lower_case a) (lower_case a)).1 refl
