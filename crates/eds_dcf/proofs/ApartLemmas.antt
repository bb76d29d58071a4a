-- Lists in which no two elements are equal by a test, and pairs whose keys are apart.
use Rattle.std.proofs.Common.{◌≡◌, ℕ, Bool, true, false, cond, List, [], ◌∷◌, ◌++◌, filter, map, refl, ◌∙◌}
use Rattle.std.specs.List.{AllByRecursion}
use Rattle.ini_text.proofs.NameLemmas.{same_sym}
use Rattle.ini_text.specs.Change.{put_value}
use Rattle.ini_text.specs.Content.{Pair, same, same_key}
use Rattle.ini_text.specs.Printable.{AreApart, IsKey, IsPrintablePair, IsValue}
use Rattle.eds_dcf.proofs.LineLemmas.{IsOpen, open_same, pair_again, set_pair}

module _ {X : Type 0} (P : X → Type 0) where
  pub all_append : (xs ys : List X) → AllByRecursion P xs → AllByRecursion P ys → AllByRecursion P (xs ++ ys)
  all_append [] ys h g = g
  all_append (x ∷ xs) ys h g = (h.0, all_append xs ys h.1 g)

  pub all_filter : (p : X → Bool) (xs : List X) → AllByRecursion P xs → AllByRecursion P (filter p xs)
  all_filter p [] h = tt
  all_filter p (x ∷ xs) h =
      elim (p x) as (λ t. AllByRecursion P (cond t (x ∷ filter p xs) (filter p xs)))
      [ true ↦ (h.0, all_filter p xs h.1) | false ↦ all_filter p xs h.1 ]

  pub all_weaker : (Q : X → Type 0) → ((x : X) → P x → Q x) → (xs : List X) → AllByRecursion P xs → AllByRecursion Q xs
  all_weaker Q f [] h = tt
  all_weaker Q f (x ∷ xs) h = (f x h.0, all_weaker Q f xs h.1)

-- what a filter keeps passes
pub all_pass : {X : Type 0} (p : X → Bool) (xs : List X) → AllByRecursion (λ x. p x ≡ true) (filter p xs)
all_pass p [] = tt
all_pass {X} p (x ∷ xs) = by (p x) refl (all_pass p xs)
  where
    by : (t : Bool) → p x ≡ t → AllByRecursion (λ x. p x ≡ true) (filter p xs)
        → AllByRecursion (λ x. p x ≡ true) (cond t (x ∷ filter p xs) (filter p xs))
    by true e rest = (e, rest)
    by false e rest = rest

module _ {X : Type 0} (e : X → X → Bool) where
  pub apart_filter : (p : X → Bool) (xs : List X) → AreApart e xs → AreApart e (filter p xs)
  apart_filter p [] h = tt
  apart_filter p (x ∷ xs) h =
      elim (p x) as (λ t. AreApart e (cond t (x ∷ filter p xs) (filter p xs)))
      [ true ↦ (all_filter (λ y. e x y ≡ false) p xs h.0, apart_filter p xs h.1) | false ↦ apart_filter p xs h.1 ]

  pub apart_append : (xs ys : List X) → AreApart e xs → AreApart e ys
      → AllByRecursion (λ x. AllByRecursion (λ y. e x y ≡ false) ys) xs → AreApart e (xs ++ ys)
  apart_append [] ys h g b = g
  apart_append (x ∷ xs) ys h g b = (all_append (λ y. e x y ≡ false) xs ys h.0 b.0, apart_append xs ys h.1 g b.1)

  all_map : (f : X → X) → ((x y : X) → e (f x) (f y) ≡ e x y) → (x : X) (ys : List X)
      → AllByRecursion (λ y. e x y ≡ false) ys → AllByRecursion (λ y. e (f x) y ≡ false) (map f ys)
  all_map f same_so x [] h = tt
  all_map f same_so x (y ∷ ys) h = (same_so x y ∙ h.0, all_map f same_so x ys h.1)

  pub apart_map : (f : X → X) → ((x y : X) → e (f x) (f y) ≡ e x y) → (xs : List X) → AreApart e xs
      → AreApart e (map f xs)
  apart_map f same_so [] h = tt
  apart_map f same_so (x ∷ xs) h = (all_map f same_so x xs h.0, apart_map f same_so xs h.1)

-- ---- a value that is set

module _ (key value : List ℕ) (k : IsKey key) (o : IsOpen key) (v : IsValue value) where
  pub put_printable : (ps : List Pair) → AllByRecursion IsPrintablePair ps
      → AllByRecursion IsPrintablePair (put_value ps key value)
  put_printable [] h = (set_pair key value k o v, tt)
  put_printable (p ∷ ps) h = by (same key p.key) refl (put_printable ps h.1)
    where
      by : (t : Bool) → same key p.key ≡ t → AllByRecursion IsPrintablePair (put_value ps key value)
          → AllByRecursion IsPrintablePair (cond t (record { key = p.key; value = value } ∷ ps)
          (p ∷ put_value ps key value))
      by true e rest = (pair_again p value h.0 (open_same key p.key e o) v, h.1)
      by false e rest = (h.0, rest)

module _ (key value : List ℕ) where
  put_aside_of : (q : Pair) (ps : List Pair) → same q.key key ≡ false → AllByRecursion (λ p. same_key q p ≡ false) ps
      → AllByRecursion (λ p. same_key q p ≡ false) (put_value ps key value)
  put_aside_of q [] other h = (other, tt)
  put_aside_of q (p ∷ ps) other h = by (same key p.key) (put_aside_of q ps other h.1)
    where
      by : (t : Bool) → AllByRecursion (λ p. same_key q p ≡ false) (put_value ps key value)
          → AllByRecursion (λ p. same_key q p ≡ false)
          (cond t (record { key = p.key; value = value } ∷ ps) (p ∷ put_value ps key value))
      by true rest = (h.0, h.1)
      by false rest = (h.0, rest)

  pub put_apart : (ps : List Pair) → AreApart same_key ps → AreApart same_key (put_value ps key value)
  put_apart [] h = (tt, tt)
  put_apart (p ∷ ps) h = by (same key p.key) refl (put_apart ps h.1)
    where
      by : (t : Bool) → same key p.key ≡ t → AreApart same_key (put_value ps key value)
          → AreApart same_key (cond t (record { key = p.key; value = value } ∷ ps) (p ∷ put_value ps key value))
      by true e rest = (h.0, h.1)
      by false e rest = (put_aside_of p ps (same_sym p.key key ∙ e) h.0, rest)
