-- The writes of a list of places, one for each where there is one.
use Rattle.std.proofs.Common.{◌≡◌, zero, suc, ◌≤◌, cond, List, [], ◌∷◌, length, map, filter, filter_map, All, Contains}
use Rattle.std.proofs.Common.{Option, Some, None, is_some, refl, sym, ap, subst, ◌∙◌, arith}
use Rattle.std.specs.List.{cons_option}
use Rattle.std.proofs.lemmas.List.Elements.{All-nil, All-cons}

-- ---- membership

Contains-tail : {X : Type 0} (y : X) (xs : List X) (x : X) → Contains xs x → Contains (y ∷ xs) x
Contains-tail y xs x (k, below, is) = (suc k, omega arith, is)

Contains-head : {X : Type 0} (x : X) (xs : List X) → Contains (x ∷ xs) x
Contains-head x xs = (zero, omega arith, refl)

module _ {X Y : Type 0} (h : X → Option Y) where
  pub Contains-filter_map : (xs : List X) (x : X) (y : Y) → Contains xs x → h x ≡ Some y → Contains (filter_map h xs) y
  Contains-filter_map [] x y (k, below, is) e = absurd (omega arith)
  Contains-filter_map (z ∷ xs) x y (zero, below, is) e = subst (λ o. Contains (cons_option o (filter_map h xs)) y)
      (sym (ap h is ∙ e)) (Contains-head y (filter_map h xs))
  Contains-filter_map (z ∷ xs) x y (suc k, below, is) e = by (h z) (Contains-filter_map xs x y (k, omega arith, is) e)
    where
      by : (o : Option Y) → Contains (filter_map h xs) y → Contains (cons_option o (filter_map h xs)) y
      by None c = c
      by (Some w) c = Contains-tail w (filter_map h xs) y c

  pub from_filter_map : (xs : List X) (y : Y) → Contains (filter_map h xs) y → (x : X) × Contains xs x × (h x ≡ Some y)
  from_filter_map [] y (k, below, is) = absurd (omega arith)
  from_filter_map (z ∷ xs) y c = by (h z) refl (from_filter_map xs y) c
    where
      further : (x : X) × Contains xs x × (h x ≡ Some y) → (x : X) × Contains (z ∷ xs) x × (h x ≡ Some y)
      further (x, there, e) = (x, Contains-tail z xs x there, e)

      by : (o : Option Y) → h z ≡ o → (Contains (filter_map h xs) y → (x : X) × Contains xs x × (h x ≡ Some y))
          → Contains (cons_option o (filter_map h xs)) y → (x : X) × Contains (z ∷ xs) x × (h x ≡ Some y)
      by None e rest c = further (rest c)
      by (Some w) e rest (zero, below, is) = (z, Contains-head z xs, e ∙ ap Some is)
      by (Some w) e rest (suc k, below, is) = further (rest (k, omega arith, is))

  pub length-filter_map : (xs : List X) → length (filter_map h xs) ≤ length xs
  length-filter_map [] = omega arith
  length-filter_map (x ∷ xs) = by (h x) (length-filter_map xs)
    where
      by : (o : Option Y) → length (filter_map h xs) ≤ length xs
          → length (cons_option o (filter_map h xs)) ≤ length (x ∷ xs)
      by None le = omega arith
      by (Some y) le = omega arith

  -- what names its place: the places of what is given are those at which something is given
  pub places_given : (place_of : Y → X) → ((x : X) (y : Y) → h x ≡ Some y → place_of y ≡ x) → (xs : List X)
      → map place_of (filter_map h xs) ≡ filter (λ x. is_some (h x)) xs
  places_given place_of names [] = refl
  places_given place_of names (x ∷ xs) = by (h x) refl (places_given place_of names xs)
    where
      by : (o : Option Y) → h x ≡ o → map place_of (filter_map h xs) ≡ filter (λ x. is_some (h x)) xs
          → map place_of (cons_option o (filter_map h xs)) ≡ cond (is_some o) (x ∷ filter (λ x. is_some (h x)) xs)
          (filter (λ x. is_some (h x)) xs)
      by None e same = same
      by (Some y) e same = rw (names x y e, same) refl

  pub All-filter_map : (P : Y → Type 0) → ((x : X) (y : Y) → h x ≡ Some y → P y) → (xs : List X)
      → All P (filter_map h xs)
  All-filter_map P holds [] = All-nil P
  All-filter_map P holds (x ∷ xs) = by (h x) refl (All-filter_map P holds xs)
    where
      by : (o : Option Y) → h x ≡ o → All P (filter_map h xs) → All P (cons_option o (filter_map h xs))
      by None e rest = rest
      by (Some y) e rest = All-cons P y (filter_map h xs) (holds x y e) rest
