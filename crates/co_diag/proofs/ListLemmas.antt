-- Elements of lists.
use Rattle.std.proofs.Common.{◌≡◌, ◌⊎◌, inl, inr, ◌+◌, ◌≤◌, Bool, true, false, cond, List, [], ◌∷◌, ◌++◌, length, map}
use Rattle.std.proofs.Common.{filter, filter_map, Contains, Option, Some, None, refl, sym, ap, subst, ◌∙◌, arith}
use Rattle.std.proofs.Common.{length-append}
use Rattle.std.specs.List.{cons_option, flat_map}
use Rattle.std.specs.Option.{option_map_or}
use Rattle.std.proofs.lemmas.List.Elements.{Contains-append_cases, Contains-append_left, Contains-append_right}
use Rattle.std.proofs.lemmas.List.Elements.{filter-append}
use Rattle.diag_lines.proofs.ListLemmas.{Contains-nil, Contains-first, Contains-later, Contains-cases}

module _ {X Y : Type 0} (f : X → Y) where
  pub Contains-map : (xs : List X) (x : X) → Contains xs x → Contains (map f xs) (f x)
  Contains-map [] x c = absurd (Contains-nil x c)
  Contains-map (z ∷ xs) x c = by (Contains-cases z xs x c) (Contains-map xs x)
    where
      by : (z ≡ x) ⊎ Contains xs x → (Contains xs x → Contains (map f xs) (f x)) → Contains (f z ∷ map f xs) (f x)
      by (inl e) rest = subst (λ w. Contains (f z ∷ map f xs) (f w)) e (Contains-first (f z) (map f xs))
      by (inr d) rest = Contains-later (f z) (map f xs) (f x) (rest d)

  pub from_map : (xs : List X) (y : Y) → Contains (map f xs) y → (x : X) × Contains xs x × (f x ≡ y)
  from_map [] y c = absurd (Contains-nil y c)
  from_map (z ∷ xs) y c = by (Contains-cases (f z) (map f xs) y c) (from_map xs y)
    where
      further : (x : X) × Contains xs x × (f x ≡ y) → (x : X) × Contains (z ∷ xs) x × (f x ≡ y)
      further (x, there, e) = (x, Contains-later z xs x there, e)

      by : (f z ≡ y) ⊎ Contains (map f xs) y → (Contains (map f xs) y → (x : X) × Contains xs x × (f x ≡ y))
          → (x : X) × Contains (z ∷ xs) x × (f x ≡ y)
      by (inl e) rest = (z, Contains-first z xs, e)
      by (inr d) rest = further (rest d)

module _ {X Y : Type 0} (f : X → List Y) where
  pub Contains-flat_map : (xs : List X) (x : X) (y : Y) → Contains xs x → Contains (f x) y → Contains (flat_map f xs) y
  Contains-flat_map [] x y c d = absurd (Contains-nil x c)
  Contains-flat_map (z ∷ xs) x y c d = by (Contains-cases z xs x c) (λ e. Contains-flat_map xs x y e d)
    where
      by : (z ≡ x) ⊎ Contains xs x → (Contains xs x → Contains (flat_map f xs) y) → Contains (f z ++ flat_map f xs) y
      by (inl e) rest = Contains-append_left (f z) (flat_map f xs) y (subst (λ w. Contains (f w) y) (sym e) d)
      by (inr e) rest = Contains-append_right (f z) (flat_map f xs) y (rest e)

  pub from_flat_map : (xs : List X) (y : Y) → Contains (flat_map f xs) y → (x : X) × Contains xs x × Contains (f x) y
  from_flat_map [] y c = absurd (Contains-nil y c)
  from_flat_map (z ∷ xs) y c = by (Contains-append_cases (f z) (flat_map f xs) y c) (from_flat_map xs y)
    where
      further : (x : X) × Contains xs x × Contains (f x) y → (x : X) × Contains (z ∷ xs) x × Contains (f x) y
      further (x, there, e) = (x, Contains-later z xs x there, e)

      by : Contains (f z) y ⊎ Contains (flat_map f xs) y
          → (Contains (flat_map f xs) y → (x : X) × Contains xs x × Contains (f x) y)
          → (x : X) × Contains (z ∷ xs) x × Contains (f x) y
      by (inl d) rest = (z, Contains-first z xs, d)
      by (inr d) rest = further (rest d)

-- ---- how many pass a test

-- as many as there are where each list has as many
pub length-filter_flat_map : {X Y Z : Type 0} (f : X → List Y) (g : X → List Z) (test : Z → Bool)
    → ((x : X) → length (f x) ≡ length (filter test (g x)))
    → (xs : List X) → length (flat_map f xs) ≡ length (filter test (flat_map g xs))
length-filter_flat_map f g test same [] = refl
length-filter_flat_map f g test same (x ∷ xs) =
    let here : length (f x) ≡ length (filter test (g x)) = same x in
    let rest : length (flat_map f xs) ≡ length (filter test (flat_map g xs)) = length-filter_flat_map f g test same xs
    in
    let left : length (f x ++ flat_map f xs) ≡ length (f x) + length (flat_map f xs) = length-append (f x)
    (flat_map f xs) in
    let right : length (filter test (g x ++ flat_map g xs))
    ≡ length (filter test (g x)) + length (filter test (flat_map g xs)) =
    ap length (filter-append test (g x) (flat_map g xs))
    ∙ length-append (filter test (g x)) (filter test (flat_map g xs)) in
    omega arith

-- what is given passes exactly where the place passes a test
pub length-filter_given : {X Y : Type 0} (p : X → Bool) (h : X → Option Y) (test : Y → Bool)
    → ((x : X) → p x ≡ option_map_or test (h x) false)
    → (xs : List X) → length (filter p xs) ≡ length (filter test (filter_map h xs))
length-filter_given p h test same [] = refl
length-filter_given {X} {Y} p h test same (x ∷ xs) = ap (λ b. length (cond b (x ∷ filter p xs) (filter p xs))) (same x)
    ∙ by (h x) (length-filter_given p h test same xs)
  where
    here : (y : Y) (b : Bool) → length (filter p xs) ≡ length (filter test (filter_map h xs))
        → length (cond b (x ∷ filter p xs) (filter p xs))
        ≡ length (cond b (y ∷ filter test (filter_map h xs)) (filter test (filter_map h xs)))
    here y true rest = omega arith
    here y false rest = rest

    by : (o : Option Y) → length (filter p xs) ≡ length (filter test (filter_map h xs))
        → length (cond (option_map_or test o false) (x ∷ filter p xs) (filter p xs))
        ≡ length (filter test (cons_option o (filter_map h xs)))
    by None rest = rest
    by (Some y) rest = here y (test y) rest

-- one of some that pass
pub member_of_some : {X : Type 0} (p : X → Bool) (xs : List X) → 1 ≤ length (filter p xs)
    → (x : X) × Contains xs x × (p x ≡ true)
member_of_some p [] some = absurd (omega arith)
member_of_some {X} p (x ∷ xs) some = by (p x) refl some (member_of_some p xs)
  where
    further : (y : X) × Contains xs y × (p y ≡ true) → (y : X) × Contains (x ∷ xs) y × (p y ≡ true)
    further (y, c, t) = (y, Contains-later x xs y c, t)

    by : (b : Bool) → p x ≡ b → 1 ≤ length (cond b (x ∷ filter p xs) (filter p xs))
        → (1 ≤ length (filter p xs) → (y : X) × Contains xs y × (p y ≡ true))
        → (y : X) × Contains (x ∷ xs) y × (p y ≡ true)
    by true t some rest = (x, Contains-first x xs, t)
    by false t some rest = further (rest some)
