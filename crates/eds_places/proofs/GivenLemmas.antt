-- The entries of a device are those that some section gives, and what a rule gives is one of them.
use Rattle.std.proofs.Common.{◌≡◌, ℕ, zero, suc, ◌<◌, Bool, true, false, ◌||◌, List, [], ◌∷◌, length, get_or, Some, ◌↔◌}
use Rattle.std.proofs.Common.{refl, sym, ap, ◌∙◌, arith}
use Rattle.std.specs.BTreeMap.{is_at}
use Rattle.std.specs.List.{Contains, list_any}
use Rattle.co_dict.specs.Places.{place_cmp}
use Rattle.ini_text.specs.Content.{Section}
use Rattle.eds_places.specs.Places.{places_given, pairs_of}
use Rattle.eds_places.specs.Origins.{Origin, origin_of}
use Rattle.eds_places.proofs.PlaceLemmas.{alike, has_place, has_itself, pairs_given, origin_has}

or_true : (a : Bool) → (a || true) ≡ true
or_true true = refl
or_true false = refl

contains_more : {X : Type 0} (x y : X) (xs : List X) → Contains xs x → Contains (y ∷ xs) x
contains_more x y xs h = (suc h.0, omega (arith, h.1), h.2)

any_contains : {X : Type 0} (test : X → Bool) (xs : List X) → list_any test xs ≡ true
    → (x : X) × (Contains xs x × (test x ≡ true))
any_contains test [] h = cc
any_contains {X} test (y ∷ ys) h = by (test y) refl h (any_contains test ys)
  where
    by : (t : Bool) → test y ≡ t → (t || list_any test ys) ≡ true
        → (list_any test ys ≡ true → (x : X) × (Contains ys x × (test x ≡ true)))
        → (x : X) × (Contains (y ∷ ys) x × (test x ≡ true))
    by true e g ih = let first : Contains (y ∷ ys) y = (0, omega arith, refl) in (y, (first, e))
    by false e g ih = let found = ih g in (found.0, (contains_more found.0 y ys found.1.0, found.1.1))

contains_any : {X : Type 0} (test : X → Bool) (xs : List X) (x : X) (k : ℕ) → k < length xs → get_or xs k x ≡ x
    → test x ≡ true → list_any test xs ≡ true
contains_any test [] x k lt is p = absurd (omega arith)
contains_any test (y ∷ ys) x zero lt is p = ap (λ z. test z || list_any test ys) is ∙ ap (λ b. b || list_any test ys) p
contains_any test (y ∷ ys) x (suc k) lt is p = ap (λ b. test y || b) (contains_any test ys x k (omega arith) is p)
    ∙ or_true (test y)

-- a list has a place where it contains it
pub has_contains : (q : ℕ × ℕ) (ps : List (ℕ × ℕ)) → has_place q ps ≡ true → Contains ps q
has_contains q ps h =
    let found = any_contains (is_at (place_cmp q)) ps h in
    let same : found.0 ≡ q = sym (alike q found.0 found.1.1) in
    rw same at found.1.0

pub contains_has : (q : ℕ × ℕ) (ps : List (ℕ × ℕ)) → Contains ps q → has_place q ps ≡ true
contains_has q ps h = contains_any (is_at (place_cmp q)) ps q h.0 h.1 h.2 (has_itself q)

-- the entries are those that some section gives
pub given_by_some : (ss : List Section) (place : ℕ × ℕ)
    → Contains (pairs_of ss) place ↔ ((s : Section) × (Contains ss s × Contains (places_given s) place))
given_by_some ss place = (there, back)
  where
    there : Contains (pairs_of ss) place → (s : Section) × (Contains ss s × Contains (places_given s) place)
    there h =
        let found = any_contains (λ s. has_place place (places_given s)) ss (sym (pairs_given ss place)
        ∙ contains_has place (pairs_of ss) h) in
        (found.0, (found.1.0, has_contains place (places_given found.0) found.1.1))

    back : ((s : Section) × (Contains ss s × Contains (places_given s) place)) → Contains (pairs_of ss) place
    back h =
        let has = contains_has place (places_given h.0) h.1.1 in
        has_contains place (pairs_of ss) (pairs_given ss place
        ∙ contains_any (λ s. has_place place (places_given s)) ss h.0 h.1.0.0 h.1.0.1 h.1.0.2 has)

-- what a rule gives is an entry
pub rules_give : (ss : List Section) (index sub : ℕ) (src : Origin) → origin_of ss index sub ≡ Some src
    → Contains (pairs_of ss) (index, sub)
rules_give ss index sub src h = has_contains (index, sub) (pairs_of ss) (origin_has ss index sub src h)
