-- The table of where the entries of a device stand.
use Rattle.std.proofs.Common.{◌≡◌, ℕ, zero, suc, ◌+◌, ◌<◌, ◌≤◌, Bool, true, false, List, [], ◌∷◌, ◌++◌, length, map}
use Rattle.std.proofs.Common.{take, get_or, Option, None, Some, Err, refl, sym, ap, ◌∙◌, arith, ltb-false, ltb-true}
use Rattle.std.specs.Prelude.{nat_lt, option_map, option_and_then}
use Rattle.std.specs.Cmp.{tied_itself}
use Rattle.std.specs.declared.cmp.Ordering.{Ordering}
use Rattle.std.specs.declared.cmp.Ordering.TheVariants.{Less, Equal, Greater}
use Rattle.std.specs.Ordering.{ordering_index}
use Rattle.std.specs.List.{AllByRecursion, Contains, slice_get}
use Rattle.std.specs.List.Sorted.{IsBinarySearchResult, IsPartitionPoint, IsStrictlySortedBy}
use Rattle.std.specs.Option.{option_or}
use Rattle.std.proofs.lemmas.List.{map-append, take_more}
use Rattle.std.proofs.lemmas.Option.{slice_get-get_or, slice_get-map}
use Rattle.co_dict.proofs.PlaceLemmas.{places_exact, places_total}
use Rattle.co_dict.specs.Places.{place_cmp}
use Rattle.ini_text.specs.Content.{Section}
use Rattle.eds_places.specs.declared.table.Stand.{Stand}
use Rattle.eds_places.specs.Origins.{Origin, own, sub_section, from_object, from_compact, origin_of}
use Rattle.eds_places.specs.Places.{pairs_of}
use Rattle.eds_places.specs.Table.{AreStands, standing}
use Rattle.eds_places.proofs.GivenLemmas.{rules_give}
use Rattle.eds_places.proofs.PlaceLemmas.{pairs_sorted}

-- ---- a place by the rules

-- an entry for which a section is named stands there
pub own_stands : (ss : List Section) (index sub position : ℕ)
    → Some (slice_get ss position) ≡ option_map Some (sub_section ss index sub)
    → option_map own (slice_get ss position) ≡ origin_of ss index sub
unfolding origin_of
own_stands ss index sub position = by (slice_get ss position) (sub_section ss index sub)
  where
    by : (o p : Option Section) → Some o ≡ option_map Some p
        → option_map own o ≡ option_or (option_map own p)
        (option_or (from_object ss index sub) (from_compact ss index sub))
    by o None h = cc
    by None (Some s) h = cc
    by (Some t) (Some s) h = cc

-- any other stands where its object says
pub other_stands : (ss : List Section) (index sub : ℕ)
    → (let none : Option (Option Section) = None in none ≡ option_map Some (sub_section ss index sub))
    → option_or (from_object ss index sub) (from_compact ss index sub) ≡ origin_of ss index sub
unfolding origin_of
other_stands ss index sub = by (sub_section ss index sub)
  where
    by : (p : Option Section) → (let none : Option (Option Section) = None in none ≡ option_map Some p)
        → option_or (from_object ss index sub) (from_compact ss index sub) ≡ option_or (option_map own p)
        (option_or (from_object ss index sub) (from_compact ss index sub))
    by None h = refl
    by (Some s) h = cc

-- ---- a place in the table

pub no_stands : (ss : List Section) (stands : List (Option Stand)) → stands ≡ [] → AreStands ss [] stands
unfolding AreStands
no_stands ss stands h = ap (map (standing ss)) h

-- one more place is in the table
pub one_more_stands : (ss : List Section) (places : List (ℕ × ℕ)) (i : ℕ) (old new : List (Option Stand))
    (stand : Option Stand) (d place : ℕ × ℕ) → i < length places → place ≡ get_or places i d
    → new ≡ old ++ stand ∷ [] → standing ss stand ≡ origin_of ss place.0 place.1 → AreStands ss (take i places) old
    → AreStands ss (take (i + 1) places) new
unfolding AreStands
one_more_stands ss places i old new stand d place lt is pushed here h =
    let f : Option Stand → Option Origin = standing ss in
    let g : ℕ × ℕ → Option Origin = λ p. origin_of ss p.0 p.1 in
    ap (map f) pushed
    ∙ map-append f old (stand ∷ [])
    ∙ (λ j. h j ++ here j ∷ [])
    ∙ sym (map-append g (take i places) (place ∷ []))
    ∙ ap (map g) (sym (take_more places i d lt ∙ ap (λ x. take i places ++ x ∷ []) (sym is)))

-- where an entry stands that is found at a position
pub stand_found : (ss : List Section) (places : List (ℕ × ℕ)) (stands : List (Option Stand)) (position index sub : ℕ)
    → let place : ℕ × ℕ = (index, sub) in AreStands ss places stands
    → position < length places → place_cmp (get_or places position place) place ≡ Equal
    → standing ss (option_and_then (λ s. s) (slice_get stands position)) ≡ origin_of ss index sub
unfolding AreStands
stand_found ss places stands position index sub h lt equal = by (slice_get stands position) (
    sym (slice_get-map (standing ss) stands position)
    ∙ ap (λ (os : List (Option Origin)). slice_get os position) h
    ∙ slice_get-map (λ (p : ℕ × ℕ). origin_of ss p.0 p.1) places position
    ∙ ap (option_map (λ (p : ℕ × ℕ). origin_of ss p.0 p.1))
    (slice_get-get_or places position (index, sub) lt
    ∙ ap Some (places_exact (get_or places position (index, sub)) (index, sub) equal))
    )
  where
    by : (o : Option (Option Stand)) → option_map (standing ss) o ≡ Some (origin_of ss index sub)
        → standing ss (option_and_then (λ s. s) o) ≡ origin_of ss index sub
    by None e = cc
    by (Some s) e = cc

-- where an entry stands whose place is known by its position
pub stand_there : (ss : List Section) (places : List (ℕ × ℕ)) (stands : List (Option Stand)) (position index sub : ℕ)
    → AreStands ss places stands → slice_get places position ≡ Some (index, sub)
    → standing ss (option_and_then (λ s. s) (slice_get stands position)) ≡ origin_of ss index sub
unfolding AreStands
stand_there ss places stands position index sub h is = by (slice_get stands position) (
    sym (slice_get-map (standing ss) stands position)
    ∙ ap (λ (os : List (Option Origin)). slice_get os position) h
    ∙ slice_get-map (λ (p : ℕ × ℕ). origin_of ss p.0 p.1) places position
    ∙ ap (option_map (λ (p : ℕ × ℕ). origin_of ss p.0 p.1)) is
    )
  where
    by : (o : Option (Option Stand)) → option_map (standing ss) o ≡ Some (origin_of ss index sub)
        → standing ss (option_and_then (λ s. s) o) ≡ origin_of ss index sub
    by None e = cc
    by (Some s) e = cc

-- a place that a search finds is there
pub place_found : (places : List (ℕ × ℕ)) (position index sub : ℕ) → let place : ℕ × ℕ = (index, sub)
    in position < length places → place_cmp (get_or places position place) place ≡ Equal
    → slice_get places position ≡ Some (index, sub)
place_found places position index sub lt equal =
    slice_get-get_or places position (index, sub) lt
    ∙ ap Some (places_exact (get_or places position (index, sub)) (index, sub) equal)

below_at : (x : ℕ × ℕ) (ys : List (ℕ × ℕ)) (j : ℕ) (d : ℕ × ℕ) → AllByRecursion (λ y. place_cmp x y ≡ Less) ys
    → j < length ys → place_cmp x (get_or ys j d) ≡ Less
below_at x [] j d h lt = absurd (omega arith)
below_at x (y ∷ ys) zero d h lt = h.0
below_at x (y ∷ ys) (suc j) d h lt = below_at x ys j d h.1 (omega arith)

-- of two places the lower compares lower
lower : (a b k : ℕ × ℕ) → place_cmp a b ≡ Less → ordering_index (place_cmp a k) ≤ ordering_index (place_cmp b k)
lower a b k h = by (place_cmp b k) refl
  where
    less : (o : Ordering) (n : ℕ) → o ≡ Less → ordering_index o ≤ n
    less Less n e = omega arith
    less Equal n e = cc
    less Greater n e = cc

    most : (o : Ordering) → ordering_index o ≤ 2
    most Less = omega arith
    most Equal = omega arith
    most Greater = omega arith

    by : (o : Ordering) → place_cmp b k ≡ o → ordering_index (place_cmp a k) ≤ ordering_index o
    by Less e = less (place_cmp a k) 0 (places_total.trans a b k h e)
    by Equal e = less (place_cmp a k) 1 (ap (place_cmp a) (sym (places_exact b k e)) ∙ h)
    by Greater e = most (place_cmp a k)

rises : (k : ℕ × ℕ) (ps : List (ℕ × ℕ)) → IsStrictlySortedBy place_cmp ps → (i j : ℕ) (d : ℕ × ℕ) → i ≤ j
    → j < length ps → ordering_index (place_cmp (get_or ps i d) k) ≤ ordering_index (place_cmp (get_or ps j d) k)
unfolding IsStrictlySortedBy
rises k [] h i j d le lt = absurd (omega arith)
rises k (p ∷ ps) h zero zero d le lt = omega arith
rises k (p ∷ ps) h zero (suc j) d le lt = lower p (get_or ps j d) k (below_at p ps j d h.0 (omega arith))
rises k (p ∷ ps) h (suc i) zero d le lt = absurd (omega arith)
rises k (p ∷ ps) h (suc i) (suc j) d le lt = rises k ps h.1 i j d (omega arith) (omega arith)

-- a place that a search doesn't find isn't there
not_there : (k : ℕ × ℕ) (ps : List (ℕ × ℕ)) (at : ℕ) → IsStrictlySortedBy place_cmp ps
    → IsBinarySearchResult (λ y. place_cmp y k) ps (Err at) → Contains ps k → ⊥
not_there k ps at sorted says c = by (nat_lt c.0 at) refl
  where
    around : IsPartitionPoint (λ y. place_cmp y k ≡ Less) (λ y. place_cmp y k ≡ Greater) ps at
    around = says (rises k ps sorted)

    same : (o : Ordering) → place_cmp (get_or ps c.0 k) k ≡ o → Equal ≡ o
    same o e = sym (tied_itself places_total k) ∙ ap (λ p. place_cmp p k) (sym c.2) ∙ e

    by : (t : Bool) → nat_lt c.0 at ≡ t → ⊥
    by true e = let no = same Less (around.0 c.0 k (omega arith) (ltb-true c.0 at e)) in cc
    by false e = let no = same Greater (around.1 c.0 k (ltb-false c.0 at e) c.1) in cc

-- and nothing stands there
pub nothing_stands : (ss : List Section) (index sub at : ℕ) → let place : ℕ × ℕ = (index, sub)
    in IsBinarySearchResult (λ y. place_cmp y place) (pairs_of ss) (Err at) → origin_of ss index sub ≡ None
nothing_stands ss index sub at says = by (origin_of ss index sub) refl
  where
    by : (o : Option Origin) → origin_of ss index sub ≡ o → o ≡ None
    by None e = refl
    by (Some src) e = absurd (not_there (index, sub)
        (pairs_of ss) at (pairs_sorted ss) says (rules_give ss index sub src e))
