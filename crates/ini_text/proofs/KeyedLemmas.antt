-- Tables whose keys are names without case.
use Rattle.std.proofs.Common.{◌≡◌, ℕ, ◌+◌, ltb, length, not, None, Bool, true, false, cond, ◌||◌, List, [], ◌∷◌, ◌++◌}
use Rattle.std.proofs.Common.{IsTrue, ◌↔◌, refl, ap, ◌∙◌, is_some, Some, eqb}
use Rattle.std.specs.List.{list_any, position, position_or_len}
use Rattle.std.specs.Global.{Vec}
use Rattle.std.specs.Cmp.Lexicographic.{pointwise}
use Rattle.std.specs.Map.{lookup, keys_of, values_of}
use Rattle.std.specs.Str.{bytes_eq}
use Rattle.std.proofs.lemmas.Bool.Decides.{same_from_decides}
use Rattle.std.proofs.lemmas.Slice.Eq.{bytes_eq-Decides}
use Rattle.indexmap.specs.IndexMap.{insert_entry}
use Rattle.ini_text.specs.Content.{lower_case, same}
use Rattle.ini_text.specs.Keyed.{AreFolded}

-- a test that says whether two names are equal without case
pub same_is : (r : Bool) (a b : List ℕ) → (IsTrue r ↔ (lower_case a ≡ lower_case b)) → r ≡ same a b
same_is r a b h = same_from_decides r (same a b) h (bytes_eq-Decides (lower_case a) (lower_case b))

pub or_false_left : (a b : Bool) → (a || b) ≡ false → a ≡ false
or_false_left true b h = h
or_false_left false b h = refl

pub or_false_right : (a b : Bool) → (a || b) ≡ false → b ≡ false
or_false_right true true h = h
or_false_right true false h = refl
or_false_right false b h = h

abbrev pub vec_eq : Vec ℕ → Vec ℕ → Bool
vec_eq a b = pointwise eqb a.items b.items

module _ {X : Type 0} (name : X → List ℕ) (q : List ℕ) (k : List ℕ) (is_folded : k ≡ lower_case q) where
  -- a folded name is a key where it is the name of a value
  pub has_folded : (es : List (Vec ℕ × X)) → AreFolded name es
      → is_some (lookup (λ v. bytes_eq k v.items) es) ≡ list_any (λ x. same q (name x)) (values_of es)
  has_folded [] h = refl
  has_folded (e ∷ es) h =
      let t : bytes_eq k e.0.items ≡ same q (name e.1) = rw (is_folded, h.0) refl in
      rw t (elim (same q (name e.1)) as (λ t. is_some (cond t (Some e.1) (lookup (λ v. bytes_eq k v.items) es))
      ≡ (t || list_any (λ x. same q (name x)) (values_of es))) [ true ↦ refl | false ↦ has_folded es h.1 ])

  -- and stands where the value stands
  pub position_folded : (es : List (Vec ℕ × X)) → AreFolded name es
      → position_or_len (λ v. bytes_eq k v.items) (keys_of es) ≡ position_or_len (λ x. same q (name x)) (values_of es)
  position_folded [] h = refl
  position_folded (e ∷ es) h =
      let t : bytes_eq k e.0.items ≡ same q (name e.1) = rw (is_folded, h.0) refl in
      λ i. cond (not (t i)) (1 + position_folded es h.1 i) 0

-- a position that was found is the first position
pub position_is : {X : Type 0} (p : X → Bool) (xs : List X) (i : ℕ) → position p xs ≡ Some i → position_or_len p xs ≡ i
position_is p xs i h = by (ltb (position_or_len p xs) (length xs)) h
  where
    by : (t : Bool) → cond t (Some (position_or_len p xs)) None ≡ Some i → position_or_len p xs ≡ i
    by true g = cc
    by false g = cc

module _ {X : Type 0} (name : X → List ℕ) (k : Vec ℕ) (x : X) (is_folded : k.items ≡ lower_case (name x)) where
  -- a value of a new name goes last, and the keys are still the names of their values
  pub inserted : (es : List (Vec ℕ × X)) → AreFolded name es
      → list_any (λ y. same (name x) (name y)) (values_of es) ≡ false
      → (AreFolded name (insert_entry vec_eq es k x))
      × (values_of (insert_entry vec_eq es k x) ≡ values_of es ++ x ∷ [])
  inserted [] h none = ((is_folded, tt), refl)
  inserted (e ∷ es) h none =
      let t : vec_eq k e.0 ≡ same (name x) (name e.1) = rw (is_folded, h.0) refl in
      let f : vec_eq k e.0 ≡ false = t ∙ or_false_left _ _ none in
      let rest = inserted es h.1 (or_false_right _ _ none) in
      rw f ((h.0, rest.0), ap (λ xs. e.1 ∷ xs) rest.1)
