-- Devices of which the same is known behind an instant as before.
use Rattle.std.proofs.Common.{◌≡◌, ◌↔◌, ℕ, ◌+◌, ◌<◌, ◌||◌, Bool, true, false, List, ◌∷◌, ◌++◌, get_or, length, map, drop}
use Rattle.std.proofs.Common.{refl, sym, ap, ◌∙◌, arith}
use Rattle.std.proofs.Math.ListN.{set}
use Rattle.std.proofs.lemmas.List.{append_cancel_left, map-append, drop-drop, get_or-drop, get_or-set_same, set-get_or}

-- ---- whether one of two things is another

neither : (a b : Bool) → a || b ≡ false → (a ≡ false) × (b ≡ false)
neither true b h = absurd cc
neither false b h = (refl, h)

both_not : (a b : Bool) → a ≡ false → b ≡ false → a || b ≡ false
both_not a b e f = cc

-- what was said before, and what is said of the first of those that follow and of the rest: what that says of the whole
pub either_changed : (before changed : Bool) (None Same Rest Whole : Type 0) → (changed ≡ false ↔ Same)
    → (None ↔ ((before || changed ≡ false) × Rest)) → ((Same × Rest) ↔ Whole) → (None ↔ ((before ≡ false) × Whole))
either_changed before changed None Same Rest Whole one later alike = (
  (λ none.
      let all = later.0 none in
      let both = neither before changed all.0 in
      (both.0, alike.0 (one.0 both.1, all.1))),
  (λ both.
      let same = alike.1 both.1 in
      later.1 (both_not before changed both.0 (one.1 same.0), same.1)),
)

module _ {A : Type 0} where
  -- what stood there is put back
  set_as_it_was : (xs : List A) (i : ℕ) (d x : A) → x ≡ get_or xs i d → set xs i x ≡ xs
  set_as_it_was xs i d x e = ap (λ (y : A). set xs i y) e ∙ set-get_or xs i d

  -- of lists that are alike from a place on: what stands there, and what stands behind it
  at_place : (was now : List A) (i : ℕ) (d : A) → drop i now ≡ drop i was → get_or now i d ≡ get_or was i d
  at_place was now i d e =
      let here : i + 0 ≡ i = omega arith in
      let of : List A → ℕ → A = λ xs j. get_or xs j d in
      sym (ap (of now) here) ∙ sym (get_or-drop i now 0 d) ∙ ap (λ (xs : List A). get_or xs 0 d) e
      ∙ get_or-drop i was 0 d
      ∙ ap (of was) here

  pub behind_as : (was now : List A) (i : ℕ) → drop i now ≡ drop i was → drop (i + 1) now ≡ drop (i + 1) was
  behind_as was now i e = sym (drop-drop 1 i now) ∙ ap (drop 1) e ∙ drop-drop 1 i was

  -- one more is written: so far none is another, and this one isn't, where the list is as it was, and only there
  pub none_changed : (was now : List A) (i : ℕ) (d x : A) (changed other : Bool) → i < length now
      → drop i now ≡ drop i was → (changed ≡ false ↔ now ≡ was) → (other ≡ false ↔ x ≡ get_or now i d)
      → (changed || other ≡ false ↔ set now i x ≡ was)
  none_changed was now i d x changed other within ahead before one = (
    (λ none.
        let both = neither changed other none in
        set_as_it_was now i d x (one.0 both.1) ∙ before.0 both.0),
    (λ same.
        let written : x ≡ get_or was i d =
        sym (get_or-set_same now i x d within) ∙ ap (λ (xs : List A). get_or xs i d) same in
        let still : x ≡ get_or now i d = written ∙ sym (at_place was now i d ahead) in
        both_not changed other (before.1 (sym (set_as_it_was now i d x still) ∙ same)) (one.1 still)),
  )
  -- ---- what is said of each, behind what is said of those in front

module _ {A B : Type 0} (f : A → B) where
  pub same_behind_front : (front xs ys : List A) (a b : A) → map f (front ++ (a ∷ xs)) ≡ map f (front ++ (b ∷ ys))
      → (f a ≡ f b) × (map f xs ≡ map f ys)
  same_behind_front front xs ys a b e =
      let behind : f a ∷ map f xs ≡ f b ∷ map f ys =
      append_cancel_left (map f front) (f a ∷ map f xs) (f b ∷ map f ys)
      (sym (map-append f front (a ∷ xs)) ∙ e ∙ map-append f front (b ∷ ys)) in
      (ap (λ (zs : List B). get_or zs 0 (f a)) behind, ap (drop 1) behind)
