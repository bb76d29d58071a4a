-- A change of the first element that passes, by its position.
use Rattle.std.proofs.Common.{◌≡◌, ℕ, zero, suc, ◌+◌, ◌<◌, ◌≤◌, Bool, true, false, cond, not, ltb, List, [], ◌∷◌, ◌++◌}
use Rattle.std.proofs.Common.{length, get_or, set, position, None, Some, refl, sym, ap, ◌∙◌, arith}
use Rattle.std.proofs.lemmas.Bool.{ltb-false}
use Rattle.std.proofs.lemmas.List.Quantifiers.{position-Some}
use Rattle.std.proofs.lemmas.Option.{none-some}
use Rattle.std.specs.List.{position_or_len}
use Rattle.ini_text.specs.Change.{change_or_add, put_value}
use Rattle.ini_text.specs.Content.{Pair, same}

module _ {X : Type 0} (p : X → Bool) (f : X → X) (new : X) where
  -- where the first one stands at a position
  changed_there : (xs : List X) (i : ℕ) (d : X) → i < length xs → p (get_or xs i d) ≡ true
      → ((k : ℕ) → k < i → p (get_or xs k d) ≡ false) → set xs i (f (get_or xs i d)) ≡ change_or_add p f new xs
  changed_there [] i d within here before = absurd (omega arith)
  changed_there (x ∷ xs) zero d within here before = rw here refl
  changed_there (x ∷ xs) (suc i) d within here before =
      let first : p x ≡ false = before 0 (omega arith) in
      rw first (ap (λ ys. x ∷ ys) (changed_there xs i d (omega arith) here (λ k h. before (suc k) (omega arith))))

  pub change_at : (xs : List X) (i : ℕ) (y d : X) → position p xs ≡ Some i → y ≡ f (get_or xs i d)
      → set xs i y ≡ change_or_add p f new xs
  change_at xs i y d at is = let found = position-Some p xs i d at
      in ap (set xs i) is ∙ changed_there xs i d found.0 found.1 found.2

  -- and where there is none
  none_passes : (xs : List X) → length xs ≤ position_or_len p xs → change_or_add p f new xs ≡ xs ++ new ∷ []
  none_passes [] h = refl
  none_passes (x ∷ xs) h = by (p x) h (none_passes xs)
    where
      by : (t : Bool) → length (x ∷ xs) ≤ cond (not t) (1 + position_or_len p xs) 0
          → (length xs ≤ position_or_len p xs → change_or_add p f new xs ≡ xs ++ new ∷ [])
          → cond t (f x ∷ xs) (x ∷ change_or_add p f new xs) ≡ (x ∷ xs) ++ new ∷ []
      by true h rest = absurd (omega arith)
      by false h rest = ap (λ ys. x ∷ ys) (rest (omega arith))

  no_position : (n m : ℕ) (t : Bool) → ltb n m ≡ t → cond t (Some n) None ≡ None → m ≤ n
  no_position n m true e h = absurd (none-some n (sym h))
  no_position n m false e h = ltb-false n m e

  pub add_last : (xs : List X) → position p xs ≡ None → xs ++ new ∷ [] ≡ change_or_add p f new xs
  add_last xs h = sym (none_passes xs (no_position (position_or_len p xs) (length xs) _ refl h))

-- a key that stands gets the value where it stands
pub put_at : (seen pairs : List Pair) (i : ℕ) (shown key value : List ℕ) (there after : Pair) → seen ≡ pairs
    → shown ≡ key
    → position (λ p. same shown p.key) seen ≡ Some i → there ≡ get_or pairs i there
    → after ≡ record { key = there.key; value = value }
    → set pairs i after ≡ put_value pairs key value
put_at seen pairs i shown key value there after is_seen is_shown at is_there is_after =
    let with_new : Pair → Pair = λ p. record { key = p.key; value = value } in
    let found : position (λ p. same key p.key) pairs
    ≡ Some i = sym (ap (λ k. position (λ p. same k p.key) pairs) is_shown)
    ∙ sym (ap (position (λ p. same shown p.key)) is_seen) ∙ at in
    change_at (λ p. same key p.key) with_new (record { key = key; value = value }) pairs i after there found (is_after
    ∙ ap with_new is_there)

-- and a new key goes last
pub put_last : (seen pairs : List Pair) (shown key value : List ℕ) → seen ≡ pairs → shown ≡ key
    → position (λ p. same shown p.key) seen ≡ None
    → pairs ++ record { key = key; value = value } ∷ [] ≡ put_value pairs key value
put_last seen pairs shown key value is_seen is_shown at =
    let with_new : Pair → Pair = λ p. record { key = p.key; value = value } in
    let found : position (λ p. same key p.key) pairs
    ≡ None = sym (ap (λ k. position (λ p. same k p.key) pairs) is_shown)
    ∙ sym (ap (position (λ p. same shown p.key)) is_seen) ∙ at in
    add_last (λ p. same key p.key) with_new (record { key = key; value = value }) pairs found
