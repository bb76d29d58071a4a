-- Keys under their numbers.
use Rattle.std.proofs.Common.{◌≡◌, ℕ, zero, suc, ◌<◌, ◌≤◌, Bool, true, false, List, [], ◌∷◌, ◌++◌, map, set, length, get_or, nat_eq, refl, sym, ap, ◌∙◌, arith}
use Rattle.std.specs.Prelude.{if◌then◌else◌, ◌==◌, nat_lt}
use Rattle.std.specs.List.{position_or_len, remove}
use Rattle.std.proofs.lemmas.Bool.Decides.{nat_tests}
use Rattle.std.proofs.lemmas.List.{get_or-map, get_or-set_other, get_or-set_same, get_or_past, length-map, map-set}
use Rattle.std.specs.Prelude.{Result, Ok, Err, OnErr}
use Rattle.kept_values.specs.Numbers.{Changes, HasSameKeys, keys_under, without_key}

same_number : (n i : ℕ) → nat_eq n i ≡ true → n ≡ i
same_number n i h = grind (arith, nat_tests)

other_number : (n i : ℕ) → nat_eq n i ≡ false → n ≡ i → ⊥
other_number n i h e = grind (arith, nat_tests)

-- the same keys, twice or before a change
pub same_twice : (xs ys zs : List (List ℕ)) → HasSameKeys xs ys → HasSameKeys ys zs → HasSameKeys xs zs
unfolding HasSameKeys
same_twice xs ys zs h k n = k n ∙ h n

pub same_changed : (i : ℕ) (change : List ℕ → List ℕ) (xs ys zs : List (List ℕ)) → HasSameKeys xs ys → Changes i change ys zs → Changes i change xs zs
unfolding HasSameKeys Changes
same_changed i change xs ys zs h k n = k n ∙ ap (λ l. if n == i then change l else l) (h n)

-- nothing is changed
pub same_keys : (xs : List (List ℕ)) → HasSameKeys xs xs
unfolding HasSameKeys
same_keys xs n = refl

-- a change that keeps the keys
pub kept_same : (i : ℕ) (xs ys : List (List ℕ)) → Changes i (λ keys. keys) xs ys → HasSameKeys xs ys
unfolding HasSameKeys Changes
kept_same i xs ys h n = h n ∙ either (n == i) (keys_under n xs)
  where
    either : (b : Bool) (l : List ℕ) → (if b then l else l) ≡ l
    either true l = refl
    either false l = refl

-- one more number has a place
pub same_placed : {K : Type 0} (items : K → List ℕ) (xs : List K) (new : K) → items new ≡ [] → HasSameKeys (map items xs) (map items (xs ++ new ∷ []))
unfolding HasSameKeys
same_placed items [] new e zero = e
same_placed items [] new e (suc n) = refl
same_placed items (x ∷ xs) new e zero = refl
same_placed items (x ∷ xs) new e (suc n) = same_placed items xs new e n

module _ {K : Type 0} (items : K → List ℕ) (xs : List K) (i : ℕ) (change : List ℕ → List ℕ) where
  -- one list of keys is changed
  pub changed_one : (old new : K) → i < length xs → old ≡ get_or xs i old → items new ≡ change (items old) → Changes i change (map items xs) (map items (set xs i new))
  unfolding Changes
  changed_one old new within is e n = (elim (nat_eq n i) as (λ t. nat_eq n i ≡ t → keys_under n (map items (set xs i new)) ≡ (if t then change (keys_under n (map items xs)) else keys_under n (map items xs))) [
    | true ↦ λ t.
        rw (same_number n i t) (
        ap (λ l. get_or l i []) (map-set items xs i new)
        ∙ get_or-set_same (map items xs) i (items new) [] (rw (length-map xs items) within)
        ∙ e
        ∙ ap (λ k. change (items k)) is
        ∙ ap change (sym (get_or-map items xs i old [] within))
        )
    | false ↦ λ t.
        ap (λ l. get_or l n []) (map-set items xs i new)
        ∙ get_or-set_other (map items xs) i n (items new) [] (other_number n i t)
  ]) refl

  -- there are no keys of that number
  pub changed_none : length xs ≤ i → change [] ≡ [] → Changes i change (map items xs) (map items xs)
  unfolding Changes
  changed_none past e n = (elim (nat_eq n i) as (λ t. nat_eq n i ≡ t → keys_under n (map items xs) ≡ (if t then change (keys_under n (map items xs)) else keys_under n (map items xs))) [
    | true ↦ λ t.
        let none : get_or (map items xs) i [] ≡ [] = get_or_past (map items xs) i [] (rw (length-map xs items) past) in
        rw (same_number n i t) (none ∙ sym e ∙ ap change (sym none))
    | false ↦ λ t. refl
  ]) refl

-- a key that is there is taken out at its place
pub without_there : (key : ℕ) (keys : List ℕ) → position_or_len (nat_eq key) keys < length keys → without_key key keys ≡ remove keys (position_or_len (nat_eq key) keys)
without_there key keys h =
    let e : nat_lt (position_or_len (nat_eq key) keys) (length keys) ≡ true = grind (arith, nat_tests) in
    rw e refl

-- what holds anyway holds where a call failed
pub on_err : {T E P : Type 0} (r : Result T E) → P → OnErr r P
on_err (Ok x) p = tt
on_err (Err x) p = p
