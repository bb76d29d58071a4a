-- Entries by the numbers of their values, and their keys.
use Rattle.std.proofs.Common.{◌≡◌, inl, inr, ℕ, suc, ◌+◌, ◌-◌, ◌<◌, Bool, true, false, List, [], ◌∷◌, ◌++◌, take, drop, length, Contains, Option, Some, None, nat_eq, refl, sym, ap, subst, ◌∙◌, arith, append-nil, length-append}
use Rattle.std.specs.Prelude.{cond, get_or, if◌then◌else◌, option_map, slice_get}
use Rattle.std.specs.List.{IsDistinct, position_or_len, remove}
use Rattle.std.specs.Map.{keys_of, lookup, remove_entry}
use Rattle.std.specs.Cmp.{nat_eq_equiv}
use Rattle.std.proofs.lemmas.List.{length-map, map-append, take-append-le, take_all, take_more}
use Rattle.std.proofs.lemmas.List.Elements.{filter-append}
use Rattle.std.proofs.lemmas.Map.Views.{lookup-from_Contains}
use Rattle.std.proofs.lemmas.Option.{get_or_from_slice_get, none-some, same_Some, slice_get-get_or, slice_get-map, slice_get_within}
use Rattle.lru.specs.LruCache.{last_entry}
use Rattle.kept_values.specs.Numbers.{Changes, HasSameKeys, IsIndexOf, keys_under, of_number, without_key}
use Rattle.kept_values.proofs.EntryLemmas.{flip, head_in, in_cons, tail_in}
use Rattle.kept_values.proofs.IndexLemmas.{without_there}

-- all but the last
cut_last : {X : Type 0} (xs : List X) (x : X) → take (length (xs ++ x ∷ []) - 1) (xs ++ x ∷ []) ≡ xs
cut_last xs x =
    let n : length (xs ++ x ∷ []) - 1 ≡ length xs = omega (arith, length-append xs (x ∷ [])) in
    rw n (take-append-le (length xs) xs (x ∷ []) (omega arith) ∙ take_all (length xs) xs (omega arith))

-- past the first
removed_past : {X : Type 0} (x : X) (xs : List X) (p : ℕ) → remove (x ∷ xs) (1 + p) ≡ x ∷ remove xs p
removed_past x xs p = let e : 1 + p ≡ suc p = omega arith in rw e refl

-- a list, as its last element and those before it
pub ends_in : {X : Type 0} (xs : List X) (x : X) → slice_get xs (length xs - 1) ≡ Some x → xs ≡ take (length xs - 1) xs ++ x ∷ []
ends_in xs x h =
    let within = slice_get_within xs (length xs - 1) x h in
    let n : length xs - 1 + 1 ≡ length xs = omega (arith, within) in
    sym (take_all (length xs) xs (omega arith))
    ∙ ap (λ k. take k xs) (sym n)
    ∙ take_more xs (length xs - 1) x within
    ∙ ap (λ y. take (length xs - 1) xs ++ y ∷ []) (get_or_from_slice_get xs (length xs - 1) x x h)

module _ {V : Type 0} (number_of : V → ℕ) where
  -- those of a number are among all
  pub in_all : (n : ℕ) (es : List (ℕ × V)) (e : ℕ × V) → Contains (of_number number_of n es) e → Contains es e
  in_all n [] e c = c
  in_all n (f ∷ es) e c = (elim (nat_eq (number_of f.1) n) as (λ t. nat_eq (number_of f.1) n ≡ t → Contains (f ∷ es) e) [
    | true ↦ λ t. elim (in_cons f (of_number number_of n es) e (rw t at c)) [
      | inl is ↦ subst (λ (x : ℕ × V). Contains (f ∷ es) x) is (head_in f es)
      | inr rest ↦ tail_in f es e (in_all n es e rest)
    ]
    | false ↦ λ t. tail_in f es e (in_all n es e (rw t at c))
  ]) refl

  -- none at all
  pub index_new : IsIndexOf number_of [] []
  unfolding IsIndexOf
  index_new n = refl

  pub index_same : (es : List (ℕ × V)) (old new : List (List ℕ)) → HasSameKeys old new → IsIndexOf number_of es old → IsIndexOf number_of es new
  unfolding IsIndexOf HasSameKeys
  index_same es old new s h n = s n ∙ h n

  -- whether a number is that of a value
  is_of : (n number : ℕ) (v : V) → number ≡ number_of v → nat_eq n number ≡ nat_eq (number_of v) n
  is_of n number v e = ap (nat_eq n) e ∙ flip n (number_of v)

  -- one goes first
  added_by : (t : Bool) (key : ℕ) (v : V) (ks : List ℕ) (es : List (ℕ × V)) → ks ≡ keys_of es → (if t then key ∷ ks else ks) ≡ keys_of (cond t ((key, v) ∷ es) es)
  added_by true key v ks es e = ap (λ l. key ∷ l) e
  added_by false key v ks es e = e

  pub index_added : (es : List (ℕ × V)) (old new : List (List ℕ)) (key number : ℕ) (v : V) → number ≡ number_of v → Changes number (λ keys. key ∷ keys) old new → IsIndexOf number_of es old → IsIndexOf number_of ((key, v) ∷ es) new
  unfolding IsIndexOf Changes
  index_added es old new key number v e ch h n =
      ch n
      ∙ ap (λ t. if t then key ∷ keys_under n old else keys_under n old) (is_of n number v e)
      ∙ added_by (nat_eq (number_of v) n) key v (keys_under n old) (of_number number_of n es) (h n)

  -- the first is taken back
  back_by : (t : Bool) (key : ℕ) (v : V) (ks : List ℕ) (es : List (ℕ × V)) → ks ≡ keys_of (cond t ((key, v) ∷ es) es) → (if t then drop 1 ks else ks) ≡ keys_of es
  back_by true key v ks es e = ap (drop 1) e
  back_by false key v ks es e = e

  pub index_back : (es : List (ℕ × V)) (old new : List (List ℕ)) (key number : ℕ) (v : V) → number ≡ number_of v → Changes number (drop 1) old new → IsIndexOf number_of ((key, v) ∷ es) old → IsIndexOf number_of es new
  unfolding IsIndexOf Changes
  index_back es old new key number v e ch h n =
      ch n
      ∙ ap (λ t. if t then drop 1 (keys_under n old) else keys_under n old) (is_of n number v e)
      ∙ back_by (nat_eq (number_of v) n) key v (keys_under n old) (of_number number_of n es) (h n)

  -- the last goes
  cut_by : (t : Bool) (e : ℕ × V) (ks : List ℕ) (es : List (ℕ × V)) → ks ≡ keys_of (es ++ cond t (e ∷ []) []) → (if t then take (length ks - 1) ks else ks) ≡ keys_of es
  cut_by true e ks es h =
      let is : ks ≡ keys_of es ++ e.0 ∷ [] = h ∙ map-append (λ (x : ℕ × V). x.0) es (e ∷ []) in
      ap (λ l. take (length l - 1) l) is ∙ cut_last (keys_of es) e.0
  cut_by false e ks es h = h ∙ ap (λ l. keys_of l) (append-nil es)

  pub index_cut : (es : List (ℕ × V)) (e : ℕ × V) (old new : List (List ℕ)) (number : ℕ) → number ≡ number_of e.1 → Changes number (λ keys. take (length keys - 1) keys) old new → IsIndexOf number_of (es ++ e ∷ []) old → IsIndexOf number_of es new
  unfolding IsIndexOf Changes
  index_cut es e old new number is ch h n =
      ch n
      ∙ ap (λ t. if t then take (length (keys_under n old) - 1) (keys_under n old) else keys_under n old) (is_of n number e.1 is)
      ∙ cut_by (nat_eq (number_of e.1) n) e (keys_under n old) (of_number number_of n es)
      (h n ∙ ap (λ l. keys_of l) (filter-append (λ (x : ℕ × V). nat_eq (number_of x.1) n) es (e ∷ [])))

  -- the last goes, if there is one
  pub index_less : (es : List (ℕ × V)) (e : ℕ × V) (old new : List (List ℕ)) (number : ℕ) → last_entry es ≡ Some e → number ≡ number_of e.1 → Changes number (λ keys. take (length keys - 1) keys) old new → IsIndexOf number_of es old → IsIndexOf number_of (take (length es - 1) es) new
  index_less es e old new number last is ch h =
      index_cut (take (length es - 1) es) e old new number is ch (subst (λ l. IsIndexOf number_of l old) (ends_in es e last) h)

  pub index_least : (es : List (ℕ × V)) (index : List (List ℕ)) → last_entry es ≡ None → IsIndexOf number_of es index → IsIndexOf number_of (take (length es - 1) es) index
  index_least [] index none h = h
  index_least (e ∷ es) index none h = absurd (none-some (get_or (e ∷ es) (length (e ∷ es) - 1) e) (sym none ∙ slice_get-get_or (e ∷ es) (length (e ∷ es) - 1) e (omega arith)))

-- ---- one is taken out

-- what a number was taken from
pub mapped_some : {A B : Type 0} (f : A → B) (o : Option A) (y : B) → option_map f o ≡ Some y → (x : A) × ((o ≡ Some x) × (y ≡ f x))
mapped_some f None y h = absurd (none-some y h)
mapped_some f (Some x) y h = (x, (refl, sym (same_Some (f x) y h)))

pub mapped_none : {A B : Type 0} (f : A → B) (o : Option A) → option_map f o ≡ None → o ≡ None
mapped_none f None h = refl
mapped_none f (Some x) h = absurd (none-some (f x) (sym h))

-- where the key isn't there
pub none_removed : {V : Type 0} (key : ℕ) (es : List (ℕ × V)) → lookup (nat_eq key) es ≡ None → remove_entry (nat_eq key) es ≡ es
none_removed key [] h = refl
none_removed key (e ∷ es) h = (elim (nat_eq key e.0) as (λ t. nat_eq key e.0 ≡ t → remove_entry (nat_eq key) (e ∷ es) ≡ e ∷ es) [
  | true ↦ λ t. absurd (none-some e.1 (sym (rw t at h)))
  | false ↦ λ t. rw t (ap (λ l. e ∷ l) (none_removed key es (rw t at h)))
]) refl

module _ {V : Type 0} (number_of : V → ℕ) (key n : ℕ) where
  keys : List (ℕ × V) → List ℕ
  keys es = keys_of (of_number number_of n es)

  place : List (ℕ × V) → ℕ
  place es = position_or_len (nat_eq key) (keys es)

  -- among the keys of its number a key is there, and taken away with its entry
  record IsThere (es : List (ℕ × V)) : Type 0 where
    pub within : place es < length (keys es)
    pub rest : keys (remove_entry (nat_eq key) es) ≡ remove (keys es) (place es)

  there : (es : List (ℕ × V)) (v : V) → lookup (nat_eq key) es ≡ Some v → nat_eq (number_of v) n ≡ true → IsThere es
  unfolding keys place
  there [] v h of = absurd (none-some v h)
  there (e ∷ es) v h of = (elim (nat_eq key e.0) as (λ t. nat_eq key e.0 ≡ t → IsThere (e ∷ es)) [
    | true ↦ λ t.
        let own : nat_eq (number_of e.1) n ≡ true = ap (λ (x : V). nat_eq (number_of x) n) (same_Some e.1 v (rw t at h)) ∙ of in
        record { within = rw (own, t) (omega arith); rest = rw (own, t) refl }
    | false ↦ λ t.
        let more = there es v (rw t at h) of in
        (elim (nat_eq (number_of e.1) n) as (λ u. nat_eq (number_of e.1) n ≡ u → IsThere (e ∷ es)) [
          | true ↦ λ u. record { within = rw (u, t) (omega (arith, more.within)); rest = rw (t, u, t) (ap (λ l. e.0 ∷ l) more.rest ∙ sym (removed_past e.0 (keys es) (place es))) }
          | false ↦ λ u. record { within = rw u more.within; rest = rw (t, u) more.rest }
        ]) refl
  ]) refl

  -- the keys of another number stay
  others : (es : List (ℕ × V)) (v : V) → lookup (nat_eq key) es ≡ Some v → nat_eq (number_of v) n ≡ false → keys (remove_entry (nat_eq key) es) ≡ keys es
  unfolding keys
  others [] v h not = absurd (none-some v h)
  others (e ∷ es) v h not = (elim (nat_eq key e.0) as (λ t. nat_eq key e.0 ≡ t → keys (remove_entry (nat_eq key) (e ∷ es)) ≡ keys (e ∷ es)) [
    | true ↦ λ t.
        let own : nat_eq (number_of e.1) n ≡ false = ap (λ (x : V). nat_eq (number_of x) n) (same_Some e.1 v (rw t at h)) ∙ not in
        rw (t, own) refl
    | false ↦ λ t.
        let more = others es v (rw t at h) not in
        (elim (nat_eq (number_of e.1) n) as (λ u. nat_eq (number_of e.1) n ≡ u → keys (remove_entry (nat_eq key) (e ∷ es)) ≡ keys (e ∷ es)) [
          | true ↦ λ u. rw (t, u) (ap (λ l. e.0 ∷ l) more)
          | false ↦ λ u. rw (t, u) more
        ]) refl
  ]) refl

  kept_keys : (es : List (ℕ × V)) (v : V) → lookup (nat_eq key) es ≡ Some v → (if nat_eq (number_of v) n then without_key key (keys es) else keys es) ≡ keys (remove_entry (nat_eq key) es)
  unfolding keys place
  kept_keys es v h =
      (elim (nat_eq (number_of v) n) as (λ t. nat_eq (number_of v) n ≡ t → (if t then without_key key (keys es) else keys es) ≡ keys (remove_entry (nat_eq key) es)) [
        | true ↦ λ t. let is = there es v h t in without_there key (keys es) is.within ∙ sym is.rest
        | false ↦ λ t. sym (others es v h t)
      ]) refl

module _ {V : Type 0} (number_of : V → ℕ) where
  pub index_taken : (es : List (ℕ × V)) (old new : List (List ℕ)) (key number : ℕ) (v : V) → lookup (nat_eq key) es ≡ Some v → number ≡ number_of v → Changes number (without_key key) old new → IsIndexOf number_of es old → IsIndexOf number_of (remove_entry (nat_eq key) es) new
  unfolding IsIndexOf Changes keys
  index_taken es old new key number v found is ch h n =
      ch n
      ∙ ap (λ t. if t then without_key key (keys_under n old) else keys_under n old) (is_of number_of n number v is)
      ∙ ap (λ l. if nat_eq (number_of v) n then without_key key l else l) (h n)
      ∙ kept_keys number_of key n es v found

-- ---- what stands at a place

module _ {V : Type 0} (number_of : V → ℕ) (es : List (ℕ × V)) (index : List (List ℕ)) (n place : ℕ) where
  pub counted_keys : IsIndexOf number_of es index → length (keys_under n index) ≡ length (of_number number_of n es)
  unfolding IsIndexOf
  counted_keys h = ap length (h n) ∙ length-map (of_number number_of n es) (λ (e : ℕ × V). e.0)

  key_at : IsIndexOf number_of es index → slice_get (keys_under n index) place ≡ option_map (λ (e : ℕ × V). e.0) (slice_get (of_number number_of n es) place)
  unfolding IsIndexOf
  key_at h = ap (λ l. slice_get l place) (h n) ∙ slice_get-map (λ (e : ℕ × V). e.0) (of_number number_of n es) place

  pub none_at : IsIndexOf number_of es index → slice_get (keys_under n index) place ≡ None → slice_get (of_number number_of n es) place ≡ None
  none_at h none = mapped_none (λ (e : ℕ × V). e.0) (slice_get (of_number number_of n es) place) (sym (key_at h) ∙ none)

  pub found_at : (key : ℕ) → IsIndexOf number_of es index → IsDistinct nat_eq (keys_of es) → slice_get (keys_under n index) place ≡ Some key
      → (v : V) × ((slice_get (of_number number_of n es) place ≡ Some (key, v)) × (lookup (nat_eq key) es ≡ Some v))
  found_at key h distinct found =
      let m = mapped_some (λ (e : ℕ × V). e.0) (slice_get (of_number number_of n es) place) key (sym (key_at h) ∙ found) in
      let e = m.0 in
      let here : slice_get (of_number number_of n es) place ≡ Some (key, e.1) = m.1.0 ∙ ap (λ (k : ℕ). Some (k, e.1)) (sym m.1.1) in
      (e.1, (here, lookup-from_Contains nat_eq_equiv key e.1 es distinct (in_all number_of n es (key, e.1) (place, slice_get_within _ place (key, e.1) here, get_or_from_slice_get _ place (key, e.1) (key, e.1) here))))
