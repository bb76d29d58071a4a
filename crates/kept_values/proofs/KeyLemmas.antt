-- Entries whose keys differ.
use Rattle.std.proofs.Common.{◌≡◌, ℕ, true, false, List, [], ◌∷◌, ◌++◌, take, drop, Contains, Option, Some, None, IfSome, nat_eq, refl, sym, ap, subst, ◌∙◌, arith, append_assoc}
use Rattle.std.specs.List.{AllByRecursion, IsDistinct}
use Rattle.std.specs.List.Sorted.{IsPermutation}
use Rattle.std.specs.Map.{keys_of, lookup, lookup_entry, remove_entry}
use Rattle.std.specs.Cmp.{nat_eq_equiv}
use Rattle.std.proofs.lemmas.Bool.Decides.{nat_tests}
use Rattle.std.proofs.lemmas.List.{take-append-drop}
use Rattle.std.proofs.lemmas.List.Elements.{Contains-append_right}
use Rattle.std.proofs.lemmas.List.Sorted.{Contains-permutation, IsPermutation-append_comm, IsPermutation-append_left, IsPermutation-map, IsPermutation-sym}
use Rattle.std.proofs.lemmas.Option.{none-some}
use Rattle.std.proofs.lemmas.Map.Keys.{IsDistinct-IsPermutation, IsDistinct-head, IsDistinct-tail}
use Rattle.std.proofs.lemmas.Map.Views.{lookup-from_Contains}
use Rattle.lru.specs.LruCache.{promoted}
use Rattle.lru.proofs.CallerLemmas.{Contains-lookup}
use Rattle.kept_values.specs.LastUsed.{AreGiven}
use Rattle.kept_values.proofs.EntryLemmas.{flip}

itself : (n : ℕ) → nat_eq n n ≡ true
itself n = grind (arith, nat_tests)

same : (a b : ℕ) → nat_eq a b ≡ true → a ≡ b
same a b h = grind (arith, nat_tests)

-- three parts of a list, the second first
pub second_first : {X : Type 0} (xs ys zs : List X) → IsPermutation (xs ++ (ys ++ zs)) (ys ++ (xs ++ zs))
second_first xs ys zs = simp append_assoc at (IsPermutation-append_left zs (xs ++ ys) (ys ++ xs) (IsPermutation-append_comm xs ys))

-- what holds where a value was found
pub if_some : {X : Type 0} (P Q : X → Type 0) (o : Option X) → ((x : X) → P x → Q x) → IfSome o P → IfSome o Q
if_some P Q None f h = tt
if_some P Q (Some x) f h = f x h

module _ {V : Type 0} where
  pub distinct_moved : (xs ys : List (ℕ × V)) → IsPermutation xs ys → IsDistinct nat_eq (keys_of xs) → IsDistinct nat_eq (keys_of ys)
  distinct_moved xs ys p d = IsDistinct-IsPermutation nat_eq flip (keys_of xs) (keys_of ys) (IsPermutation-map (λ (e : ℕ × V). e.0) xs ys p) d

  pub given_moved : (given : ℕ) (xs ys : List (ℕ × V)) → IsPermutation xs ys → AreGiven given xs → AreGiven given ys
  given_moved given xs ys p h = λ e c. h e (Contains-permutation ys xs e (IsPermutation-sym xs ys p) c)

  pub distinct_back : (xs ys : List (ℕ × V)) → IsDistinct nat_eq (keys_of (xs ++ ys)) → IsDistinct nat_eq (keys_of ys)
  distinct_back [] ys d = d
  distinct_back (x ∷ xs) ys d = distinct_back xs ys (IsDistinct-tail nat_eq x.0 (keys_of (xs ++ ys)) d)

  pub given_back : (given : ℕ) (xs ys : List (ℕ × V)) → AreGiven given (xs ++ ys) → AreGiven given ys
  given_back given xs ys h = λ e c. h e (Contains-append_right xs ys e c)

  pub distinct_take : (n : ℕ) (xs : List (ℕ × V)) → IsDistinct nat_eq (keys_of xs) → IsDistinct nat_eq (keys_of (take n xs))
  distinct_take n xs d =
      let parts : IsDistinct nat_eq (keys_of (take n xs ++ drop n xs)) = rw (take-append-drop n xs) d in
      distinct_back (drop n xs) (take n xs) (distinct_moved (take n xs ++ drop n xs) (drop n xs ++ take n xs) (IsPermutation-append_comm (take n xs) (drop n xs)) parts)

  -- a key differs from one behind it
  apart : (k : ℕ) (front : List (ℕ × V)) (e : ℕ × V) (back : List (ℕ × V)) → AllByRecursion (λ y. nat_eq k y ≡ false) (keys_of (front ++ e ∷ back)) → nat_eq k e.0 ≡ false
  apart k [] e back h = h.0
  apart k (f ∷ front) e back h = apart k front e back h.1

  none_by : (k : ℕ) (es : List (ℕ × V)) → AllByRecursion (λ y. nat_eq k y ≡ false) (keys_of es) → lookup_entry (nat_eq k) es ≡ None
  none_by k [] h = refl
  none_by k (e ∷ es) h = rw h.0 (none_by k es h.1)

  pub none_behind : (front : List (ℕ × V)) (e : ℕ × V) (back : List (ℕ × V)) → IsDistinct nat_eq (keys_of (front ++ e ∷ back)) → lookup_entry (nat_eq e.0) back ≡ None
  none_behind front e back d = none_by e.0 back (IsDistinct-head nat_eq e.0 (keys_of back) (distinct_back front (e ∷ back) d))

  found_at : (front : List (ℕ × V)) (e : ℕ × V) (back : List (ℕ × V)) → IsDistinct nat_eq (keys_of (front ++ e ∷ back)) → lookup_entry (nat_eq e.0) (front ++ e ∷ back) ≡ Some e
  found_at [] e back d = rw (itself e.0) refl
  found_at (f ∷ front) e back d =
      let not : nat_eq e.0 f.0 ≡ false = flip e.0 f.0 ∙ apart f.0 front e back (IsDistinct-head nat_eq f.0 (keys_of (front ++ e ∷ back)) d) in
      rw not (found_at front e back (IsDistinct-tail nat_eq f.0 (keys_of (front ++ e ∷ back)) d))

  pub removed_at : (front : List (ℕ × V)) (e : ℕ × V) (back : List (ℕ × V)) → IsDistinct nat_eq (keys_of (front ++ e ∷ back)) → remove_entry (nat_eq e.0) (front ++ e ∷ back) ≡ front ++ back
  removed_at [] e back d = rw (itself e.0) refl
  removed_at (f ∷ front) e back d =
      let not : nat_eq e.0 f.0 ≡ false = flip e.0 f.0 ∙ apart f.0 front e back (IsDistinct-head nat_eq f.0 (keys_of (front ++ e ∷ back)) d) in
      rw not (ap (λ l. f ∷ l) (removed_at front e back (IsDistinct-tail nat_eq f.0 (keys_of (front ++ e ∷ back)) d)))

  -- an entry goes before those in front of it
  pub promoted_at : (front : List (ℕ × V)) (e : ℕ × V) (back : List (ℕ × V)) → IsDistinct nat_eq (keys_of (front ++ e ∷ back)) → promoted (nat_eq e.0) (front ++ e ∷ back) ≡ e ∷ (front ++ back)
  promoted_at front e back d = rw (found_at front e back d) (ap (λ l. e ∷ l) (removed_at front e back d))

  -- the entry that a look-up found
  pub found_in : (key : ℕ) (es : List (ℕ × V)) (v : V) → lookup (nat_eq key) es ≡ Some v → Contains es (key, v)
  found_in key es v h =
      let c = Contains-lookup (nat_eq key) es v h in
      subst (λ (k : ℕ). Contains es (k, v)) (sym (same key c.0 c.2)) c.1

  pub found_behind : (key : ℕ) (front back : List (ℕ × V)) (v : V) → IsDistinct nat_eq (keys_of (front ++ back)) → lookup (nat_eq key) back ≡ Some v → lookup (nat_eq key) (front ++ back) ≡ Some v
  found_behind key front back v d h = lookup-from_Contains nat_eq_equiv key v (front ++ back) d (Contains-append_right front back (key, v) (found_in key back v h))

  pub found_before : (key : ℕ) (front back : List (ℕ × V)) (v : V) → lookup (nat_eq key) front ≡ Some v → lookup (nat_eq key) (front ++ back) ≡ Some v
  found_before key [] back v h = absurd (none-some v h)
  found_before key (e ∷ front) back v h = (elim (nat_eq key e.0) as (λ t. nat_eq key e.0 ≡ t → lookup (nat_eq key) (e ∷ (front ++ back)) ≡ Some v) [
    | true ↦ λ t. rw t (rw t at h)
    | false ↦ λ t. rw t (found_before key front back v (rw t at h))
  ]) refl

  pub found_past : (key : ℕ) (front back : List (ℕ × V)) → lookup (nat_eq key) front ≡ None → lookup (nat_eq key) (front ++ back) ≡ lookup (nat_eq key) back
  found_past key [] back h = refl
  found_past key (e ∷ front) back h = (elim (nat_eq key e.0) as (λ t. nat_eq key e.0 ≡ t → lookup (nat_eq key) (e ∷ (front ++ back)) ≡ lookup (nat_eq key) back) [
    | true ↦ λ t. absurd (none-some e.1 (sym (rw t at h)))
    | false ↦ λ t. rw t (found_past key front back (rw t at h))
  ]) refl
