-- Values in a row, and those beside it.
use Rattle.std.proofs.Common.{◌≡◌, ℕ, zero, suc, ◌+◌, ◌-◌, ◌<◌, ◌≤◌, true, false, inl, inr, List, [], ◌∷◌, ◌++◌, take, drop, reverse, length, get_or, Contains, Option, Some, None, nat_eq, slice_get, refl, sym, ap, subst, ◌∙◌, arith, append_assoc, length-append}
use Rattle.std.specs.List.{IsDistinct}
use Rattle.std.specs.List.Sorted.{IsPermutation}
use Rattle.std.specs.Map.{keys_of, lookup, remove_entry}
use Rattle.std.proofs.lemmas.Bool.Decides.{nat_tests}
use Rattle.std.proofs.lemmas.List.{drop_all, drop_more, get_or-drop, length-drop, length-reverse, length-take, length-take-le, reverse-append, take-append-drop, take_all, take_at, take_more}
use Rattle.std.proofs.lemmas.List.Elements.{Contains-append_cases, Contains-append_left, Contains-append_right, filter-append}
use Rattle.std.proofs.lemmas.List.Sorted.{Contains-permutation, IsPermutation-middle, IsPermutation-reverse, IsPermutation-sym, IsPermutation-trans, length_permutation}
use Rattle.std.proofs.lemmas.Map.Keys.{IsDistinct-cons}
use Rattle.std.proofs.lemmas.Option.{get_or_from_slice_get, same_Some, slice_get_within}
use Rattle.lru.specs.LruCache.{promoted}
use Rattle.lru.proofs.Splits.{Contains-cut}
use Rattle.kept_values.specs.Numbers.{of_number}
use Rattle.kept_values.specs.Rows.{IsEndOf, IsRow, IsRecent, use_order}
use Rattle.kept_values.specs.LastUsed.{AreGiven, LastUsed}
use Rattle.kept_values.proofs.EntryLemmas.{given_added, head_in, in_cons, new_keys, none_in, tail_in}
use Rattle.kept_values.proofs.KeyLemmas.{distinct_back, distinct_moved, distinct_take, found_behind, found_before, found_in, found_past, given_back, given_moved, promoted_at, removed_at, second_first}

differ : (a b : ℕ) → (a ≡ b → ⊥) → nat_eq a b ≡ false
differ a b h = grind (arith, nat_tests)

equal : (a b : ℕ) → a ≡ b → nat_eq a b ≡ true
equal a b h = grind (arith, nat_tests)

in_reverse : {X : Type 0} (xs : List X) (x : X) → Contains (reverse xs) x → Contains xs x
in_reverse xs x c = Contains-permutation (reverse xs) xs x (IsPermutation-sym xs (reverse xs) (IsPermutation-reverse xs)) c

pub reversed_push : {X : Type 0} (xs : List X) (x : X) → reverse (xs ++ x ∷ []) ≡ x ∷ reverse xs
reversed_push xs x = reverse-append xs (x ∷ [])

reversed_cons : {X : Type 0} (x : X) (xs : List X) → reverse (x ∷ xs) ≡ reverse xs ++ x ∷ []
reversed_cons x xs = reverse-append (x ∷ []) xs

-- all but the last of two lists
pub cut_back : {X : Type 0} (n : ℕ) (xs ys : List X) → n + 1 ≡ length xs + length ys → 0 < length ys → xs ++ take (length ys - 1) ys ≡ take n (xs ++ ys)
cut_back n xs ys is some =
    let k = length ys - 1 in
    let whole : (xs ++ take k ys) ++ drop k ys ≡ xs ++ ys = append_assoc xs (take k ys) (drop k ys) ∙ ap (λ l. xs ++ l) (take-append-drop k ys) in
    let long : length (xs ++ take k ys) ≡ n = omega (arith, length-append xs (take k ys), length-take k ys) in
    sym (ap (take n) (sym whole) ∙ take_at (xs ++ take k ys) (drop k ys) n long)

-- ---- the numbers of a row

module _ {V : Type 0} (number_of : V → ℕ) where
  pub row_none : (first : ℕ) → IsRow number_of first []
  unfolding IsRow
  row_none first = tt

  pub row_push : (first : ℕ) (es : List (ℕ × V)) (e : ℕ × V) → IsRow number_of first es → number_of e.1 ≡ first + length es → IsRow number_of first (es ++ e ∷ [])
  unfolding IsRow
  row_push first [] e h is = (omega (arith, is), tt)
  row_push first (f ∷ es) e h is = (h.0, row_push (first + 1) es e h.1 (omega (arith, is)))

  pub row_take : (first n : ℕ) (es : List (ℕ × V)) → IsRow number_of first es → IsRow number_of first (take n es)
  unfolding IsRow
  row_take first zero es h = tt
  row_take first (suc n) [] h = tt
  row_take first (suc n) (e ∷ es) h = (h.0, row_take (first + 1) n es h.1)

  pub row_drop : (first n : ℕ) (es : List (ℕ × V)) → IsRow number_of first es → IsRow number_of (first + n) (drop n es)
  unfolding IsRow
  row_drop first zero es h = let is : first + 0 ≡ first = omega arith in rw is h
  row_drop first (suc n) [] h = tt
  row_drop first (suc n) (e ∷ es) h =
      let is : first + suc n ≡ first + 1 + n = omega arith in
      rw is (row_drop (first + 1) n es h.1)

  row_head : (first : ℕ) (e : ℕ × V) (es : List (ℕ × V)) → IsRow number_of first (e ∷ es) → number_of e.1 ≡ first
  unfolding IsRow
  row_head first e es h = h.0

  row_tail : (first : ℕ) (e : ℕ × V) (es : List (ℕ × V)) → IsRow number_of first (e ∷ es) → IsRow number_of (first + 1) es
  unfolding IsRow
  row_tail first e es h = h.1

  pub row_below : (first : ℕ) (es : List (ℕ × V)) (e : ℕ × V) → IsRow number_of first es → Contains es e → number_of e.1 < first + length es
  unfolding IsRow
  row_below first [] e h c = absurd (none_in e c)
  row_below first (f ∷ es) e h c = elim (in_cons f es e c) [
    | inl is ↦ omega (arith, h.0, ap (λ (x : ℕ × V). number_of x.1) is)
    | inr d ↦ omega (arith, row_below (first + 1) es e h.1 d)
  ]

  row_from : (first : ℕ) (es : List (ℕ × V)) (e : ℕ × V) → IsRow number_of first es → Contains es e → first ≤ number_of e.1
  unfolding IsRow
  row_from first [] e h c = absurd (none_in e c)
  row_from first (f ∷ es) e h c = elim (in_cons f es e c) [
    | inl is ↦ omega (arith, h.0, ap (λ (x : ℕ × V). number_of x.1) is)
    | inr d ↦ omega (arith, row_from (first + 1) es e h.1 d)
  ]

  none_of : (n : ℕ) (es : List (ℕ × V)) → ((e : ℕ × V) → Contains es e → number_of e.1 ≡ n → ⊥) → of_number number_of n es ≡ []
  none_of n [] h = refl
  none_of n (e ∷ es) h = rw (differ (number_of e.1) n (h e (head_in e es))) (none_of n es (λ f c. h f (tail_in e es f c)))

  -- ---- nothing lies ahead

  module _ (first used : ℕ) (row rest : List (ℕ × V)) (numbers : IsRow number_of first row) (within : used ≤ length row) (settled : drop used row ≡ []) where
    pub all_used : used ≡ length row
    all_used = omega (arith, within, length-drop used row, ap length settled)

    pub settled_shown : use_order row used rest ≡ reverse row ++ rest
    settled_shown = rw (settled, take_all used row (omega (arith, all_used))) refl

    pub later_numbers : (n : ℕ) → first + used ≤ n → of_number number_of n (use_order row used rest) ≡ of_number number_of n rest
    later_numbers n later =
        ap (of_number number_of n) settled_shown
        ∙ filter-append (λ (e : ℕ × V). nat_eq (number_of e.1) n) (reverse row) rest
        ∙ ap (λ l. l ++ of_number number_of n rest) (none_of n (reverse row) (λ e c is. absurd (omega (arith, later, is, all_used, row_below first row e numbers (in_reverse row e c)))))

    lookup_by : (key : ℕ) (o : Option V) → lookup (nat_eq key) (reverse row) ≡ o → ((v : V) → lookup (nat_eq key) (reverse row ++ rest) ≡ Some v → first + used ≤ number_of v) → lookup (nat_eq key) (reverse row ++ rest) ≡ lookup (nat_eq key) rest
    lookup_by key None is later = found_past key (reverse row) rest is
    lookup_by key (Some v) is later = absurd (omega (arith, all_used, later v (found_before key (reverse row) rest v is), row_below first row (key, v) numbers (in_reverse row (key, v) (found_in key (reverse row) v is))))

    pub later_lookup : (key : ℕ) → ((v : V) → lookup (nat_eq key) (use_order row used rest) ≡ Some v → first + used ≤ number_of v) → lookup (nat_eq key) (use_order row used rest) ≡ lookup (nat_eq key) rest
    later_lookup key later =
        ap (lookup (nat_eq key)) settled_shown
        ∙ lookup_by key (lookup (nat_eq key) (reverse row)) refl (λ v is. later v (ap (lookup (nat_eq key)) settled_shown ∙ is))

    -- a value of the number whose turn it is isn't in the row
    pub turn_lookup : (key : ℕ) (v : V) → lookup (nat_eq key) (use_order row used rest) ≡ Some v → number_of v ≡ first + used → lookup (nat_eq key) rest ≡ Some v
    turn_lookup key v is turn =
        sym (later_lookup key (λ w found. omega (arith, turn, ap number_of (same_Some w v (sym found ∙ is))))) ∙ is

-- ---- what is shown

module _ {V : Type 0} (row : List (ℕ × V)) (used : ℕ) (rest : List (ℕ × V)) where
  pub ahead_first : reverse row ++ rest ≡ reverse (drop used row) ++ (reverse (take used row) ++ rest)
  ahead_first =
      ap (λ l. reverse l ++ rest) (sym (take-append-drop used row))
      ∙ ap (λ l. l ++ rest) (reverse-append (take used row) (drop used row))
      ∙ append_assoc (reverse (drop used row)) (reverse (take used row)) rest

  pub shown_moved : IsPermutation (reverse row ++ rest) (use_order row used rest)
  shown_moved = rw ahead_first (second_first (reverse (drop used row)) (reverse (take used row)) rest)

  pub shown_distinct : IsDistinct nat_eq (keys_of (reverse row ++ rest)) → IsDistinct nat_eq (keys_of (use_order row used rest))
  shown_distinct d = distinct_moved (reverse row ++ rest) (use_order row used rest) shown_moved d

  pub shown_given : (given : ℕ) → AreGiven given (reverse row ++ rest) → AreGiven given (use_order row used rest)
  shown_given given h = given_moved given (reverse row ++ rest) (use_order row used rest) shown_moved h

  pub ahead_distinct : IsDistinct nat_eq (keys_of (reverse row ++ rest)) → IsDistinct nat_eq (keys_of (reverse (drop used row) ++ rest))
  ahead_distinct d = distinct_back (reverse (take used row)) (reverse (drop used row) ++ rest) (shown_distinct d)

-- all of a row is used
pub shown_all : {V : Type 0} (row rest : List (ℕ × V)) → use_order row (length row) rest ≡ reverse row ++ rest
shown_all row rest = rw (take_all (length row) row (omega arith), drop_all (length row) row (omega arith)) refl

-- what lies ahead next, as it is read
pub read_ahead : {X : Type 0} (row : List X) (used : ℕ) (x : X) → used < length row → x ≡ get_or row used x → slice_get (drop used row) 0 ≡ Some x
read_ahead row used x within is = ap (λ l. slice_get l 0) (drop_more row used x within) ∙ ap Some (sym is)

-- ---- one lies ahead

module _ {V : Type 0} (number_of : V → ℕ) (first used : ℕ) (row rest : List (ℕ × V)) (e : ℕ × V) (next : slice_get (drop used row) 0 ≡ Some e) where
  pub is_ahead : used < length row
  is_ahead = omega (arith, slice_get_within (drop used row) 0 e next, length-drop used row)

  at_used : get_or row used e ≡ e
  at_used =
      let is : used + 0 ≡ used = omega arith in
      ap (λ n. get_or row n e) (sym is) ∙ sym (get_or-drop used row 0 e) ∙ get_or_from_slice_get (drop used row) 0 e e next

  ahead : drop used row ≡ e ∷ drop (used + 1) row
  ahead = drop_more row used e is_ahead ∙ ap (λ x. x ∷ drop (used + 1) row) at_used

  behind : take (used + 1) row ≡ take used row ++ e ∷ []
  behind = take_more row used e is_ahead ∙ ap (λ x. take used row ++ x ∷ []) at_used

  front : List (ℕ × V)
  front = reverse (take used row) ++ reverse (drop (used + 1) row)

  next_shown : use_order row used rest ≡ front ++ e ∷ rest
  unfolding front
  next_shown =
      let b = reverse (drop (used + 1) row) in
      ap (λ l. reverse (take used row) ++ (reverse l ++ rest)) ahead
      ∙ ap (λ l. reverse (take used row) ++ (l ++ rest)) (reversed_cons e (drop (used + 1) row))
      ∙ ap (λ l. reverse (take used row) ++ l) (append_assoc b (e ∷ []) rest)
      ∙ sym (append_assoc (reverse (take used row)) b (e ∷ rest))

  next_distinct : IsDistinct nat_eq (keys_of (reverse row ++ rest)) → IsDistinct nat_eq (keys_of (front ++ e ∷ rest))
  next_distinct d = subst (λ l. IsDistinct nat_eq (keys_of l)) next_shown (shown_distinct row used rest d)

  pub used_shown : IsDistinct nat_eq (keys_of (reverse row ++ rest)) → use_order row (used + 1) rest ≡ promoted (nat_eq e.0) (use_order row used rest)
  unfolding front
  used_shown d =
      ap (λ l. reverse l ++ (reverse (drop (used + 1) row) ++ rest)) behind
      ∙ ap (λ l. l ++ (reverse (drop (used + 1) row) ++ rest)) (reversed_push (take used row) e)
      ∙ ap (λ l. e ∷ l) (sym (append_assoc (reverse (take used row)) (reverse (drop (used + 1) row)) rest))
      ∙ sym (promoted_at front e rest (next_distinct d))
      ∙ ap (promoted (nat_eq e.0)) (sym next_shown)

  pub next_held : IsDistinct nat_eq (keys_of (reverse row ++ rest)) → lookup (nat_eq e.0) (use_order row used rest) ≡ Some e.1
  next_held d = ap (lookup (nat_eq e.0)) next_shown ∙ found_behind e.0 front (e ∷ rest) e.1 (next_distinct d) (rw (equal e.0 e.0 refl) refl)

  pub next_first : IsRow number_of first row → slice_get (of_number number_of (first + used) (use_order row used rest)) 0 ≡ Some e
  unfolding front
  next_first numbers =
      let n = first + used in
      let from : IsRow number_of n (e ∷ drop (used + 1) row) = rw ahead at (row_drop number_of first used row numbers) in
      let own : nat_eq (number_of e.1) n ≡ true = equal (number_of e.1) n (row_head number_of n e (drop (used + 1) row) from) in
      let before = none_of number_of n (reverse (take used row)) (λ f c is. absurd (omega (arith, is, length-take used row, row_below number_of first (take used row) f (row_take number_of first used row numbers) (in_reverse (take used row) f c)))) in
      let after = none_of number_of n (reverse (drop (used + 1) row)) (λ f c is. absurd (omega (arith, is, row_from number_of (n + 1) (drop (used + 1) row) f (row_tail number_of n e (drop (used + 1) row) from) (in_reverse (drop (used + 1) row) f c)))) in
      let test = λ (f : ℕ × V). nat_eq (number_of f.1) n in
      let all : of_number number_of n (use_order row used rest) ≡ of_number number_of n (e ∷ rest) =
      ap (of_number number_of n) next_shown
      ∙ filter-append test front (e ∷ rest)
      ∙ ap (λ l. l ++ of_number number_of n (e ∷ rest)) (filter-append test (reverse (take used row)) (reverse (drop (used + 1) row)) ∙ ap (λ l. l ++ of_number number_of n (reverse (drop (used + 1) row))) before ∙ after) in
      ap (λ l. slice_get l 0) all ∙ rw own refl

-- ---- what lies ahead goes before the rest

module _ {V : Type 0} (row : List (ℕ × V)) (used : ℕ) (rest new : List (ℕ × V)) where
  pub less_shown : IsEndOf (reverse (drop used row) ++ rest) new → (e : ℕ × V) → Contains (reverse (take used row) ++ new) e → Contains (use_order row used rest) e
  less_shown ends e c = elim (Contains-append_cases (reverse (take used row)) new e c) [
    | inl d ↦ Contains-append_left (reverse (take used row)) (reverse (drop used row) ++ rest) e d
    | inr d ↦ Contains-append_right (reverse (take used row)) (reverse (drop used row) ++ rest) e (rw ends.1 (Contains-append_right ends.0 new e d))
  ]

  pub put_fewer : used ≤ length row → IsEndOf (reverse (drop used row) ++ rest) new → (e : ℕ × V) → Contains (use_order (take used row) used new) e → Contains (use_order row used rest) e
  put_fewer within ends e c =
      let long = length-take-le used row within in
      less_shown ends e (rw (take_all used (take used row) (omega (arith, long)), drop_all used (take used row) (omega (arith, long))) at c)

  moved_ends : (gone : List (ℕ × V)) → reverse (drop used row) ++ rest ≡ gone ++ new → IsPermutation (reverse row ++ rest) (gone ++ (reverse (take used row) ++ new))
  moved_ends gone is =
      let all : IsPermutation (reverse row ++ rest) (reverse (take used row) ++ (gone ++ new)) = rw is at (shown_moved row used rest) in
      IsPermutation-trans (reverse row ++ rest) (reverse (take used row) ++ (gone ++ new)) (gone ++ (reverse (take used row) ++ new)) all (second_first (reverse (take used row)) gone new)

  pub put_recent : (number_of : V → ℕ) (capacity given first : ℕ) → IsRecent number_of capacity given first used row rest → IsEndOf (reverse (drop used row) ++ rest) new → IsRecent number_of capacity given first used (take used row) new
  put_recent number_of capacity given first h ends =
      let moved = moved_ends ends.0 ends.1 in
      let long = length-take-le used row h.within in
      record {
        numbers = row_take number_of first used row h.numbers;
        within = omega (arith, long);
        distinct = distinct_back ends.0 (reverse (take used row) ++ new) (distinct_moved (reverse row ++ rest) (ends.0 ++ (reverse (take used row) ++ new)) moved h.distinct);
        known = given_back given ends.0 (reverse (take used row) ++ new) (given_moved given (reverse row ++ rest) (ends.0 ++ (reverse (take used row) ++ new)) moved h.known);
        fits = omega (arith, long, h.fits, length_permutation (reverse row ++ rest) (ends.0 ++ (reverse (take used row) ++ new)) moved, length-append (reverse row) rest, length-append ends.0 (reverse (take used row) ++ new), length-append (reverse (take used row)) new, length-reverse row, length-reverse (take used row));
      }

-- nothing kept
pub new_recent : {V : Type 0} (number_of : V → ℕ) (capacity : ℕ) → IsRecent number_of capacity 0 0 0 [] []
unfolding IsDistinct
new_recent number_of capacity = record { numbers = row_none number_of 0; within = omega arith; distinct = tt; known = λ e c. absurd (none_in e c); fits = omega arith }

-- none of a row is used yet
pub begun_recent : {V : Type 0} (row : List (ℕ × V)) (used : ℕ) (rest new : List (ℕ × V)) (number_of : V → ℕ) (capacity given first : ℕ) → IsRecent number_of capacity given first used row rest → IsEndOf (reverse (drop used row) ++ rest) new → IsRecent number_of capacity given first 0 (take used row) new
begun_recent row used rest new number_of capacity given first h ends =
    let put = put_recent row used rest new number_of capacity given first h ends in
    record { numbers = put.numbers; within = omega arith; distinct = put.distinct; known = put.known; fits = put.fits }

-- and no value is in it
pub empty_recent : {V : Type 0} (number_of : V → ℕ) (capacity given first : ℕ) (row rest new : List (ℕ × V)) → IsRecent number_of capacity given first 0 row rest → IsEndOf (reverse row ++ rest) new → (from : ℕ) → IsRecent number_of capacity given from 0 [] new
empty_recent number_of capacity given first row rest new h ends from =
    let put = put_recent row 0 rest new number_of capacity given first h ends in
    record { numbers = row_none number_of from; within = omega arith; distinct = put.distinct; known = put.known; fits = put.fits }

-- ---- one is moved to the row's end

module _ {V : Type 0} (row rest : List (ℕ × V)) (key : ℕ) (v : V) (distinct : IsDistinct nat_eq (keys_of (reverse row ++ rest))) (found : lookup (nat_eq key) rest ≡ Some v) where
  record IsCut : Type 0 where
    pub front : List (ℕ × V)
    pub back : List (ℕ × V)
    pub is : rest ≡ front ++ (key, v) ∷ back
    pub removed : remove_entry (nat_eq key) rest ≡ front ++ back
    pub all : reverse row ++ rest ≡ (reverse row ++ front) ++ (key, v) ∷ back
    pub others : (reverse row ++ front) ++ back ≡ reverse row ++ remove_entry (nat_eq key) rest

  cut : IsCut
  cut =
      let at = Contains-cut rest (key, v) (found_in key rest v found) in
      let front = at.0 in
      let back = at.1 in
      let is : rest ≡ front ++ (key, v) ∷ back = at.2 in
      let apart : IsDistinct nat_eq (keys_of (front ++ (key, v) ∷ back)) = subst (λ l. IsDistinct nat_eq (keys_of l)) is (distinct_back (reverse row) rest distinct) in
      let removed : remove_entry (nat_eq key) rest ≡ front ++ back = ap (remove_entry (nat_eq key)) is ∙ removed_at front (key, v) back apart in
      record {
        front = front;
        back = back;
        is = is;
        removed = removed;
        all = ap (λ l. reverse row ++ l) is ∙ sym (append_assoc (reverse row) front ((key, v) ∷ back));
        others = append_assoc (reverse row) front back ∙ ap (λ l. reverse row ++ l) (sym removed);
      }

  pub brought : promoted (nat_eq key) (reverse row ++ rest) ≡ (key, v) ∷ (reverse row ++ remove_entry (nat_eq key) rest)
  brought =
      let apart : IsDistinct nat_eq (keys_of ((reverse row ++ cut.front) ++ (key, v) ∷ cut.back)) = subst (λ l. IsDistinct nat_eq (keys_of l)) cut.all distinct in
      ap (promoted (nat_eq key)) cut.all ∙ promoted_at (reverse row ++ cut.front) (key, v) cut.back apart ∙ ap (λ l. (key, v) ∷ l) cut.others

  pub brought_moved : IsPermutation (reverse row ++ rest) ((key, v) ∷ (reverse row ++ remove_entry (nat_eq key) rest))
  brought_moved = rw (cut.all, ← cut.others) (IsPermutation-middle (reverse row ++ cut.front) (key, v) cut.back)

  pub brought_recent : (number_of : V → ℕ) (capacity given first used : ℕ) → IsRecent number_of capacity given first used row rest → number_of v ≡ first + length row
      → IsRecent number_of capacity given first (length (row ++ (key, v) ∷ [])) (row ++ (key, v) ∷ []) (remove_entry (nat_eq key) rest)
  brought_recent number_of capacity given first used h turn =
      let new = reverse (row ++ (key, v) ∷ []) ++ remove_entry (nat_eq key) rest in
      let moved : IsPermutation (reverse row ++ rest) new = rw (reversed_push row (key, v)) brought_moved in
      record {
        numbers = row_push number_of first row (key, v) h.numbers turn;
        within = omega arith;
        distinct = distinct_moved (reverse row ++ rest) new moved h.distinct;
        known = given_moved given (reverse row ++ rest) new moved h.known;
        fits = omega (arith, h.fits, length_permutation (reverse row ++ rest) new moved, length-append (reverse row) rest, length-append (reverse (row ++ (key, v) ∷ [])) (remove_entry (nat_eq key) rest), length-reverse row, length-reverse (row ++ (key, v) ∷ []));
      }

  pub brought_shown : (number_of : V → ℕ) (first used : ℕ) → IsRow number_of first row → used ≤ length row → drop used row ≡ []
      → use_order (row ++ (key, v) ∷ []) (length (row ++ (key, v) ∷ [])) (remove_entry (nat_eq key) rest) ≡ promoted (nat_eq key) (use_order row used rest)
  brought_shown number_of first used numbers within settled =
      shown_all (row ++ (key, v) ∷ []) (remove_entry (nat_eq key) rest)
      ∙ ap (λ l. l ++ remove_entry (nat_eq key) rest) (reversed_push row (key, v))
      ∙ sym brought
      ∙ ap (promoted (nat_eq key)) (sym (settled_shown number_of first used row rest numbers within settled))

-- ---- one is added

pub added_recent : {V : Type 0} (number_of : V → ℕ) (capacity given first : ℕ) (value : V) (es row rest : List (ℕ × V)) → IsDistinct nat_eq (keys_of es) → AreGiven given es → reverse row ++ rest ≡ take capacity ((given, value) ∷ es) → IsRow number_of first row
    → IsRecent number_of capacity (given + 1) first (length row) row rest
added_recent number_of capacity given first value es row rest distinct known is numbers = record {
  numbers = numbers;
  within = omega arith;
  distinct = rw is (distinct_take capacity ((given, value) ∷ es) (IsDistinct-cons nat_eq given (keys_of es) (new_keys given es known) distinct));
  known = rw is (given_added given capacity value es known);
  fits = omega (arith, length-append (reverse row) rest, length-reverse row, ap length is, length-take capacity ((given, value) ∷ es));
}

-- ---- the fields

pub same_last_used : {V : Type 0} (capacity given turn turn' : ℕ) (es es' ahead ahead' : List (ℕ × V)) → es ≡ es' → turn ≡ turn' → ahead ≡ ahead'
    → ◌≡◌ {A = LastUsed V} record { capacity = capacity; entries = es; given = given; turn = turn; ahead = ahead } record { capacity = capacity; entries = es'; given = given; turn = turn'; ahead = ahead' }
same_last_used capacity given turn turn' es es' ahead ahead' e t a = rw (e, t, a) refl
