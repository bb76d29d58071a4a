-- The PDOs of a table in the order of their numbers are those of the numbers from 1 to 512 in theirs.
use Rattle.std.proofs.Common.{◌≡◌, ℕ, zero, suc, ◌+◌, ◌<◌, ◌≤◌, Bool, true, false, cond, List, [], ◌∷◌, ◌++◌}
use Rattle.std.proofs.Common.{All, Option, Some, None, option_map, refl, sym, ap, subst, ◌∙◌, arith}
use Rattle.std.specs.Prelude.{◌==◌, ⊤}
use Rattle.std.specs.BTreeMap.{BTreeMap, is_at, IsOrdered}
use Rattle.std.specs.Cmp.{ranks, unsigned_tied}
use Rattle.std.specs.List.{flat_map, range_with_len}
use Rattle.std.specs.Map.{lookup}
use Rattle.std.specs.Option.{option_map_or}
use Rattle.std.specs.List.Sorted.{IsStrictlySortedBy}
use Rattle.std.specs.Map.{keys_of}
use Rattle.std.specs.declared.cmp.Ordering.{Ordering}
use Rattle.std.specs.declared.cmp.Ordering.TheVariants.{Less}
use Rattle.std.specs.Ordering.{nat_cmp, MatchOrdering}
use Rattle.std.proofs.lemmas.List.Elements.{All-head, All-tail}
use Rattle.std.proofs.lemmas.Map.Keys.{sorted_head, sorted_tail}
use Rattle.base.specs.Ranges.{is_between}
use Rattle.pdo_choices.proofs.RangeLemmas.{between}
use borrow.Author.Tests.{eqb-true}
use Rattle.concise_dcf.specs.declared.write.Write.{Write}
use Rattle.pdo_links.specs.Tables.{IsTableOf}
use Rattle.pdo_links.specs.Writes.{at_number, by_number}
use Rattle.pdo_links.proofs.Tabled.{tabled}

-- keys from a on, rising, below b
abbrev pub IsRising : {X : Type 0} → ℕ → ℕ → List (ℕ × X) → Type 0
IsRising a b [] = ⊤
IsRising a b (e ∷ es) = (a ≤ e.0) × ((e.0 < b) × IsRising (e.0 + 1) b es)

at_same : (a k : ℕ) → a ≡ k → is_at (nat_cmp a) k ≡ true
at_same a k is = unsigned_tied a k ∙ (rw is grind arith)

at_other : (a k : ℕ) → a < k → is_at (nat_cmp a) k ≡ false
at_other a k lt = unsigned_tied a k ∙ grind arith

at_lower : (a k : ℕ) → k < a → is_at (nat_cmp a) k ≡ false
at_lower a k lt = unsigned_tied a k ∙ grind arith

below : (x y : ℕ) → x ≤ y → (x == y) ≡ false → x < y
below x y le other = grind arith

sooner : (x y : ℕ) (o : Ordering) → nat_cmp x y ≡ o → o ≡ Less → MatchOrdering o (x < y) (x ≡ y) (y < x) → x < y
sooner x y o is less m = subst (λ (o : Ordering). MatchOrdering o (x < y) (x ≡ y) (y < x)) less m

rises : (k n : ℕ) → nat_cmp k n ≡ Less → k + 1 ≤ n
rises k n is = let lt : k < n = sooner k n (nat_cmp k n) refl is (ranks k n) in omega arith

module _ {X : Type 0} (f : X → List Write) where
  abbrev pub at_key : List (ℕ × X) → ℕ → List Write
  at_key es n = option_map_or f (lookup (is_at (nat_cmp n)) es) []

  chosen : (b c : Bool) (x : X) (o : Option X) → b ≡ c → cond b (Some x) o ≡ cond c (Some x) o
  chosen b c x o is = ap (λ t. cond t (Some x) o) is

  -- a number below the keys
  none_at : (n a b : ℕ) (es : List (ℕ × X)) → n < a → IsRising a b es → lookup (is_at (nat_cmp n)) es ≡ None
  none_at n a b [] lt rising = refl
  none_at n a b (e ∷ es) lt rising =
      let low : a ≤ e.0 = rising.0 in
      let under : n < e.0 = omega arith in
      let more : n < e.0 + 1 = omega arith in
      chosen (is_at (nat_cmp n) e.0) false e.1 (lookup (is_at (nat_cmp n)) es) (at_other n e.0 under)
      ∙ none_at n (e.0 + 1) b es more rising.1.1

  -- numbers above the first key
  skipped : (a n : ℕ) (e : ℕ × X) (es : List (ℕ × X)) → e.0 < a
      → flat_map (at_key (e ∷ es)) (range_with_len a n) ≡ flat_map (at_key es) (range_with_len a n)
  skipped a zero e es lt = refl
  skipped a (suc n) e es lt =
      let next : e.0 < a + 1 = omega arith in
      ap (λ o. option_map_or f o [] ++ flat_map (at_key (e ∷ es)) (range_with_len (a + 1) n))
      (chosen (is_at (nat_cmp a) e.0) false e.1 (lookup (is_at (nat_cmp a)) es) (at_lower a e.0 lt))
      ∙ ap (λ (ws : List Write). at_key es a ++ ws) (skipped (a + 1) n e es next)

  -- the first key at a number, or above it
  step : (n a : ℕ) (e : ℕ × X) (es : List (ℕ × X)) → IsRising a (a + suc n) (e ∷ es)
      → (IsRising (a + 1) (a + 1 + n) es
      → flat_map (at_key es) (range_with_len (a + 1) n) ≡ flat_map (λ (d : ℕ × X). f d.1) es)
      → (IsRising (a + 1) (a + 1 + n) (e ∷ es)
      → flat_map (at_key (e ∷ es)) (range_with_len (a + 1) n) ≡ flat_map (λ (d : ℕ × X). f d.1) (e ∷ es))
      → (t : Bool) → (a == e.0) ≡ t
      → flat_map (at_key (e ∷ es)) (range_with_len a (suc n)) ≡ flat_map (λ (d : ℕ × X). f d.1) (e ∷ es)
  step n a e es rising after all true is =
      let here : a ≡ e.0 = eqb-true a e.0 is in
      let next : e.0 < a + 1 = omega arith in
      let from : e.0 + 1 ≡ a + 1 = omega arith in
      let to : a + suc n ≡ a + 1 + n = omega arith in
      let later : IsRising (a + 1) (a + 1 + n) es =
      subst (λ k. IsRising k (a + 1 + n) es) from (subst (λ k. IsRising (e.0 + 1) k es) to rising.1.1) in
      ap (λ o. option_map_or f o [] ++ flat_map (at_key (e ∷ es)) (range_with_len (a + 1) n))
      (chosen (is_at (nat_cmp a) e.0) true e.1 (lookup (is_at (nat_cmp a)) es) (at_same a e.0 here))
      ∙ ap (λ (ws : List Write). f e.1 ++ ws) (skipped (a + 1) n e es next ∙ after later)
  step n a e es rising after all false is =
      let under : a < e.0 = below a e.0 rising.0 is in
      let next : a + 1 ≤ e.0 = omega arith in
      let more : a < a + 1 = omega arith in
      let to : a + suc n ≡ a + 1 + n = omega arith in
      let high : e.0 < a + 1 + n = subst (λ k. e.0 < k) to rising.1.0 in
      let later : IsRising (e.0 + 1) (a + 1 + n) es = subst (λ k. IsRising (e.0 + 1) k es) to rising.1.1 in
      let above : IsRising (a + 1) (a + 1 + n) (e ∷ es) = (next, (high, later)) in
      ap (λ o. option_map_or f o [] ++ flat_map (at_key (e ∷ es)) (range_with_len (a + 1) n))
      (none_at a (a + 1) (a + 1 + n) (e ∷ es) more above)
      ∙ all above

  pub in_order : (n a : ℕ) (es : List (ℕ × X)) → IsRising a (a + n) es
      → flat_map (at_key es) (range_with_len a n) ≡ flat_map (λ (e : ℕ × X). f e.1) es
  in_order zero a [] rising = refl
  in_order zero a (e ∷ es) rising =
      let low : a ≤ e.0 = rising.0 in let high : e.0 < a + 0 = rising.1.0 in absurd (omega arith)
  in_order (suc n) a [] rising = in_order n (a + 1) [] tt
  in_order (suc n) a (e ∷ es) rising = step n a e es rising
      (λ r. in_order n (a + 1) es r) (λ r. in_order n (a + 1) (e ∷ es) r) (a == e.0) refl

-- ---- a table

-- the keys of a table rise
module _ {X : Type 0} where
  abbrev IsBetween : ℕ × X → Type 0
  IsBetween e = is_between 1 512 e.0 ≡ true

  high_of : (e : ℕ × X) → IsBetween e → e.0 < 513
  high_of e is = let b = between 1 512 e.0 is in let high : e.0 ≤ 512 = b.1 in omega arith

  rising : (a : ℕ) (e : ℕ × X) (es : List (ℕ × X)) → a ≤ e.0 → IsStrictlySortedBy nat_cmp (keys_of (e ∷ es))
      → All IsBetween (e ∷ es) → IsRising a 513 (e ∷ es)
  rising a e [] low sorted are = (low, (high_of e (All-head IsBetween e [] are), tt))
  rising a e (d ∷ es) low sorted are = (
    low,
    (
      high_of e (All-head IsBetween e (d ∷ es) are),
      rising (e.0 + 1) d es
          (rises e.0 d.0 (sorted_head nat_cmp e.0 (keys_of (d ∷ es)) sorted).0)
          (sorted_tail nat_cmp e.0 (keys_of (d ∷ es)) sorted)
          (All-tail IsBetween e (d ∷ es) are),
    ),
  )

  all_rising : (es : List (ℕ × X)) → IsStrictlySortedBy nat_cmp (keys_of es) → All IsBetween es → IsRising 1 513 es
  all_rising [] sorted are = tt
  all_rising (e ∷ es) sorted are = rising 1 e es (between 1 512 e.0 (All-head IsBetween e es are)).0 sorted are

module _ {X Y : Type 0} (shows : X → Y) (f : Y → List Write) where
  shown_or : (o : Option X) → option_map_or f (option_map shows o) [] ≡ option_map_or (λ x. f (shows x)) o []
  shown_or None = refl
  shown_or (Some x) = refl

  as_shown : (entries : List (ℕ × X)) (pdos : List (ℕ × Y)) → IsTableOf shows entries pdos → (n a : ℕ)
      → flat_map (at_number f pdos) (range_with_len a n)
      ≡ flat_map (at_key (λ x. f (shows x)) entries) (range_with_len a n)
  as_shown entries pdos table zero a = refl
  as_shown entries pdos table (suc n) a =
      ap (λ o. option_map_or f o [] ++ flat_map (at_number f pdos) (range_with_len (a + 1) n))
      (sym (tabled shows entries pdos a table))
      ∙ ap (λ (ws : List Write). ws ++ flat_map (at_number f pdos) (range_with_len (a + 1) n))
      (shown_or (lookup (is_at (nat_cmp a)) entries))
      ∙ ap (λ (ws : List Write). at_key (λ x. f (shows x)) entries a ++ ws) (as_shown entries pdos table n (a + 1))

  -- the writes by number are those of the table in its order
  pub by_table : (table : BTreeMap ℕ X) (pdos : List (ℕ × Y)) → IsOrdered nat_cmp table
      → IsTableOf shows table.entries pdos → All (λ (e : ℕ × X). is_between 1 512 e.0 ≡ true) table.entries
      → by_number f pdos ≡ flat_map (λ (e : ℕ × X). f (shows e.1)) table.entries
  unfolding by_number
  by_table table pdos sorted is are =
      as_shown table.entries pdos is 512 1
      ∙ in_order (λ x. f (shows x)) 512 1 table.entries (all_rising table.entries sorted are)
