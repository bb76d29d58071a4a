-- What holds of each key and its value in a table, and tables to which entries are put one after the other.
use Rattle.std.proofs.Common.{◌≡◌, ℕ, ◌+◌, ◌-◌, ◌≤◌, Bool, true, false, cond, not, ◌&&◌, T, List, [], ◌∷◌, Option, Some}
use Rattle.std.proofs.Common.{None, IfSome, is_some, All, refl, sym, ap, subst, ◌∙◌, arith}
use Rattle.std.proofs.lemmas.Bool.{leb-false, or_parts}
use Rattle.std.proofs.lemmas.List.Elements.{All-nil, All-cons, All-head, All-tail}
use Rattle.std.proofs.lemmas.List.Folds.{list_any_none}
use Rattle.std.proofs.lemmas.Map.Lookups.{CmpEqualImpliesEq}
use Rattle.std.specs.declared.cmp.Ordering.{Ordering}
use Rattle.std.specs.declared.cmp.Ordering.TheVariants.{Less, Equal, Greater}
use Rattle.std.specs.Ordering.{is_eq, is_lt, eq_by_cmp}
use Rattle.std.specs.Prelude.{nat_le}
use Rattle.std.specs.Cmp.{IsTotalOrder, tied_itself}
use Rattle.std.specs.List.{list_any}
use Rattle.std.specs.Option.{option_or}
use Rattle.std.specs.FinMap.{FinMap, contains_key, empty, entries, entries_sorted, find, get, get-empty, get-entries}
use Rattle.std.specs.FinMap.{get-insert, get-remove, insert, is_sorted, len, len-insert, len-remove, remove, same_map}
use Rattle.std.specs.FinMap.Entries.{below_all}
use Rattle.base.proofs.TableLemmas.{alike}
use Rattle.base.specs.Tables.{Each}

-- a test that no element passes fails at each
none_passes : {X : Type 0} (test : X → Bool) (xs : List X) → list_any test xs ≡ false → All (λ x. test x ≡ false) xs
none_passes test [] h = All-nil (λ x. test x ≡ false)
none_passes test (x ∷ xs) h = let parts = or_parts (test x) (list_any test xs) h
    in All-cons (λ x. test x ≡ false) x xs parts.0 (none_passes test xs parts.1)

-- a test that fails beside one that passes
and_true : (t : Bool) → (t && true) ≡ false → t ≡ false
and_true true h = h
and_true false h = h

-- tests that hold together
pub both : (a b : Bool) → T a → T b → T (a && b)
both true b h k = k
both false b h k = h

pub first_part : (a b : Bool) → T (a && b) → T a
first_part true b h = tt
first_part false b h = h

pub second_part : (a b : Bool) → T (a && b) → T b
second_part true b h = h
second_part false b h = absurd h

less : (o : Ordering) → T (is_lt o) → is_eq o ≡ false
less Less h = refl
less Equal h = absurd h
less Greater h = refl

weaker : {X : Type 0} (P Q : X → Type 0) (o : Option X) → ((v : X) → o ≡ Some v → P v → Q v) → IfSome o P → IfSome o Q
weaker P Q None h is = tt
weaker P Q (Some v) h is = h v refl is

every : {X : Type 0} (o : Option X) → IfSome o (λ v. o ≡ Some v)
every None = tt
every (Some v) = refl

pub find_below : {K X : Type 0} (R : K → K → Ordering) (q : K) (es : List (K × X)) → T (below_all R q es)
    → find R q es ≡ None
find_below R q [] h = refl
find_below R q (e ∷ es) h = ap (λ t. cond t (Some e.1) (find R q es)) (less (R q e.0) (first_part _ _ h))
    ∙ find_below R q es (second_part _ _ h)

-- entries put one after the other
unfoldable pub put_all : {K X : Type 0} {R : K → K → Ordering} → FinMap R X → List (K × X) → FinMap R X
put_all m [] = m
put_all m (e ∷ es) = put_all (insert m e.0 e.1) es

module _ {K X : Type 0} {R : K → K → Ordering} where
  -- what holds of each value that is found
  pub each_found : (P : K → X → Type 0) (m : FinMap R X) (k : K) (v : X) → Each P m → get m k ≡ Some v → P k v
  each_found P m k v each found = subst (λ (o : Option X). IfSome o (P k)) found (each k)

  -- nothing is found in no entries
  pub each_empty : (P : K → X → Type 0) (m : FinMap R X) → m ≡ empty → Each P m
  each_empty P m none k = subst (λ (o : Option X). IfSome o (P k)) (sym (ap (λ t. get t k) none ∙ get-empty R k)) tt

  -- what follows of each value that is found
  pub each_weaker : (P Q : K → X → Type 0) (m : FinMap R X) → ((k : K) (v : X) → get m k ≡ Some v → P k v → Q k v)
      → Each P m → Each Q m
  each_weaker P Q m h each k = weaker (P k) (Q k) (get m k) (h k) (each k)

  -- each value is found
  pub each_there : (m : FinMap R X) → Each (λ k v. get m k ≡ Some v) m
  each_there m k = every (get m k)

  -- a key that is still known
  pub known_after_put : IsTotalOrder R → (m : FinMap R X) (k q : K) (v : X) → contains_key m q ≡ true
      → contains_key (insert m k v) q ≡ true
  known_after_put total m k q v known = ap is_some (get-insert total m k v q) ∙ by (eq_by_cmp R q k) known
    where
      by : (t : Bool) → is_some (get m q) ≡ true → is_some (cond t (Some v) (get m q)) ≡ true
      by true h = refl
      by false h = h

  -- a table with room for a key has room for its value
  pub room_for : IsTotalOrder R → (most : ℕ) (m : FinMap R X) (k : K) (v : X) → len m ≤ most
      → (nat_le most (len m) && not (contains_key m k)) ≡ false → len (insert m k v) ≤ most
  room_for total most m k v small room = rw (len-insert total m k v) (by (contains_key m k) room)
    where
      by : (t : Bool) → (nat_le most (len m) && not t) ≡ false → cond t (len m) (len m + 1) ≤ most
      by true h = small
      by false h = let below = leb-false most (len m) (and_true _ h) in omega arith

  -- at most one entry more
  pub one_more : IsTotalOrder R → (m : FinMap R X) (k : K) (v : X) → len (insert m k v) ≤ len m + 1
  one_more total m k v = rw (len-insert total m k v) (by (contains_key m k))
    where
      by : (t : Bool) → cond t (len m) (len m + 1) ≤ len m + 1
      by true = omega arith
      by false = omega arith

  -- and no more where one is taken away
  pub fewer : IsTotalOrder R → (m : FinMap R X) (k : K) (most : ℕ) → len m ≤ most → len (remove m k) ≤ most
  fewer total m k most small = rw (len-remove total m k) (by (contains_key m k))
    where
      by : (t : Bool) → cond t (len m - 1) (len m) ≤ most
      by true = omega arith
      by false = small

module _ {K X : Type 0} {R : K → K → Ordering} (total : IsTotalOrder R) (exact : CmpEqualImpliesEq R) where
  -- what holds of each value and of a new one
  pub each_put : (P : K → X → Type 0) (m : FinMap R X) (k : K) (v : X) → Each P m → P k v → Each P (insert m k v)
  each_put P m k v each new q = subst (λ (o : Option X). IfSome o (P q)) (sym (get-insert total m k v q))
      (by (eq_by_cmp R q k) refl)
    where
      by : (t : Bool) → eq_by_cmp R q k ≡ t → IfSome (cond t (Some v) (get m q)) (P q)
      by true same = subst (λ (x : K). P x v) (sym (alike total exact q k same)) new
      by false other = each q

  -- what holds of each value holds of those that are left
  pub each_removed : (P : K → X → Type 0) (m : FinMap R X) (k : K) → Each P m → Each P (remove m k)
  each_removed P m k each q = subst (λ (o : Option X). IfSome o (P q)) (sym (get-remove total m k q))
      (by (eq_by_cmp R q k))
    where
      by : (t : Bool) → IfSome (cond t None (get m q)) (P q)
      by true = tt
      by false = each q

  -- what holds of each value holds of the entries
  all_from : (P : K → X → Type 0) (es : List (K × X)) → T (is_sorted R es) → ((q : K) → IfSome (find R q es) (P q))
      → All (λ e. P e.0 e.1) es
  all_from P [] sorted each = All-nil _
  all_from P (e ∷ es) sorted each =
      All-cons (λ x. P x.0 x.1) e es (subst (λ o. IfSome (cond (is_eq o) (Some e.1) (find R e.0 es)) (P e.0))
      (tied_itself total e.0) (each e.0))
      (all_from P es (second_part _ _ sorted) (λ q. by q (eq_by_cmp R q e.0) refl (each q)))
    where
      by : (q : K) (t : Bool) → eq_by_cmp R q e.0 ≡ t → IfSome (cond t (Some e.1) (find R q es)) (P q)
          → IfSome (find R q es) (P q)
      by q true same h = subst (λ (o : Option X). IfSome o (P q))
          (sym (ap (λ x. find R x es) (alike total exact q e.0 same) ∙ find_below R e.0 es (first_part _ _ sorted))) tt
      by q false other h = h

  pub all_entries : (P : K → X → Type 0) (m : FinMap R X) → Each P m → All (λ e. P e.0 e.1) (entries m)
  all_entries P m each = all_from P (entries m) (entries_sorted m)
      (λ q. subst (λ (o : Option X). IfSome o (P q)) (get-entries m q) (each q))

  -- and the other way round
  each_from : (P : K → X → Type 0) (es : List (K × X)) → All (λ e. P e.0 e.1) es → (q : K) → IfSome (find R q es) (P q)
  each_from P [] all q = tt
  each_from P (e ∷ es) all q = by (eq_by_cmp R q e.0) refl (each_from P es (All-tail (λ x. P x.0 x.1) e es all) q)
    where
      by : (t : Bool) → eq_by_cmp R q e.0 ≡ t → IfSome (find R q es) (P q)
          → IfSome (cond t (Some e.1) (find R q es)) (P q)
      by true same h = subst (λ (x : K). P x e.1) (sym (alike total exact q e.0 same))
          (All-head (λ x. P x.0 x.1) e es all)
      by false other h = h

  -- a test that no entry passes fails at each value
  pub each_fails : (test : K × X → Bool) (m : FinMap R X) → list_any test (entries m) ≡ false
      → Each (λ k v. test (k, v) ≡ false) m
  each_fails test m none k = subst (λ (o : Option X). IfSome o (λ v. test (k, v) ≡ false)) (sym (get-entries m k))
      (each_from (λ k v. test (k, v) ≡ false) (entries m) (none_passes test (entries m) none) k)

  -- one that fails at each value, no entry passes
  pub none_pass : (test : K × X → Bool) (m : FinMap R X) → Each (λ k v. test (k, v) ≡ false) m
      → list_any test (entries m) ≡ false
  none_pass test m each = list_any_none test (entries m) (all_entries (λ k v. test (k, v) ≡ false) m each)

  -- ---- entries put one after the other

  -- what is found once they are put
  pub get-put_all : (m : FinMap R X) (es : List (K × X)) → T (is_sorted R es) → (q : K)
      → get (put_all m es) q ≡ option_or (find R q es) (get m q)
  unfolding put_all
  get-put_all m [] sorted q = refl
  get-put_all m (e ∷ es) sorted q =
      get-put_all (insert m e.0 e.1) es (second_part _ _ sorted) q
      ∙ ap (option_or (find R q es)) (get-insert total m e.0 e.1 q) ∙ by (eq_by_cmp R q e.0) refl
    where
      by : (t : Bool) → eq_by_cmp R q e.0 ≡ t → option_or (find R q es) (cond t (Some e.1) (get m q))
          ≡ option_or (cond t (Some e.1) (find R q es)) (get m q)
      by true same = ap (λ o. option_or o (Some e.1))
          (ap (λ x. find R x es) (alike total exact q e.0 same) ∙ find_below R e.0 es (first_part _ _ sorted))
      by false other = refl

  -- all entries of a table, put to none, make it
  pub made_again : (m : FinMap R X) → put_all empty (entries m) ≡ m
  made_again m = same_map total exact _ _ (λ q.
      get-put_all empty (entries m) (entries_sorted m) q ∙ ap (option_or (find R q (entries m))) (get-empty R q)
      ∙ by (find R q (entries m)) ∙ sym (get-entries m q))
    where
      by : (o : Option X) → option_or o None ≡ o
      by None = refl
      by (Some v) = refl
