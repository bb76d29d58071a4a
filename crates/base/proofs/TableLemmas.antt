-- Finite maps: what they have once an entry is put or taken away, and those that a tree's entries make.
use Rattle.std.proofs.Common.{◌≡◌, ◌≢◌, Bool, true, false, cond, ◌&&◌, T, List, [], ◌∷◌, length, Some, None, refl, sym}
use Rattle.std.proofs.Common.{ap, subst, ◌∙◌}
use Rattle.std.proofs.lemmas.Bool.{false_from_ne_true}
use Rattle.std.specs.declared.cmp.Ordering.{Ordering}
use Rattle.std.specs.declared.cmp.Ordering.TheVariants.{Less}
use Rattle.std.specs.Ordering.{is_eq, is_lt, eq_by_cmp}
use Rattle.std.specs.Cmp.{IsTotalOrder, Equal-is, eq_by_cmp_equiv, tied_itself}
use Rattle.std.specs.List.{AllByRecursion}
use Rattle.std.specs.List.Sorted.{IsStrictlySortedBy}
use Rattle.std.specs.Map.{lookup, keys_of}
use Rattle.std.specs.BTreeMap.{is_at}
use Rattle.std.specs.FinMap.{FinMap, entries, entries-from_sorted, find, from_entries, get, get-from_entries}
use Rattle.std.specs.FinMap.{get-from_sorted, get-insert, get-remove, insert, is_sorted, len, len-entries, remove}
use Rattle.std.specs.FinMap.{same_map}
use Rattle.std.specs.FinMap.Entries.{below_all}
use Rattle.std.proofs.lemmas.Map.Lookups.{CmpEqualImpliesEq}

both : (a b : Bool) → T a → T b → T (a && b)
both true b p q = q
both false b p q = p

-- tests of keys that are given twice or in another order
seen_once : {A : Type 0} (t : Bool) (x y z : A) → cond t x (cond t y z) ≡ cond t x z
seen_once true x y z = refl
seen_once false x y z = refl

swapped : {A : Type 0} (t u : Bool) (x y z : A) → (t ≡ true → u ≡ false) → cond t x (cond u y z) ≡ cond u y (cond t x z)
swapped true u x y z apart = rw (apart refl) refl
swapped false u x y z apart = refl

module _ {K : Type 0} {R : K → K → Ordering} (total : IsTotalOrder R) (exact : CmpEqualImpliesEq R) where
  -- a key that ties is the same
  pub alike : (q k : K) → eq_by_cmp R q k ≡ true → q ≡ k
  alike q k tie = exact q k ((Equal-is (R q k)).0 tie)

  -- other keys don't tie
  pub apart : (q k : K) → q ≢ k → eq_by_cmp R q k ≡ false
  apart q k other = false_from_ne_true (eq_by_cmp R q k) (λ tie. other (alike q k tie))

  -- whether keys tie, seen from either
  turned : (k q : K) → is_at (R k) q ≡ eq_by_cmp R q k
  turned k q = (eq_by_cmp_equiv total).symm k q

  module _ {X : Type 0} where
    -- a key that is given a value has it
    pub put_there : (m : FinMap R X) (k : K) (v : X) → get (insert m k v) k ≡ Some v
    put_there m k v = get-insert total m k v k ∙ ap (λ r. cond (is_eq r) (Some v) (get m k)) (tied_itself total k)

    -- the others have theirs
    pub put_elsewhere : (m : FinMap R X) (k q : K) (v : X) → q ≢ k → get (insert m k v) q ≡ get m q
    put_elsewhere m k q v other = get-insert total m k v q ∙ ap (λ t. cond t (Some v) (get m q)) (apart q k other)

    -- a key whose value is taken away has none
    pub removed_there : (m : FinMap R X) (k : K) → get (remove m k) k ≡ None
    removed_there m k = get-remove total m k k ∙ ap (λ r. cond (is_eq r) None (get m k)) (tied_itself total k)

    -- the others have theirs
    pub removed_elsewhere : (m : FinMap R X) (k q : K) → q ≢ k → get (remove m k) q ≡ get m q
    removed_elsewhere m k q other = get-remove total m k q ∙ ap (λ t. cond t None (get m q)) (apart q k other)

    -- a value that is put where it is
    pub put_again : (m : FinMap R X) (k : K) (v : X) → get m k ≡ Some v → insert m k v ≡ m
    put_again m k v there = same_map total exact _ _ (λ q. get-insert total m k v q ∙ by q (eq_by_cmp R q k) refl)
      where
        by : (q : K) (t : Bool) → eq_by_cmp R q k ≡ t → cond t (Some v) (get m q) ≡ get m q
        by q true same = sym there ∙ ap (get m) (sym (alike q k same))
        by q false other = refl

    -- what is put last counts
    pub put_twice : (m : FinMap R X) (k : K) (v w : X) → insert (insert m k v) k w ≡ insert m k w
    put_twice m k v w = same_map total exact _ _ (λ q.
        get-insert total (insert m k v) k w q
        ∙ ap (cond (eq_by_cmp R q k) (Some w)) (get-insert total m k v q)
        ∙ seen_once (eq_by_cmp R q k) (Some w) (Some v) (get m q)
        ∙ sym (get-insert total m k w q))

    -- different keys may be given their values in any order
    pub put_in_any_order : (m : FinMap R X) (k l : K) (v w : X) → k ≢ l
        → insert (insert m k v) l w ≡ insert (insert m l w) k v
    put_in_any_order m k l v w other = same_map total exact _ _ (λ q.
        get-insert total (insert m k v) l w q
        ∙ ap (cond (eq_by_cmp R q l) (Some w)) (get-insert total m k v q)
        ∙ swapped (eq_by_cmp R q l) (eq_by_cmp R q k) (Some w) (Some v) (get m q)
        (λ tie. apart q k (λ same. other (sym same ∙ alike q l tie)))
        ∙ ap (cond (eq_by_cmp R q k) (Some v)) (sym (get-insert total m l w q))
        ∙ sym (get-insert total (insert m l w) k v q))

    -- ---- the map that a tree's entries make

    find_is : (es : List (K × X)) (q : K) → find R q es ≡ lookup (is_at (R q)) es
    find_is [] q = refl
    find_is (e ∷ es) q = ap (cond (is_at (R q) e.0) (Some e.1)) (find_is es q)

    -- it has what the tree has
    pub get_made : (es : List (K × X)) (q : K) → get (from_entries {R = R} es) q ≡ lookup (is_at (R q)) es
    get_made es q = get-from_entries total es q ∙ find_is es q

    -- trees that differ by one entry that is put
    pub made_put : (es fs : List (K × X)) (k : K) (v : X)
        → ((q : K) → lookup (is_at (R q)) fs ≡ cond (is_at (R k) q) (Some v) (lookup (is_at (R q)) es))
        → from_entries {R = R} fs ≡ insert (from_entries es) k v
    made_put es fs k v h = same_map total exact _ _ (λ q.
        get_made fs q ∙ h q ∙ ap (λ t. cond t (Some v) (lookup (is_at (R q)) es)) (turned k q)
        ∙ sym (get-insert total (from_entries es) k v q ∙ ap (cond (eq_by_cmp R q k) (Some v)) (get_made es q)))

    -- and by one that is taken away
    pub made_removed : (es fs : List (K × X)) (k : K)
        → ((q : K) → lookup (is_at (R q)) fs ≡ cond (is_at (R k) q) None (lookup (is_at (R q)) es))
        → from_entries {R = R} fs ≡ remove (from_entries es) k
    made_removed es fs k h = same_map total exact _ _ (λ q.
        get_made fs q ∙ h q ∙ ap (λ t. cond t None (lookup (is_at (R q)) es)) (turned k q)
        ∙ sym (get-remove total (from_entries es) k q ∙ ap (cond (eq_by_cmp R q k) None) (get_made es q)))

    below_all_from : (x : K) (es : List (K × X)) → AllByRecursion (λ y. R x y ≡ Less) (keys_of es)
        → T (below_all R x es)
    below_all_from x [] h = tt
    below_all_from x (e ∷ es) h = both _ _ (subst (λ r. T (is_lt r)) (sym h.0) tt) (below_all_from x es h.1)

    pub is_sorted_from : (es : List (K × X)) → IsStrictlySortedBy R (keys_of es) → T (is_sorted R es)
    unfolding IsStrictlySortedBy
    is_sorted_from [] h = tt
    is_sorted_from (e ∷ es) h = both _ _ (below_all_from e.0 es h.0) (is_sorted_from es h.1)

    -- its entries are those of the tree
    pub entries_made : (es : List (K × X)) → IsStrictlySortedBy R (keys_of es) → entries (from_entries {R = R} es) ≡ es
    entries_made es h =
        let sorted : T (is_sorted R es) = is_sorted_from es h in
        ap entries (same_map total exact _ _ (λ q. get-from_entries total es q ∙ sym (get-from_sorted R es q sorted)))
        ∙ entries-from_sorted R es sorted

    -- and as many
    pub len_made : (es : List (K × X)) → IsStrictlySortedBy R (keys_of es) → len (from_entries {R = R} es) ≡ length es
    len_made es h = len-entries (from_entries es) ∙ ap length (entries_made es h)
