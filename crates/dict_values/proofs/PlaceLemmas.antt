-- What the map that a tree's entries make has at a place.
use Rattle.std.proofs.Common.{◌≡◌, ◌≢◌, ℕ, Bool, List, [], ◌∷◌, length, Option, Some, true, false, cond, ◌&&◌, T, refl}
use Rattle.std.proofs.Common.{sym, ap, subst, ◌∙◌}
use Rattle.std.proofs.lemmas.Bool.{false≢true}
use Rattle.std.specs.declared.cmp.Ordering.{Ordering}
use Rattle.std.specs.declared.cmp.Ordering.TheVariants.{Less, Equal, Greater}
use Rattle.std.specs.Ordering.{nat_cmp, is_eq, is_lt, eq_by_cmp}
use Rattle.std.specs.Cmp.{IsTotalOrder, eq_by_cmp_equiv, tied_itself}
use Rattle.std.specs.List.{AllByRecursion}
use Rattle.std.specs.List.Sorted.{IsStrictlySortedBy}
use Rattle.std.specs.Map.{lookup, keys_of}
use Rattle.std.specs.BTreeMap.{is_at}
use Rattle.std.specs.FinMap.{FinMap, entries, entries-from_sorted, find, from_entries, get, get-from_entries}
use Rattle.std.specs.FinMap.{get-from_sorted, get-insert, insert, is_sorted, len, len-entries, same_map}
use Rattle.std.specs.FinMap.Entries.{below_all}
use Rattle.std.proofs.lemmas.Map.Lookups.{CmpEqualImpliesEq, exact_pairs, exact_unsigned}
use Rattle.std.proofs.lemmas.Cmp.{on_total, then_total, nat_cmp_total}
use Rattle.dict_values.specs.Places.{place_cmp}

-- places that compare alike are one
pub places_exact : CmpEqualImpliesEq place_cmp
places_exact = exact_pairs nat_cmp nat_cmp exact_unsigned exact_unsigned

pub places_total : IsTotalOrder place_cmp
places_total = then_total (on_total (λ (p : ℕ × ℕ). p.0) nat_cmp_total) (on_total (λ (p : ℕ × ℕ). p.1) nat_cmp_total)

pub both : (a b : Bool) → T a → T b → T (a && b)
both true b p q = q
both false b p q = p

pub part_first : (a b : Bool) → T (a && b) → T a
part_first true b h = tt
part_first false b h = h

pub part_second : (a b : Bool) → T (a && b) → T b
part_second true b h = h
part_second false b h = absurd h

module _ {X : Type 0} where
  abbrev pub value_at : List ((ℕ × ℕ) × X) → ℕ × ℕ → Option X
  value_at es q = lookup (is_at (place_cmp q)) es

  find_place : (es : List ((ℕ × ℕ) × X)) (q : ℕ × ℕ) → find place_cmp q es ≡ value_at es q
  find_place [] q = refl
  find_place (e ∷ es) q = ap (cond (is_at (place_cmp q) e.0) (Some e.1)) (find_place es q)

  -- what the map that the entries make has at a place
  pub get_place : (es : List ((ℕ × ℕ) × X)) (q : ℕ × ℕ) → get (from_entries {R = place_cmp} es) q ≡ value_at es q
  get_place es q = get-from_entries places_total es q ∙ find_place es q

  -- entries that differ at one place make maps that differ there
  pub one_written : (es fs : List ((ℕ × ℕ) × X)) (k : ℕ × ℕ) (v : X)
      → ((q : ℕ × ℕ) → value_at fs q ≡ cond (is_at (place_cmp k) q) (Some v) (value_at es q))
      → from_entries {R = place_cmp} fs ≡ insert (from_entries es) k v
  one_written es fs k v h = same_map places_total places_exact _ _ (λ q.
      get_place fs q ∙ h q ∙ ap (λ b. cond b (Some v) (value_at es q)) ((eq_by_cmp_equiv places_total).symm k q)
      ∙ sym (get-insert places_total (from_entries es) k v q
      ∙ ap (cond (is_at (place_cmp q) k) (Some v)) (get_place es q)))

  below_all_from : (x : ℕ × ℕ) (es : List ((ℕ × ℕ) × X)) → AllByRecursion (λ y. place_cmp x y ≡ Less) (keys_of es)
      → T (below_all place_cmp x es)
  below_all_from x [] h = tt
  below_all_from x (e ∷ es) h = both _ _ (subst (λ r. T (is_lt r)) (sym h.0) tt) (below_all_from x es h.1)

  is_sorted_from : (es : List ((ℕ × ℕ) × X)) → IsStrictlySortedBy place_cmp (keys_of es) → T (is_sorted place_cmp es)
  unfolding IsStrictlySortedBy
  is_sorted_from [] h = tt
  is_sorted_from (e ∷ es) h = both _ _ (below_all_from e.0 es h.0) (is_sorted_from es h.1)

  -- the entries of a map that a tree's entries make are those of the tree
  pub entries_made : (es : List ((ℕ × ℕ) × X)) → IsStrictlySortedBy place_cmp (keys_of es)
      → entries (from_entries {R = place_cmp} es) ≡ es
  entries_made es h =
      let sorted : T (is_sorted place_cmp es) = is_sorted_from es h in
      ap entries (same_map places_total places_exact _ _ (λ q. get-from_entries places_total es q
      ∙ sym (get-from_sorted place_cmp es q sorted))) ∙ entries-from_sorted place_cmp es sorted

  -- and as many
  pub len_made : (es : List ((ℕ × ℕ) × X)) → IsStrictlySortedBy place_cmp (keys_of es)
      → len (from_entries {R = place_cmp} es) ≡ length es
  len_made es h = len-entries (from_entries es) ∙ ap length (entries_made es h)

-- a map with one entry set has it there
pub written_there : {X : Type 0} (m : FinMap place_cmp X) (k : ℕ × ℕ) (v : X) → get (insert m k v) k ≡ Some v
written_there m k v = get-insert places_total m k v k
    ∙ ap (λ r. cond (is_eq r) (Some v) (get m k)) (tied_itself places_total k)

pub tied : (r : Ordering) → is_eq r ≡ true → r ≡ Equal
tied Less e = absurd (false≢true e)
tied Equal e = refl
tied Greater e = absurd (false≢true e)

not_true : (t : Bool) → (t ≡ true → ⊥) → t ≡ false
not_true true denied = absurd (denied refl)
not_true false denied = refl

-- and the others as they were
pub written_elsewhere : {X : Type 0} (m : FinMap place_cmp X) (k q : ℕ × ℕ) (v : X) → q ≢ k
    → get (insert m k v) q ≡ get m q
written_elsewhere m k q v other =
    get-insert places_total m k v q
    ∙ ap (λ b. cond b (Some v) (get m q)) (not_true (eq_by_cmp place_cmp q k)
    (λ e. other (places_exact q k (tied _ e))))

pub ruleset written_alone = (written_there, written_elsewhere)

-- to insert the value that a place has changes nothing
module _ {X : Type 0} (m : FinMap place_cmp X) (k : ℕ × ℕ) (v : X) (has : get m k ≡ Some v) where
  pub inserted_again : insert m k v ≡ m
  inserted_again = same_map places_total places_exact (insert m k v) m (λ q. get-insert places_total m k v q
      ∙ by q (eq_by_cmp place_cmp q k) refl)
    where
      by : (q : ℕ × ℕ) (b : Bool) → eq_by_cmp place_cmp q k ≡ b → cond b (Some v) (get m q) ≡ get m q
      by q true e = sym (ap (get m) (places_exact q k (tied (place_cmp q k) e)) ∙ has)
      by q false e = refl
