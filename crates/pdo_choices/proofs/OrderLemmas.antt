-- The nodes that sinks name stand by number, each once.
use Rattle.std.proofs.Common.{◌≡◌, ℕ, zero, suc, List, [], ◌∷◌, map, Some, option_map, refl, ap, subst, ◌∙◌}
use Rattle.std.specs.List.{slice_get, AllByRecursion}
use Rattle.std.specs.List.Sorted.{IsStrictlySortedBy}
use Rattle.std.specs.BTreeSet.{insert_key}
use Rattle.std.specs.declared.cmp.Ordering.{Ordering}
use Rattle.std.specs.declared.cmp.Ordering.TheVariants.{Less, Equal, Greater}
use Rattle.std.specs.Ordering.{nat_cmp, match_ordering, ordering_reverse}
use Rattle.std.proofs.lemmas.Cmp.{tied_itself, nat_cmp_total}
use Rattle.pdo_choices.specs.Consumers.{Sinks, nodes_put, consumers_of}

-- a number more: all are so, where it is
pub all_inserted : (P : ℕ → Type 0) (xs : List ℕ) (k : ℕ) → AllByRecursion P xs → P k
    → AllByRecursion P (insert_key nat_cmp xs k)
all_inserted P [] k h p = (p, tt)
all_inserted P (x ∷ xs) k h p = by (nat_cmp k x) (all_inserted P xs k h.1 p)
  where
    by : (o : Ordering) → AllByRecursion P (insert_key nat_cmp xs k)
        → AllByRecursion P (match_ordering o (k ∷ x ∷ xs) (x ∷ xs) (x ∷ insert_key nat_cmp xs k))
    by Less ih = (p, h)
    by Equal ih = h
    by Greater ih = (h.0, ih)

all_above : (k x : ℕ) (xs : List ℕ) → nat_cmp k x ≡ Less → AllByRecursion (λ y. nat_cmp x y ≡ Less) xs
    → AllByRecursion (λ y. nat_cmp k y ≡ Less) xs
all_above k x [] e h = tt
all_above k x (y ∷ ys) e h = (nat_cmp_total.trans k x y e h.0, all_above k x ys e h.1)

insert_sorted : (xs : List ℕ) (k : ℕ) → IsStrictlySortedBy nat_cmp xs
    → IsStrictlySortedBy nat_cmp (insert_key nat_cmp xs k)
unfolding IsStrictlySortedBy
insert_sorted [] k h = (tt, tt)
insert_sorted (x ∷ xs) k h = by (nat_cmp k x) refl (insert_sorted xs k h.1)
  where
    by : (o : Ordering) → nat_cmp k x ≡ o → IsStrictlySortedBy nat_cmp (insert_key nat_cmp xs k)
        → IsStrictlySortedBy nat_cmp (match_ordering o (k ∷ x ∷ xs) (x ∷ xs) (x ∷ insert_key nat_cmp xs k))
    by Less e ih = ((e, all_above k x xs e h.0), h)
    by Equal e ih = h
    by Greater e ih =
        (all_inserted (λ y. nat_cmp x y ≡ Less) xs k h.0 (nat_cmp_total.antisymm x k ∙ ap ordering_reverse e), ih)

put_sorted : (nodes : List ℕ) (sinks : Sinks) → IsStrictlySortedBy nat_cmp nodes
    → IsStrictlySortedBy nat_cmp (nodes_put nodes sinks)
put_sorted nodes [] h = h
put_sorted nodes (s ∷ ss) h = put_sorted (insert_key nat_cmp nodes s.0.1) ss (insert_sorted nodes s.0.1 h)

pub consumers_sorted : (sinks : Sinks) → IsStrictlySortedBy nat_cmp (consumers_of sinks)
unfolding consumers_of IsStrictlySortedBy
consumers_sorted sinks = put_sorted [] sinks tt

below_at : (x : ℕ) (xs : List ℕ) (k y : ℕ) → AllByRecursion (λ y. nat_cmp x y ≡ Less) xs → slice_get xs k ≡ Some y
    → nat_cmp x y ≡ Less
below_at x [] k y all e = cc
below_at x (z ∷ xs) zero y all e = let same : z ≡ y = cc in subst (λ n. nat_cmp x n ≡ Less) same all.0
below_at x (z ∷ xs) (suc k) y all e = below_at x xs k y all.1 e

not_itself : (x y : ℕ) → x ≡ y → nat_cmp x y ≡ Less → ⊥
not_itself x y e less = let equal : nat_cmp x y
    ≡ Equal = subst (λ n. nat_cmp x n ≡ Equal) e (tied_itself nat_cmp_total x) in cc

-- in an ascending list a number stands once
pub once : (xs : List ℕ) (a b n : ℕ) → IsStrictlySortedBy nat_cmp xs → slice_get xs a ≡ Some n → slice_get xs b ≡ Some n
    → a ≡ b
unfolding IsStrictlySortedBy
once [] a b n s ea eb = cc
once (x ∷ xs) zero zero n s ea eb = refl
once (x ∷ xs) zero (suc b) n s ea eb = let same : x ≡ n = cc in absurd (not_itself x n same (below_at x xs b n s.0 eb))
once (x ∷ xs) (suc a) zero n s ea eb = let same : x ≡ n = cc in absurd (not_itself x n same (below_at x xs a n s.0 ea))
once (x ∷ xs) (suc a) (suc b) n s ea eb = ap suc (once xs a b n s.1 ea eb)

pub get_map : {X Y : Type 0} (f : X → Y) (xs : List X) (k : ℕ) (x : X) → slice_get xs k ≡ Some x
    → slice_get (map f xs) k ≡ Some (f x)
get_map f [] k x e = cc
get_map f (y ∷ xs) zero x e = ap (option_map f) e
get_map f (y ∷ xs) (suc k) x e = get_map f xs k x e
