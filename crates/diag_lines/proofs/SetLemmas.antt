-- Lists that are sets: two with the same elements are one list, and each list has one.
use Rattle.std.proofs.Common.{◌≡◌, ◌↔◌, ◌⊎◌, inl, inr, List, [], ◌∷◌, Contains, refl, sym, subst, ◌∙◌}
use Rattle.std.specs.List.{AllByRecursion}
use Rattle.std.specs.List.Sorted.{IsStrictlySortedBy}
use Rattle.std.specs.declared.cmp.Ordering.{Ordering}
use Rattle.std.specs.declared.cmp.Ordering.TheVariants.{Less, Equal, Greater}
use Rattle.std.specs.Ordering.{match_ordering, ordering_reverse}
use Rattle.std.specs.Cmp.{IsTotalOrder}
use Rattle.std.specs.BTreeSet.{insert_key}
use Rattle.std.proofs.lemmas.Cmp.{tied_itself}
use Rattle.std.proofs.lemmas.Map.Lookups.{CmpEqualImpliesEq}
use Rattle.diag_lines.specs.Sets.{IsListOf, sorted_set}
use Rattle.diag_lines.proofs.ListLemmas.{Contains-nil, Contains-first, Contains-later, Contains-cases}

module _ {X : Type 0} where
  all_from : (P : X → Type 0) (xs : List X) → ((x : X) → Contains xs x → P x) → AllByRecursion P xs
  all_from P [] h = tt
  all_from P (x ∷ xs) h = (h x (Contains-first x xs), all_from P xs (λ y c. h y (Contains-later x xs y c)))

  all_to : (P : X → Type 0) (xs : List X) (x : X) → AllByRecursion P xs → Contains xs x → P x
  all_to P [] x all c = absurd (Contains-nil x c)
  all_to P (y ∷ xs) x all c = by (Contains-cases y xs x c) (all_to P xs x all.1)
    where
      by : (y ≡ x) ⊎ Contains xs x → (Contains xs x → P x) → P x
      by (inl e) rest = subst P e all.0
      by (inr c) rest = rest c

module _ {X : Type 0} {cmp : X → X → Ordering} (total : IsTotalOrder cmp) where
  not_below_itself : (x y : X) → cmp x y ≡ Less → x ≡ y → ⊥
  not_below_itself x y less e = let tied : cmp x y ≡ Equal = subst (λ z. cmp x z ≡ Equal) e (tied_itself total x) in cc

  not_both : (x y : X) → cmp x y ≡ Less → cmp y x ≡ Less → ⊥
  not_both x y less more = not_below_itself x x (total.trans x y x less more) refl

  -- the first of two lists that have the same
  first_same : (x y : X) (xs ys : List X) → AllByRecursion (λ z. cmp x z ≡ Less) xs
      → AllByRecursion (λ z. cmp y z ≡ Less) ys
      → Contains (y ∷ ys) x → Contains (x ∷ xs) y → x ≡ y
  first_same x y xs ys below_x below_y there here = by (Contains-cases y ys x there) (Contains-cases x xs y here)
    where
      by : (y ≡ x) ⊎ Contains ys x → (x ≡ y) ⊎ Contains xs y → x ≡ y
      by (inl e) d = sym e
      by (inr c) (inl e) = e
      by (inr c) (inr d) = absurd (not_both x y (all_to _ xs y below_x d) (all_to _ ys x below_y c))

  -- what follows the first
  rest_same : (x y : X) (xs ys : List X) → x ≡ y → AllByRecursion (λ z. cmp x z ≡ Less) xs
      → ((z : X) → Contains (x ∷ xs) z → Contains (y ∷ ys) z)
      → (z : X) → Contains xs z → Contains ys z
  rest_same x y xs ys e below f z c = by (Contains-cases y ys z (f z (Contains-later x xs z c)))
    where
      by : (y ≡ z) ⊎ Contains ys z → Contains ys z
      by (inl same) = absurd (not_below_itself x z (all_to _ xs z below c) (e ∙ same))
      by (inr d) = d

  pub same_lists : (xs ys : List X) → IsStrictlySortedBy cmp xs → IsStrictlySortedBy cmp ys
      → ((z : X) → Contains xs z → Contains ys z) → ((z : X) → Contains ys z → Contains xs z) → xs ≡ ys
  unfolding IsStrictlySortedBy
  same_lists [] [] sx sy f g = refl
  same_lists [] (y ∷ ys) sx sy f g = absurd (Contains-nil y (g y (Contains-first y ys)))
  same_lists (x ∷ xs) [] sx sy f g = absurd (Contains-nil x (f x (Contains-first x xs)))
  same_lists (x ∷ xs) (y ∷ ys) sx sy f g =
      let e : x ≡ y = first_same x y xs ys sx.0 sy.0 (f x (Contains-first x xs)) (g y (Contains-first y ys)) in
      let rest : xs ≡ ys = same_lists xs ys sx.1 sy.1 (rest_same x y xs ys e sx.0 f)
      (rest_same y x ys xs (sym e) sy.0 g) in
      λ i. e i ∷ rest i

  -- THE LIST IS DETERMINED by what holds
  pub one_list : (Holds : X → Type 0) (xs ys : List X) → IsListOf cmp Holds xs → IsListOf cmp Holds ys → xs ≡ ys
  one_list Holds xs ys a b = same_lists xs ys a.in_order b.in_order (λ z c. (b.exact z).1 ((a.exact z).0 c))
      (λ z c. (a.exact z).1 ((b.exact z).0 c))

  module _ (exact : CmpEqualImpliesEq cmp) where
    -- what is in a list after an insert
    inserted : (xs : List X) (k x : X) → Contains (insert_key cmp xs k) x → (k ≡ x) ⊎ Contains xs x
    inserted [] k x c = Contains-cases k [] x c
    inserted (y ∷ xs) k x c = by (cmp k y) c (inserted xs k x)
      where
        by : (o : Ordering) → Contains (match_ordering o (k ∷ y ∷ xs) (y ∷ xs) (y ∷ insert_key cmp xs k)) x
            → (Contains (insert_key cmp xs k) x → (k ≡ x) ⊎ Contains xs x) → (k ≡ x) ⊎ Contains (y ∷ xs) x
        by Less c rest = Contains-cases k (y ∷ xs) x c
        by Equal c rest = inr c
        by Greater c rest = later (Contains-cases y (insert_key cmp xs k) x c)
          where
            after : (k ≡ x) ⊎ Contains xs x → (k ≡ x) ⊎ Contains (y ∷ xs) x
            after (inl e) = inl e
            after (inr d) = inr (Contains-later y xs x d)

            later : (y ≡ x) ⊎ Contains (insert_key cmp xs k) x → (k ≡ x) ⊎ Contains (y ∷ xs) x
            later (inl e) = inr (subst (λ z. Contains (y ∷ xs) z) e (Contains-first y xs))
            later (inr d) = after (rest d)

    has_inserted : (xs : List X) (k : X) → Contains (insert_key cmp xs k) k
    has_inserted [] k = Contains-first k []
    has_inserted (y ∷ xs) k = by (cmp k y) refl (has_inserted xs k)
      where
        by : (o : Ordering) → cmp k y ≡ o → Contains (insert_key cmp xs k) k
            → Contains (match_ordering o (k ∷ y ∷ xs) (y ∷ xs) (y ∷ insert_key cmp xs k)) k
        by Less e rest = Contains-first k (y ∷ xs)
        by Equal e rest = subst (λ z. Contains (y ∷ xs) z) (sym (exact k y e)) (Contains-first y xs)
        by Greater e rest = Contains-later y (insert_key cmp xs k) k rest

    still_has : (xs : List X) (k x : X) → Contains xs x → Contains (insert_key cmp xs k) x
    still_has [] k x c = absurd (Contains-nil x c)
    still_has (y ∷ xs) k x c = by (cmp k y) (still_has xs k x)
      where
        by : (o : Ordering) → (Contains xs x → Contains (insert_key cmp xs k) x)
            → Contains (match_ordering o (k ∷ y ∷ xs) (y ∷ xs) (y ∷ insert_key cmp xs k)) x
        by Less rest = Contains-later k (y ∷ xs) x c
        by Equal rest = c
        by Greater rest = at (Contains-cases y xs x c)
          where
            at : (y ≡ x) ⊎ Contains xs x → Contains (y ∷ insert_key cmp xs k) x
            at (inl e) = subst (λ z. Contains (y ∷ insert_key cmp xs k) z) e (Contains-first y (insert_key cmp xs k))
            at (inr d) = Contains-later y (insert_key cmp xs k) x (rest d)

    reversed : (x y : X) → cmp x y ≡ Greater → cmp y x ≡ Less
    reversed x y e = by (cmp y x) (total.antisymm x y)
      where
        by : (o : Ordering) → cmp x y ≡ ordering_reverse o → o ≡ Less
        by Less a = refl
        by Equal a = cc
        by Greater a = cc

    in_order : (xs : List X) (k : X) → IsStrictlySortedBy cmp xs → IsStrictlySortedBy cmp (insert_key cmp xs k)
    unfolding IsStrictlySortedBy
    in_order [] k s = (tt, tt)
    in_order (y ∷ xs) k s = by (cmp k y) refl (in_order xs k s.1)
      where
        by : (o : Ordering) → cmp k y ≡ o → IsStrictlySortedBy cmp (insert_key cmp xs k)
            → IsStrictlySortedBy cmp (match_ordering o (k ∷ y ∷ xs) (y ∷ xs) (y ∷ insert_key cmp xs k))
        by Less e rest = ((e, all_from _ xs (λ z c. total.trans k y z e (all_to _ xs z s.0 c))), s)
        by Equal e rest = s
        by Greater e rest = (all_from _ (insert_key cmp xs k) (λ z c. at z (inserted xs k z c)), rest)
          where
            at : (z : X) → (k ≡ z) ⊎ Contains xs z → cmp y z ≡ Less
            at z (inl same) = subst (λ w. cmp y w ≡ Less) same (reversed k y e)
            at z (inr c) = all_to _ xs z s.0 c

    set_in_order : (xs : List X) → IsStrictlySortedBy cmp (sorted_set cmp xs)
    unfolding sorted_set IsStrictlySortedBy
    set_in_order [] = tt
    set_in_order (x ∷ xs) = in_order (sorted_set cmp xs) x (set_in_order xs)

    set_from : (xs : List X) (x : X) → Contains (sorted_set cmp xs) x → Contains xs x
    unfolding sorted_set
    set_from [] x c = c
    set_from (y ∷ xs) x c = by (inserted (sorted_set cmp xs) y x c) (set_from xs x)
      where
        by : (y ≡ x) ⊎ Contains (sorted_set cmp xs) x → (Contains (sorted_set cmp xs) x → Contains xs x)
            → Contains (y ∷ xs) x
        by (inl e) rest = subst (λ z. Contains (y ∷ xs) z) e (Contains-first y xs)
        by (inr d) rest = Contains-later y xs x (rest d)

    set_has : (xs : List X) (x : X) → Contains xs x → Contains (sorted_set cmp xs) x
    unfolding sorted_set
    set_has [] x c = c
    set_has (y ∷ xs) x c = by (Contains-cases y xs x c) (set_has xs x)
      where
        by : (y ≡ x) ⊎ Contains xs x → (Contains xs x → Contains (sorted_set cmp xs) x)
            → Contains (insert_key cmp (sorted_set cmp xs) y) x
        by (inl e) rest =
            subst (λ z. Contains (insert_key cmp (sorted_set cmp xs) y) z) e (has_inserted (sorted_set cmp xs) y)
        by (inr d) rest = still_has (sorted_set cmp xs) y x (rest d)

    -- each list has one
    pub set_is : (Holds : X → Type 0) (xs : List X) → ((x : X) → Contains xs x ↔ Holds x)
        → IsListOf cmp Holds (sorted_set cmp xs)
    set_is Holds xs is = record {
      in_order = set_in_order xs;
      exact = λ x. ((λ c. (is x).0 (set_from xs x c)), (λ h. set_has xs x ((is x).1 h)));
    }

    -- a list in order that has what another has is the other's set
    pub the_set : (old new : List X) → IsStrictlySortedBy cmp new → ((x : X) → Contains new x ↔ Contains old x)
        → new ≡ sorted_set cmp old
    the_set old new sorted same =
        one_list (Contains old) new (sorted_set cmp old) (record { in_order = sorted; exact = same })
        (set_is (Contains old) old (λ x. ((λ c. c), (λ c. c))))

    -- lists that have the same have one set
    pub same_sets : (xs ys : List X) → ((x : X) → Contains xs x ↔ Contains ys x) → sorted_set cmp xs ≡ sorted_set cmp ys
    same_sets xs ys same = the_set ys (sorted_set cmp xs) (set_in_order xs)
        (λ x. ((λ c. (same x).0 (set_from xs x c)), (λ c. set_has xs x ((same x).1 c))))
