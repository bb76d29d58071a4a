-- The entries of a device: in order, and those that some section gives.
use Rattle.std.proofs.Common.{◌≡◌, ℕ, zero, suc, ◌+◌, ◌<◌, ◌≤◌, Bool, true, false, ◌||◌, ◌&&◌, List, [], ◌∷◌, length}
use Rattle.std.proofs.Common.{Option, None, Some, refl, sym, ap, ◌∙◌, arith, inl, inr}
use Rattle.std.specs.Prelude.{if◌then◌else◌, nat_le, ◌==◌, option_map, option_and_then, codes}
use Rattle.std.specs.declared.cmp.Ordering.{Ordering}
use Rattle.std.specs.declared.cmp.Ordering.TheVariants.{Less, Equal, Greater}
use Rattle.std.specs.Ordering.{match_ordering, ordering_reverse, is_eq}
use Rattle.std.specs.BTreeMap.{is_at}
use Rattle.std.specs.BTreeSet.{insert_key}
use Rattle.std.specs.Cmp.{Equal-is, tied_itself}
use Rattle.std.specs.List.{AllByRecursion, find, flat_map, list_any}
use Rattle.std.specs.List.Sorted.{IsStrictlySortedBy}
use Rattle.std.specs.Option.{option_or, option_map_or}
use Rattle.std.proofs.lemmas.Bool.{cases_lt, eqb-true, leb-true}
use Rattle.std.proofs.lemmas.List.Folds.{list_any-append}
use Rattle.base.specs.Digits.{digits_number}
use Rattle.co_dict.proofs.PlaceLemmas.{places_exact, places_total}
use Rattle.co_dict.specs.Places.{place_cmp}
use Rattle.ini_text.specs.Content.{Section}
use Rattle.eds_entries.specs.declared.object_type.ObjectType.{ObjectType}
use Rattle.eds_entries.specs.declared.object_type.ObjectType.TheVariants.{Domain, Variable, Array, Record, Other}
use Rattle.eds_entries.specs.Names.{index_named, place_named}
use Rattle.eds_places.specs.Places.{first_subs, object_places, places_given, put_in_order, pairs_of}
use Rattle.eds_entries.specs.Sections.{is_plain, is_plain_type, is_compact_type, object_type, compact_count, number_at}
use Rattle.eds_entries.specs.Sections.{in_subs}
use Rattle.eds_places.specs.Origins.{Origin, own, compact, is_index, is_place, sub_section, object_section, origin_of}
use Rattle.eds_entries.proofs.NameLemmas.{short_for_place}

-- ---- in order

all_inserted : (P : ℕ × ℕ → Type 0) (xs : List (ℕ × ℕ)) (k : ℕ × ℕ) → AllByRecursion P xs → P k
    → AllByRecursion P (insert_key place_cmp xs k)
all_inserted P [] k h p = (p, tt)
all_inserted P (x ∷ xs) k h p = by (place_cmp k x) (all_inserted P xs k h.1 p)
  where
    by : (o : Ordering) → AllByRecursion P (insert_key place_cmp xs k)
        → AllByRecursion P (match_ordering o (k ∷ x ∷ xs) (x ∷ xs) (x ∷ insert_key place_cmp xs k))
    by Less ih = (p, h)
    by Equal ih = h
    by Greater ih = (h.0, ih)

all_above : (k x : ℕ × ℕ) (xs : List (ℕ × ℕ)) → place_cmp k x ≡ Less → AllByRecursion (λ y. place_cmp x y ≡ Less) xs
    → AllByRecursion (λ y. place_cmp k y ≡ Less) xs
all_above k x [] e h = tt
all_above k x (y ∷ ys) e h = (places_total.trans k x y e h.0, all_above k x ys e h.1)

insert_sorted : (xs : List (ℕ × ℕ)) (k : ℕ × ℕ) → IsStrictlySortedBy place_cmp xs
    → IsStrictlySortedBy place_cmp (insert_key place_cmp xs k)
unfolding IsStrictlySortedBy
insert_sorted [] k h = (tt, tt)
insert_sorted (x ∷ xs) k h = by (place_cmp k x) refl (insert_sorted xs k h.1)
  where
    by : (o : Ordering) → place_cmp k x ≡ o → IsStrictlySortedBy place_cmp (insert_key place_cmp xs k)
        → IsStrictlySortedBy place_cmp (match_ordering o (k ∷ x ∷ xs) (x ∷ xs) (x ∷ insert_key place_cmp xs k))
    by Less e ih = ((e, all_above k x xs e h.0), h)
    by Equal e ih = h
    by Greater e ih =
        (all_inserted (λ y. place_cmp x y ≡ Less) xs k h.0 (places_total.antisymm x k ∙ ap ordering_reverse e), ih)

put_sorted : (done ps : List (ℕ × ℕ)) → IsStrictlySortedBy place_cmp done
    → IsStrictlySortedBy place_cmp (put_in_order done ps)
put_sorted done [] h = h
put_sorted done (p ∷ ps) h = put_sorted (insert_key place_cmp done p) ps (insert_sorted done p h)

-- the entries of a device strictly rise
pub pairs_sorted : (ss : List Section) → IsStrictlySortedBy place_cmp (pairs_of ss)
unfolding pairs_of IsStrictlySortedBy
pairs_sorted ss = put_sorted [] (flat_map places_given ss) tt

-- ---- those that are given

-- whether a list has a place
abbrev pub has_place : ℕ × ℕ → List (ℕ × ℕ) → Bool
has_place q ps = list_any (is_at (place_cmp q)) ps

pub or_false : (a : Bool) → (a || false) ≡ a
or_false true = refl
or_false false = refl

or_true : (a : Bool) → (a || true) ≡ true
or_true true = refl
or_true false = refl

or_swap : (a b : Bool) → (a || b) ≡ (b || a)
or_swap true b = sym (or_true b)
or_swap false b = sym (or_false b)

or_again : (a b : Bool) → (a || b) ≡ ((a || b) || a)
or_again true b = refl
or_again false b = sym (or_false b)

or_group : (a b c : Bool) → (a || (b || c)) ≡ ((a || b) || c)
or_group true b c = refl
or_group false b c = refl

insert_has : (q : ℕ × ℕ) (xs : List (ℕ × ℕ)) (k : ℕ × ℕ)
    → has_place q (insert_key place_cmp xs k) ≡ (has_place q xs || is_at (place_cmp q) k)
insert_has q [] k = or_false (is_at (place_cmp q) k)
insert_has q (x ∷ xs) k = by (place_cmp k x) refl (insert_has q xs k)
  where
    by : (o : Ordering) → place_cmp k x ≡ o → has_place q (insert_key place_cmp xs k)
        ≡ (has_place q xs || is_at (place_cmp q) k)
        → has_place q (match_ordering o (k ∷ x ∷ xs) (x ∷ xs) (x ∷ insert_key place_cmp xs k))
        ≡ ((is_at (place_cmp q) x || has_place q xs) || is_at (place_cmp q) k)
    by Less e ih = or_swap (is_at (place_cmp q) k) (is_at (place_cmp q) x || has_place q xs)
    by Equal e ih = or_again (is_at (place_cmp q) x) (has_place q xs)
        ∙ ap (λ y. (is_at (place_cmp q) x || has_place q xs) || is_at (place_cmp q) y) (sym (places_exact k x e))
    by Greater e ih = ap (λ b. is_at (place_cmp q) x || b) ih ∙ or_group (is_at (place_cmp q) x) (has_place q xs)
        (is_at (place_cmp q) k)

put_has : (q : ℕ × ℕ) (done ps : List (ℕ × ℕ))
    → has_place q (put_in_order done ps) ≡ (has_place q done || has_place q ps)
put_has q done [] = sym (or_false (has_place q done))
put_has q done (p ∷ ps) =
    put_has q (insert_key place_cmp done p) ps ∙ ap (λ b. b || has_place q ps) (insert_has q done p)
    ∙ sym (or_group (has_place q done) (is_at (place_cmp q) p) (has_place q ps))

given_has : (q : ℕ × ℕ) (ss : List Section)
    → has_place q (flat_map places_given ss) ≡ list_any (λ s. has_place q (places_given s)) ss
given_has q [] = refl
given_has q (s ∷ ss) = list_any-append (is_at (place_cmp q)) (places_given s) (flat_map places_given ss)
    ∙ ap (λ b. has_place q (places_given s) || b) (given_has q ss)

-- the entries of a device are those that some section gives
pub pairs_given : (ss : List Section) (q : ℕ × ℕ)
    → has_place q (pairs_of ss) ≡ list_any (λ s. has_place q (places_given s)) ss
unfolding pairs_of
pairs_given ss q = put_has q [] (flat_map places_given ss) ∙ given_has q ss

-- ---- what the rules give is an entry

-- places that compare alike are one
pub alike : (q p : ℕ × ℕ) → is_at (place_cmp q) p ≡ true → q ≡ p
alike q p h = places_exact q p ((Equal-is (place_cmp q p)).0 h)

pub has_itself : (q : ℕ × ℕ) → is_at (place_cmp q) q ≡ true
has_itself q = ap is_eq (tied_itself places_total q)

pub found_passes : {X : Type 0} (test : X → Bool) (xs : List X) (x : X) → find test xs ≡ Some x → test x ≡ true
found_passes test [] x h = cc
found_passes {X} test (y ∷ ys) x h = by (test y) refl (found_passes test ys x) h
  where
    by : (t : Bool) → test y ≡ t → (find test ys ≡ Some x → test x ≡ true)
        → (if t then Some y else find test ys) ≡ Some x → test x ≡ true
    by true e ih g = let same : y ≡ x = cc in ap test (sym same) ∙ e
    by false e ih g = ih g

found_any : {X : Type 0} (test P : X → Bool) (xs : List X) (x : X) → find test xs ≡ Some x → P x ≡ true
    → list_any P xs ≡ true
found_any test P [] x h p = cc
found_any {X} test P (y ∷ ys) x h p = by (test y) (λ g. found_any test P ys x g p) h
  where
    by : (t : Bool) → (find test ys ≡ Some x → list_any P ys ≡ true) → (if t then Some y else find test ys) ≡ Some x
        → (P y || list_any P ys) ≡ true
    by true ih g = let same : y ≡ x = cc in ap (λ z. P z || list_any P ys) same ∙ ap (λ b. b || list_any P ys) p
    by false ih g = ap (λ b. P y || b) (ih g) ∙ or_true (P y)

pub index_is : (index : ℕ) (o : Option ℕ) → is_index index o ≡ true → o ≡ Some index
index_is index None h = cc
index_is index (Some n) h = ap Some (sym (eqb-true index n h))

place_is : (q : ℕ × ℕ) (o : Option (ℕ × ℕ)) → is_place q o ≡ true → o ≡ Some q
place_is q None h = cc
place_is q (Some p) h = by (q.0 == p.0) (q.1 == p.1) refl refl h
  where
    by : (a b : Bool) → (q.0 == p.0) ≡ a → (q.1 == p.1) ≡ b → (a && b) ≡ true → Some p ≡ Some q
    by true true x y g = let e0 = eqb-true q.0 p.0 x in let e1 = eqb-true q.1 p.1 y in λ i. Some (sym e0 i, sym e1 i)
    by true false x y g = cc
    by false b x y g = cc

named_length : (name : List ℕ) (n : ℕ) → index_named name ≡ Some n → length name ≡ 4
unfolding index_named
named_length name n h = by (length name == 4) refl h
  where
    by : (t : Bool) → (length name == 4) ≡ t → (if t then digits_number 16 name else None) ≡ Some n → length name ≡ 4
    by true e g = eqb-true (length name) 4 e
    by false e g = cc

-- a section that is named for an object gives the entries of that
of_object : (s : Section) (index : ℕ) → is_index index (index_named s.name) ≡ true
    → places_given s ≡ object_places s index
unfolding places_given
of_object s index h =
    let named = index_is index (index_named s.name) h in
    let few : length s.name < 7 = omega (arith, named_length s.name index named) in
    rw (short_for_place s.name few, named) refl

first_subs_has : (index sub n : ℕ) → sub < n → has_place (index, sub) (first_subs index n) ≡ true
first_subs_has index sub zero h = absurd (omega arith)
first_subs_has index sub (suc n) h =
    list_any-append (is_at (place_cmp (index, sub))) (first_subs index n) ((index, n) ∷ []) ∙ elim (cases_lt sub n) [
      | inl lt ↦ ap (λ b. b || has_place (index, sub) ((index, n) ∷ [])) (first_subs_has index sub n lt)
      | inr ge ↦
          let same : sub ≡ n = omega arith in
          ap (λ m. has_place (index, sub) (first_subs index n) || has_place (index, sub) ((index, m) ∷ [])) (sym same)
          ∙ ap (λ b. has_place (index, sub) (first_subs index n) || (b || false)) (has_itself (index, sub))
          ∙ or_true (has_place (index, sub) (first_subs index n))
    ]

plain_not_compact : (s : Section) (n : ℕ) → is_plain s ≡ true → compact_count s ≡ Some n → ⊥
unfolding is_plain compact_count
plain_not_compact s n p e = by (object_type s) p e
  where
    by : (o : ObjectType) → is_plain_type o ≡ true
        → (if is_compact_type o then option_and_then in_subs (number_at s (codes "CompactSubObj")) else None) ≡ Some n
        → ⊥
    by Variable p e = cc
    by Domain p e = cc
    by Array p e = cc
    by Record p e = cc
    by Other p e = cc

plain_has : (s : Section) (index : ℕ) → is_plain s ≡ true → has_place (index, 0) (object_places s index) ≡ true
plain_has s index p = rw p (first_subs_has index 0 1 (omega arith))

compact_has : (s : Section) (index sub n : ℕ) → compact_count s ≡ Some n → sub ≤ n
    → has_place (index, sub) (object_places s index) ≡ true
compact_has s index sub n e le = by (is_plain s) refl
  where
    by : (t : Bool) → is_plain s ≡ t → has_place (index, sub)
        (if t then first_subs index 1 else option_map_or (λ m. first_subs index (m + 1)) (compact_count s) []) ≡ true
    by true p = absurd (plain_not_compact s n p e)
    by false p = rw e (first_subs_has index sub (n + 1) (omega arith))

-- the object's own section gives what rules 2 and 3 find in it
object_given : (s : Section) (index sub : ℕ) (src : Origin) → let rule2 : Option Origin = if sub == 0
    then (if is_plain s then Some (own s) else None) else None in
    option_or rule2 (option_and_then (λ n. if nat_le sub n then Some (compact s n) else None) (compact_count s))
    ≡ Some src → has_place (index, sub) (object_places s index) ≡ true
object_given s index sub src h = by (sub == 0) (is_plain s) refl refl h
  where
    counted : (o : Option ℕ) → compact_count s ≡ o
        → option_and_then (λ n. if nat_le sub n then Some (compact s n) else None) o ≡ Some src
        → has_place (index, sub) (object_places s index) ≡ true
    counted None e g = cc
    counted (Some n) e g = within (nat_le sub n) refl g
      where
        within : (t : Bool) → nat_le sub n ≡ t → (let here : Option Origin = if t then Some (compact s n) else None
            in here ≡ Some src) → has_place (index, sub) (object_places s index) ≡ true
        within true le f = compact_has s index sub n e (leb-true sub n le)
        within false le f = cc

    by : (a b : Bool) → (sub == 0) ≡ a → is_plain s ≡ b
        → (let rule2 : Option Origin = if a then (if b then Some (own s) else None) else None in
        option_or rule2 (option_and_then (λ n. if nat_le sub n then Some (compact s n) else None) (compact_count s))
        ≡ Some src) → has_place (index, sub) (object_places s index) ≡ true
    by true true z p g = rw (eqb-true sub 0 z) (plain_has s index p)
    by true false z p g = counted (compact_count s) refl g
    by false b z p g = counted (compact_count s) refl g

-- an entry that a rule gives is an entry of the device
pub origin_has : (ss : List Section) (index sub : ℕ) (src : Origin) → origin_of ss index sub ≡ Some src
    → has_place (index, sub) (pairs_of ss) ≡ true
unfolding origin_of sub_section object_section places_given
origin_has ss index sub src h = pairs_given ss (index, sub)
    ∙ by (sub_section ss index sub) (object_section ss index) refl refl h
  where
    of_sub : (s : Section) → sub_section ss index sub ≡ Some s
        → list_any (λ x. has_place (index, sub) (places_given x)) ss ≡ true
    of_sub s e =
        let test = found_passes (λ x. is_place (index, sub) (place_named x.name)) ss s e in
        let named = place_is (index, sub) (place_named s.name) test in
        let gives : has_place (index, sub) (places_given s)
        ≡ true = rw named (ap (λ b. b || false) (has_itself (index, sub))) in
        found_any (λ x. is_place (index, sub) (place_named x.name))
        (λ x. has_place (index, sub) (places_given x)) ss s e gives

    of_index : (s : Section) → object_section ss index ≡ Some s → has_place (index, sub) (object_places s index) ≡ true
        → list_any (λ x. has_place (index, sub) (places_given x)) ss ≡ true
    of_index s e has =
        let test = found_passes (λ x. is_index index (index_named x.name)) ss s e in
        found_any (λ x. is_index index (index_named x.name))
        (λ x. has_place (index, sub) (places_given x)) ss s e (ap (has_place (index, sub)) (of_object s index test)
        ∙ has)

    no_object : (t : Bool) → (let none : Option Origin = None in option_or (if t then none else none) none ≡ Some src)
        → ⊥
    no_object true g = cc
    no_object false g = cc

    by : (o p : Option Section) → sub_section ss index sub ≡ o → object_section ss index ≡ p
        → option_or (option_map own o)
        (option_or (if sub == 0 then option_and_then (λ s. if is_plain s then Some (own s) else None) p else None)
        (option_and_then (λ s. option_and_then (λ n. if nat_le sub n then Some (compact s n) else None)
        (compact_count s)) p)) ≡ Some src
        → list_any (λ s. has_place (index, sub) (places_given s)) ss ≡ true
    by (Some s) p e f g = of_sub s e
    by None None e f g = absurd (no_object (sub == 0) g)
    by None (Some s) e f g = of_index s f (object_given s index sub src g)
