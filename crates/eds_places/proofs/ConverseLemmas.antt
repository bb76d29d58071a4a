-- The entries of a text are those that a rule gives.
use Rattle.std.proofs.Common.{◌≡◌, ℕ, zero, suc, ◌+◌, ◌<◌, Bool, true, false, ◌||◌, ◌&&◌, List, [], ◌∷◌, length, get_or}
use Rattle.std.proofs.Common.{Option, None, Some, ◌↔◌, refl, sym, ap, ◌∙◌, arith}
use Rattle.std.specs.Prelude.{if◌then◌else◌, ◌==◌, nat_le, option_map, option_and_then, is_some}
use Rattle.std.specs.BTreeMap.{is_at}
use Rattle.std.specs.List.{Contains, find}
use Rattle.std.specs.Option.{option_or, option_map_or}
use Rattle.std.proofs.lemmas.Bool.{eq-eqb, le-leb}
use Rattle.std.proofs.lemmas.List.Folds.{list_any-append}
use Rattle.co_dict.specs.Places.{place_cmp}
use Rattle.ini_text.specs.Content.{Section, content_of}
use Rattle.eds_entries.specs.Names.{index_named, place_named}
use Rattle.eds_places.specs.Places.{first_subs, object_places, places_given, pairs_of}
use Rattle.eds_entries.specs.Sections.{is_plain, compact_count}
use Rattle.eds_places.specs.Origins.{Origin, own, compact, is_index, is_place, sub_section, object_section, from_object}
use Rattle.eds_places.specs.Origins.{from_compact, origin_of}
use Rattle.eds_places.proofs.GivenLemmas.{given_by_some, contains_has, rules_give}
use Rattle.eds_places.proofs.OnceLemmas.{AreNamedOnce, read_named_once}
use Rattle.eds_places.proofs.PlaceLemmas.{alike, has_place, index_is, found_passes, or_false}

-- a place among the first subs of an object is one of them
among_subs : (index n : ℕ) (q : ℕ × ℕ) → has_place q (first_subs index n) ≡ true → (q.0 ≡ index) × (q.1 < n)
among_subs index zero q h = cc
among_subs index (suc n) q h = by (has_place q (first_subs index n))
    (is_at (place_cmp q) (index, n)) refl refl (sym (list_any-append (is_at (place_cmp q)) (first_subs index n)
    ((index, n) ∷ [])) ∙ h) (among_subs index n q)
  where
    by : (a t : Bool) → has_place q (first_subs index n) ≡ a → is_at (place_cmp q) (index, n) ≡ t
        → (a || (t || false)) ≡ true → (has_place q (first_subs index n) ≡ true → (q.0 ≡ index) × (q.1 < n))
        → (q.0 ≡ index) × (q.1 < suc n)
    by true t e g k ih = let r = ih e in (r.0, omega (arith, r.1))
    by false true e g k ih = let same = alike q (index, n) g
        in (ap (λ (p : ℕ × ℕ). p.0) same, omega (arith, ap (λ (p : ℕ × ℕ). p.1) same))
    by false false e g k ih = cc

-- what an object's own section gives, rules 2 and 3 find in it
object_origin : (s : Section) (index : ℕ) (q : ℕ × ℕ) → has_place q (object_places s index) ≡ true → (q.0 ≡ index)
    × (let rule2 : Option Origin = if q.1 == 0 then (if is_plain s then Some (own s) else None) else None in
    is_some (option_or rule2 (option_and_then (λ n. if nat_le q.1 n then Some (compact s n) else None)
    (compact_count s))) ≡ true)
object_origin s index q h = by (is_plain s) (compact_count s) refl refl h
  where
    zero_is : (b : Bool) (o : Option Origin) → (q.1 == 0) ≡ b → q.1 < 1
        → is_some (option_or (let rule2 : Option Origin = if b then Some (own s) else None in rule2) o) ≡ true
    zero_is true o e lt = refl
    zero_is false o e lt = let z : q.1 ≡ 0 = omega (arith, lt) in let t : (q.1 == 0) ≡ true = eq-eqb q.1 0 z in cc

    plain_none : (b : Bool) (o : Option Origin) → is_some o ≡ true
        → is_some (option_or (let none : Option Origin = None in if b then none else none) o) ≡ true
    plain_none true o e = e
    plain_none false o e = e

    within : (n : ℕ) (b : Bool) → nat_le q.1 n ≡ b → q.1 < n + 1
        → (let o : Option Origin = if b then Some (compact s n) else None in is_some o ≡ true)
    within n true e lt = refl
    within n false e lt = let t : nat_le q.1 n ≡ true = le-leb q.1 n (omega (arith, lt)) in cc

    by : (p : Bool) (c : Option ℕ) → is_plain s ≡ p → compact_count s ≡ c
        → has_place q (if p then first_subs index 1 else option_map_or (λ n. first_subs index (n + 1)) c []) ≡ true
        → (q.0 ≡ index)
        × (let rule2 : Option Origin = if q.1 == 0 then (if p then Some (own s) else None) else None in
        is_some (option_or rule2 (option_and_then (λ n. if nat_le q.1 n then Some (compact s n) else None) c)) ≡ true)
    by true c e g k = let r = among_subs index 1 q k
        in (
          r.0,
          zero_is (q.1 == 0)
              (option_and_then (λ n. if nat_le q.1 n then Some (compact s n) else None) c) refl r.1,
        )
    by false None e g k = cc
    by false (Some n) e g k = let r = among_subs index (n + 1) q k
        in (
          r.0,
          plain_none (q.1 == 0) (if nat_le q.1 n then Some (compact s n) else None)
              (within n (nat_le q.1 n) refl r.1),
        )

found_there : {X : Type 0} (test : X → Bool) (xs : List X) (x : X) (k : ℕ) → k < length xs → get_or xs k x ≡ x
    → test x ≡ true → find test xs ≡ None → ⊥
found_there test [] x k lt is p h = absurd (omega arith)
found_there {X} test (y ∷ ys) x k lt is p h = by (test y) refl h k lt is (found_there test ys x)
  where
    by : (t : Bool) → test y ≡ t → (if t then Some y else find test ys) ≡ None → (j : ℕ) → j < length (y ∷ ys)
        → get_or (y ∷ ys) j x ≡ x
        → ((i : ℕ) → i < length ys → get_or ys i x ≡ x → test x ≡ true → find test ys ≡ None → ⊥) → ⊥
    by true e g j l same ih = cc
    by false e g zero l same ih = let no : test x ≡ false = ap test (sym same) ∙ e in cc
    by false e g (suc j) l same ih = ih j (omega arith) same p g

found_in : {X : Type 0} (test : X → Bool) (xs : List X) (x : X) → find test xs ≡ Some x → Contains xs x
found_in test [] x h = cc
found_in {X} test (y ∷ ys) x h = by (test y) h (found_in test ys x)
  where
    by : (t : Bool) → (if t then Some y else find test ys) ≡ Some x → (find test ys ≡ Some x → Contains ys x)
        → Contains (y ∷ ys) x
    by true g ih = let same : y ≡ x = cc in (0, omega arith, same)
    by false g ih = let r = ih g in (suc r.0, omega (arith, r.1), r.2)

sub_there : (ss : List Section) (index sub : ℕ) (s : Section) → Contains ss s → place_named s.name ≡ Some (index, sub)
    → sub_section ss index sub ≡ None → ⊥
unfolding sub_section
sub_there ss index sub s c named h =
    let test : is_place (index, sub) (place_named s.name)
    ≡ true = rw named (ap (λ b. b && (sub == sub)) (eq-eqb index index refl) ∙ eq-eqb sub sub refl) in
    found_there (λ x. is_place (index, sub) (place_named x.name)) ss s c.0 c.1 c.2 test h

object_there : (ss : List Section) (index : ℕ) (s : Section) → Contains ss s → index_named s.name ≡ Some index
    → object_section ss index ≡ None → ⊥
unfolding object_section
object_there ss index s c named h =
    let test : is_index index (index_named s.name) ≡ true = rw named (eq-eqb index index refl) in
    found_there (λ x. is_index index (index_named x.name)) ss s c.0 c.1 c.2 test h

object_in : (ss : List Section) (index : ℕ) (t : Section) → object_section ss index ≡ Some t
    → Contains ss t × (index_named t.name ≡ Some index)
unfolding object_section
object_in ss index t h = (
  found_in (λ x. is_index index (index_named x.name)) ss t h,
  index_is index (index_named t.name) (found_passes (λ x. is_index index (index_named x.name)) ss t h),
)

in_object : (ss : List Section) (index sub : ℕ) (s : Section) → AreNamedOnce ss → Contains ss s
    → index_named s.name ≡ Some index
    → (let rule2 : Option Origin = if sub == 0 then (if is_plain s then Some (own s) else None) else None
    in is_some (option_or rule2 (option_and_then (λ n. if nat_le sub n then Some (compact s n) else None)
    (compact_count s))) ≡ true)
    → is_some (option_or (from_object ss index sub) (from_compact ss index sub)) ≡ true
in_object ss index sub s once c named g = by (object_section ss index) refl
  where
    by : (o : Option Section) → object_section ss index ≡ o
        → is_some (option_or (if sub == 0 then option_and_then (λ x. if is_plain x then Some (own x) else None) o
        else None)
        (option_and_then (λ x. option_and_then (λ n. if nat_le sub n then Some (compact x n) else None)
        (compact_count x)) o)) ≡ true
    by None e = absurd (object_there ss index s c named e)
    by (Some t) e = let r = object_in ss index t e in let same : t ≡ s = once t s index r.0 c r.1 named in rw same g

-- each entry has an origin, where no two sections are named for one object
entries_have : (ss : List Section) (index sub : ℕ) → AreNamedOnce ss → Contains (pairs_of ss) (index, sub)
    → is_some (origin_of ss index sub) ≡ true
unfolding origin_of places_given
entries_have ss index sub once h =
    let given = (given_by_some ss (index, sub)).0 h in
    by given.0 given.1.0 (place_named given.0.name)
    (index_named given.0.name) refl refl (contains_has (index, sub) (places_given given.0) given.1.1)
  where
    of_sub : (s : Section) → Contains ss s → place_named s.name ≡ Some (index, sub) → (o : Option Section)
        → sub_section ss index sub ≡ o
        → is_some (option_or (option_map own o) (option_or (from_object ss index sub) (from_compact ss index sub)))
        ≡ true
    of_sub s c named None e = absurd (sub_there ss index sub s c named e)
    of_sub s c named (Some t) e = refl

    or_later : (o : Option Section) → is_some (option_or (from_object ss index sub) (from_compact ss index sub)) ≡ true
        → is_some (option_or (option_map own o) (option_or (from_object ss index sub) (from_compact ss index sub)))
        ≡ true
    or_later None e = e
    or_later (Some t) e = refl

    by : (s : Section) → Contains ss s → (o : Option (ℕ × ℕ)) (p : Option ℕ) → place_named s.name ≡ o
        → index_named s.name ≡ p
        → has_place (index, sub) (option_map_or (λ (q : ℕ × ℕ). q ∷ []) o (option_map_or (object_places s) p [])) ≡ true
        → is_some (option_or (option_map own (sub_section ss index sub))
        (option_or (from_object ss index sub) (from_compact ss index sub))) ≡ true
    by s c (Some q) p e f g =
        let same : (index, sub) ≡ q = alike (index, sub) q (sym (or_false (is_at (place_cmp (index, sub)) q)) ∙ g) in
        of_sub s c (e ∙ ap Some (sym same)) (sub_section ss index sub) refl
    by s c None (Some i) e f g =
        let r = object_origin s i (index, sub) g in
        or_later (sub_section ss index sub) (in_object ss index sub s once c (f ∙ ap Some (sym r.0)) r.1)
    by s c None None e f g = cc

some_is : {X : Type 0} (o : Option X) → is_some o ≡ true → (x : X) × (o ≡ Some x)
some_is None h = cc
some_is (Some x) h = (x, refl)

-- the entries of a text are those that a rule gives
pub given_by_rules : (text : List ℕ) (index sub : ℕ) → let ss = (content_of text).sections
    in Contains (pairs_of ss) (index, sub) ↔ (is_some (origin_of ss index sub) ≡ true)
given_by_rules text index sub =
    let ss = (content_of text).sections in (
      entries_have ss index sub (read_named_once text),
      λ h. let given = some_is (origin_of ss index sub) h
          in rules_give ss index sub given.0 given.1,
    )
