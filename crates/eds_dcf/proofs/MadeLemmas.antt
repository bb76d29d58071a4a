-- The sections that are made: by index, and as the walk over the entries makes them.
use Rattle.std.proofs.Common.{◌≡◌, ◌==◌, ℕ, zero, suc, ◌+◌, ◌<◌, ◌≤◌, Bool, true, false, cond, ◌||◌, List, [], ◌∷◌}
use Rattle.std.proofs.Common.{filter_map, Option, None, Some, is_some, option_and_then, option_map, nat_le, length, ◌^◌}
use Rattle.std.proofs.Common.{inl, inr, ◌⊎◌, refl, sym, ap, subst, ◌∙◌, arith}
use Rattle.std.proofs.lemmas.Bool.{and_parts, cases_lt, false≢true, eqb-true, ltb-true}
use Rattle.std.proofs.lemmas.Bool.Decides.{nat_tests}
use Rattle.std.proofs.lemmas.Int.Digits.{digits_value-lt}
use Rattle.std.specs.BTreeMap.{is_at}
use Rattle.std.specs.Char.{digit_value, is_digit}
use Rattle.std.specs.declared.cmp.Ordering.TheVariants.{Less}
use Rattle.std.specs.List.{AllByRecursion, cons_option, find, list_all, range_with_len}
use Rattle.std.specs.List.Sorted.{IsStrictlySortedBy}
use Rattle.std.specs.Option.{option_or}
use Rattle.std.specs.Str.Parse.{AllDigits, digits_value}
use Rattle.ini_text.specs.Content.{Section}
use Rattle.co_dict.specs.Places.{place_cmp}
use Rattle.base.specs.Digits.{digits_number}
use Rattle.eds_places.proofs.PlaceLemmas.{alike, found_passes, has_place, index_is, origin_has, pairs_sorted}
use Rattle.eds_device.specs.Names.{index_named}
use Rattle.eds_device.specs.Origins.{Origin, own, compact, is_index, object_section, origin_of, sub_section}
use Rattle.eds_device.specs.Origins.{values_section}
use Rattle.eds_device.specs.Places.{pairs_of}
use Rattle.eds_device.specs.Sections.{compact_count, is_plain}
use Rattle.eds_device.specs.Sheets.{Sheet}
use Rattle.eds_dcf.specs.Compact.{compact_object, made_section, new_values, values_set}
use Rattle.eds_dcf.specs.Dcf.{indices, made_sections}

-- what an index gives, at sub 0 of its object
abbrev pub at_first : {X : Type 0} → (ℕ → Option X) → ℕ × ℕ → Option X
at_first h place = cond (place.1 == 0) (h place.0) None

-- places at sub 0 are in the order of their indices
rises : (p q : ℕ × ℕ) → place_cmp p q ≡ Less → p.1 ≡ 0 → q.1 ≡ 0 → p.0 < q.0
rises p q less first second = grind (arith, nat_tests)

none_of : {X : Type 0} (o : Option X) → (is_some o ≡ true → ⊥) → o ≡ None
none_of None denied = refl
none_of (Some x) denied = absurd (denied refl)

module _ {X : Type 0} (h : ℕ → Option X) where
  -- the places at sub 0 begin with an index, each index from there that gives something has one, and none does past
  -- the end
  pub record Walks (n a : ℕ) (ps : List (ℕ × ℕ)) : Type 0 where
    pub sorted : IsStrictlySortedBy place_cmp ps
    pub from : AllByRecursion (λ p. p.1 ≡ 0 → a ≤ p.0) ps
    pub has : (k : ℕ) → a ≤ k → is_some (h k) ≡ true → has_place (k, 0) ps ≡ true
    pub beyond : (k : ℕ) → a + n ≤ k → h k ≡ None

  later : (p : ℕ × ℕ) (ps : List (ℕ × ℕ)) → p.1 ≡ 0 → AllByRecursion (λ q. place_cmp p q ≡ Less) ps
      → AllByRecursion (λ q. q.1 ≡ 0 → suc p.0 ≤ q.0) ps
  later p [] zeroth all = tt
  later p (q ∷ qs) zeroth all = (λ first. let up = rises p q all.0 zeroth first in omega arith, later p qs zeroth all.1)

  weaker : (b a : ℕ) (ps : List (ℕ × ℕ)) → a ≤ b → AllByRecursion (λ p. p.1 ≡ 0 → b ≤ p.0) ps
      → AllByRecursion (λ p. p.1 ≡ 0 → a ≤ p.0) ps
  weaker b a [] le all = tt
  weaker b a (p ∷ ps) le all = (λ first. let far : b ≤ p.0 = all.0 first in omega arith, weaker b a ps le all.1)

  -- a place is at the head or behind it
  behind : (k : ℕ) (p : ℕ × ℕ) (ps : List (ℕ × ℕ)) → (p ≡ (k, 0) → ⊥) → has_place (k, 0) (p ∷ ps) ≡ true
      → has_place (k, 0) ps ≡ true
  behind k p ps apart there = by (is_at (place_cmp (k, 0)) p) refl there
    where
      by : (t : Bool) → is_at (place_cmp (k, 0)) p ≡ t → (t || has_place (k, 0) ps) ≡ true → has_place (k, 0) ps ≡ true
      by true e g = absurd (apart (sym (alike (k, 0) p e)))
      by false e g = g

  none_before : (k a : ℕ) (ps : List (ℕ × ℕ)) → k < a → AllByRecursion (λ p. p.1 ≡ 0 → a ≤ p.0) ps
      → has_place (k, 0) ps ≡ true → ⊥
  none_before k a [] below all there = false≢true there
  none_before k a (p ∷ ps) below all there =
      none_before k a ps below all.1 (behind k p ps (λ is. let low : a ≤ p.0 = all.0 (ap (λ (q : ℕ × ℕ). q.1) is)
      in let at : p.0 ≡ k = ap (λ (q : ℕ × ℕ). q.0) is in omega arith) there)

  nothing : (a : ℕ) (ps : List (ℕ × ℕ)) → AllByRecursion (λ p. p.1 ≡ 0 → a ≤ p.0) ps → ((k : ℕ) → a ≤ k → h k ≡ None)
      → filter_map (at_first h) ps ≡ []
  nothing a [] all none = refl
  nothing a (p ∷ ps) all none = by (p.1 == 0) refl (nothing a ps all.1 none)
    where
      by : (t : Bool) → (p.1 == 0) ≡ t → filter_map (at_first h) ps ≡ []
          → cons_option (cond t (h p.0) None) (filter_map (at_first h) ps) ≡ []
      by true e rest = ap (λ o. cons_option o (filter_map (at_first h) ps)) (none p.0 (all.0 (eqb-true p.1 0 e))) ∙ rest
      by false e rest = rest

  -- one index further
  module _ (n : ℕ) (ih : (a : ℕ) (ps : List (ℕ × ℕ)) → Walks n a ps
      → filter_map (at_first h) ps ≡ filter_map h (range_with_len a n)) where
    -- where an index gives nothing
    passed : (a : ℕ) (ps : List (ℕ × ℕ)) → Walks n (a + 1) ps → h a ≡ None
        → filter_map (at_first h) ps ≡ filter_map h (range_with_len a (suc n))
    passed a ps w none = ih (a + 1) ps w ∙ sym (ap (λ o. cons_option o (filter_map h (range_with_len (a + 1) n))) none)

    one_more : (a : ℕ) (ps : List (ℕ × ℕ)) → Walks (suc n) a ps
        → filter_map (at_first h) ps ≡ filter_map h (range_with_len a (suc n))
    unfolding IsStrictlySortedBy
    one_more a [] w =
        passed a [] (record {
          sorted = w.sorted;
          from = tt;
          has = λ k le some. w.has k (omega arith) some;
          beyond = λ k past. w.beyond k (omega arith);
        })
        (none_of (h a) (λ some. false≢true (w.has a (omega arith) some)))
    one_more a (p ∷ ps) w = by (p.1 == 0) refl (cases_lt a p.0) (one_more a ps)
      where
        by : (t : Bool) → (p.1 == 0) ≡ t → (a < p.0) ⊎ (p.0 ≤ a)
            → (Walks (suc n) a ps → filter_map (at_first h) ps ≡ filter_map h (range_with_len a (suc n)))
            → cons_option (cond t (h p.0) None) (filter_map (at_first h) ps) ≡ filter_map h (range_with_len a (suc n))
        by false e side rest =
            rest (record {
              sorted = w.sorted.1;
              from = w.from.1;
              has = λ k le some. behind k p ps (λ is. false≢true (sym e ∙ ap (λ (q : ℕ × ℕ). q.1 == 0) is))
                  (w.has k le some);
              beyond = w.beyond;
            })
        by true e (inl above) rest =
            let zeroth : p.1 ≡ 0 = eqb-true p.1 0 e in
            let from : AllByRecursion (λ q. q.1 ≡ 0 → a + 1 ≤ q.0)
            (p ∷ ps) = (
              λ first. omega arith,
              weaker (suc p.0) (a + 1) ps (omega arith)
                  (later p ps zeroth w.sorted.0),
            ) in
            ap (λ t. cons_option (cond t (h p.0) None) (filter_map (at_first h) ps)) (sym e)
            ∙ passed a (p ∷ ps)
            (record {
              sorted = w.sorted;
              from = from;
              has = λ k le some. w.has k (omega arith) some;
              beyond = λ k past. w.beyond k (omega arith);
            })
            (none_of (h a) (λ some. none_before a (a + 1) (p ∷ ps) (omega arith) from (w.has a (omega arith) some)))
        by true e (inr below) rest =
            let zeroth : p.1 ≡ 0 = eqb-true p.1 0 e in
            let low : a ≤ p.0 = w.from.0 zeroth in
            let at : p.0 ≡ a = omega arith in
            ap (λ k. cons_option (h k) (filter_map (at_first h) ps)) at
            ∙ ap (cons_option (h a)) (ih (a + 1) ps (record {
              sorted = w.sorted.1;
              from = weaker (suc p.0) (a + 1) ps (omega arith) (later p ps zeroth w.sorted.0);
              has = λ k le some. behind k p ps (λ is. let there : p.0 ≡ k = ap (λ (q : ℕ × ℕ). q.0) is in omega arith)
                  (w.has k (omega arith) some);
              beyond = λ k past. w.beyond k (omega arith);
            }))

  pub walked : (n a : ℕ) (ps : List (ℕ × ℕ)) → Walks n a ps
      → filter_map (at_first h) ps ≡ filter_map h (range_with_len a n)
  walked zero a ps w = nothing a ps w.from (λ k le. w.beyond k (omega arith))
  walked (suc n) a ps w = one_more n (walked n) a ps w

-- ---- the entries of a device

all_from : (ps : List (ℕ × ℕ)) → AllByRecursion (λ p. p.1 ≡ 0 → 0 ≤ p.0) ps
all_from [] = tt
all_from (p ∷ ps) = (λ first. omega arith, all_from ps)

all_digits : (ds : List ℕ) → list_all (λ d. is_digit d 16) ds ≡ true → AllDigits 16 ds
all_digits [] h = tt
all_digits (c ∷ cs) h = let both = and_parts (is_digit c 16) (list_all (λ d. is_digit d 16) cs) h
    in (ltb-true (digit_value c) 16 both.0, all_digits cs both.1)

four_digits_below : (name : List ℕ) (t : Bool) → list_all (λ d. is_digit d 16) name ≡ t → length name ≡ 4 → (index : ℕ)
    → cond t (Some (digits_value 16 name)) None ≡ Some index → index < 0x10000
four_digits_below name true digits four index e =
    let is : digits_value 16 name ≡ index = cc in
    let below = digits_value-lt 16 name (all_digits name digits) in
    subst (λ (n : ℕ). n < 0x10000) is (subst (λ (n : ℕ). digits_value 16 name < 16 ^ n) four below)
four_digits_below name false digits four index e = absurd (cc)

digits_below : (name : List ℕ) → length name ≡ 4 → (index : ℕ) → digits_number 16 name ≡ Some index → index < 0x10000
digits_below [] four index e = absurd (cc)
digits_below (c ∷ cs) four index e = four_digits_below (c ∷ cs)
    (list_all (λ d. is_digit d 16) (c ∷ cs)) refl four index e

pub index_below : (name : List ℕ) (index : ℕ) → index_named name ≡ Some index → index < 0x10000
unfolding index_named
index_below name index e = by (length name == 4) refl e
  where
    by : (t : Bool) → (length name == 4) ≡ t → cond t (digits_number 16 name) None ≡ Some index → index < 0x10000
    by true h e = digits_below name (eqb-true (length name) 4 h) index e
    by false h e = absurd (cc)

module _ (sheet : Sheet) (values : ℕ × ℕ → Option (List ℕ)) where
  -- what is made is made for a compact object
  made_object : (index : ℕ) → is_some (made_section sheet values index) ≡ true
      → is_some (compact_object sheet index) ≡ true
  unfolding made_section
  made_object index some = by (is_some (values_section sheet.sections index)) (compact_object sheet index) some
    where
      by : (t : Bool) (o : Option (Section × ℕ))
          → is_some (cond t None (option_and_then (λ c. new_values index (values_set sheet values index c.1)) o)) ≡ true
          → is_some o ≡ true
      by true o h = absurd (false≢true h)
      by false None h = h
      by false (Some c) h = refl

  object_below : (index : ℕ) → is_some (compact_object sheet index) ≡ true → index < 0x10000
  unfolding compact_object object_section
  object_below index some = by (find (λ s. is_index index (index_named s.name)) sheet.sections) refl some
    where
      by : (o : Option Section) → find (λ s. is_index index (index_named s.name)) sheet.sections ≡ o
          → is_some (option_and_then {T = Section} {U = Section × ℕ}
          (λ s. option_map {T = ℕ} {U = Section × ℕ} (λ n. (s, n)) (compact_count s)) o) ≡ true → index < 0x10000
      by None e h = absurd (false≢true h)
      by (Some s) e h = index_below s.name index (index_is index (index_named s.name)
          (found_passes (λ t. is_index index (index_named t.name)) sheet.sections s e))

  -- a compact object has an entry with sub 0
  first_origin : (a b : Option Origin) (c : Option ℕ) (s : Section) → is_some c ≡ true
      → is_some (option_or a (option_or b (option_and_then (λ n. cond (nat_le 0 n) (Some (compact s n)) None) c)))
      ≡ true
  first_origin (Some x) b c s h = refl
  first_origin None (Some x) c s h = refl
  first_origin None None None s h = absurd (false≢true h)
  first_origin None None (Some n) s h = let low : nat_le 0 n ≡ true = grind (arith, nat_tests) in rw low refl

  has_origin : (index : ℕ) → is_some (compact_object sheet index) ≡ true
      → is_some (origin_of sheet.sections index 0) ≡ true
  unfolding compact_object origin_of
  has_origin index some = by (object_section sheet.sections index) some
    where
      counted : (o : Option ℕ) (s : Section) → is_some (option_map {T = ℕ} {U = Section × ℕ} (λ n. (s, n)) o) ≡ true
          → is_some o ≡ true
      counted None s h = h
      counted (Some n) s h = refl

      by : (o : Option Section)
          → is_some (option_and_then {T = Section} {U = Section × ℕ}
          (λ s. option_map {T = ℕ} {U = Section × ℕ} (λ n. (s, n)) (compact_count s)) o) ≡ true
          → is_some (option_or (option_map own (sub_section sheet.sections index 0))
          (option_or (option_and_then (λ s. cond (is_plain s) (Some (own s)) None) o)
          (option_and_then (λ s. option_and_then (λ n. cond (nat_le 0 n) (Some (compact s n)) None)
          (compact_count s)) o))) ≡ true
      by None h = absurd (false≢true h)
      by (Some s) h = first_origin (option_map own (sub_section sheet.sections index 0))
          (cond (is_plain s) (Some (own s)) None)
          (compact_count s) s (counted (compact_count s) s h)

  object_has : (index : ℕ) → is_some (compact_object sheet index) ≡ true
      → has_place (index, 0) (pairs_of sheet.sections) ≡ true
  object_has index some = by (origin_of sheet.sections index 0) refl (has_origin index some)
    where
      by : (o : Option Origin) → origin_of sheet.sections index 0 ≡ o → is_some o ≡ true
          → has_place (index, 0) (pairs_of sheet.sections) ≡ true
      by None e h = absurd (false≢true h)
      by (Some src) e h = origin_has sheet.sections index 0 src e

  pub walk_makes : filter_map (at_first (made_section sheet values)) (pairs_of sheet.sections)
      ≡ made_sections sheet values
  unfolding made_sections indices
  walk_makes = walked (made_section sheet values) 0x10000 0 (pairs_of sheet.sections) (record {
    sorted = pairs_sorted sheet.sections;
    from = all_from (pairs_of sheet.sections);
    has = λ k le some. object_has k (made_object k some);
    beyond = λ k past. none_of (made_section sheet values k)
        (λ some. let below : k < 0x10000 = object_below k (made_object k some) in omega arith);
  })
