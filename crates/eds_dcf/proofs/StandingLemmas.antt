-- The values that stand in the sections of a DCF.
use Rattle.std.proofs.Common.{◌≡◌, ◌==◌, ℕ, zero, suc, ◌+◌, ◌<◌, ◌≤◌, nat_le, nat_lt, Bool, true, false, cond, not}
use Rattle.std.proofs.Common.{◌&&◌, ◌||◌, List, [], ◌∷◌, ◌++◌, length, filter, filter_map, map, option_to_list, codes}
use Rattle.std.proofs.Common.{decimal, Option, None, Some, option_map, option_and_then, inl, inr, ◌⊎◌, refl, sym, ap}
use Rattle.std.proofs.Common.{subst, ◌∙◌, arith}
use Rattle.std.proofs.lemmas.Bool.{and_parts, leb-true, cases_lt, eqb-false, le-ltb, eqb-true, false≢true, lt-ltb}
use Rattle.std.proofs.lemmas.Bool.{ne_eqb, or_parts, not-false}
use Rattle.std.proofs.lemmas.Bool.Decides.{nat_tests}
use Rattle.std.proofs.lemmas.Fmt.{decimal_is_IsNumeral}
use Rattle.std.proofs.lemmas.List.{nil_from_length}
use Rattle.std.proofs.lemmas.List.Folds.{find-append}
use Rattle.std.proofs.lemmas.Option.{same_Some}
use Rattle.std.specs.Char.{is_digit}
use Rattle.std.specs.List.{cons_option, find, list_all, list_any, range_with_len}
use Rattle.std.specs.Option.{option_map_or, option_or}
use Rattle.std.specs.Str.Parse.{digits_value}
use Rattle.ini_text.specs.Change.{put_value}
use Rattle.ini_text.specs.Content.{Pair, Section, same}
use Rattle.co_values.specs.declared.data_type.DataType.TheVariants.{NotModelled}
use Rattle.base.specs.Digits.{digits_number}
use Rattle.co_values.specs.Types.{is_modelled, type_in}
use Rattle.co_values.specs.Values.{text_of_value}
use Rattle.eds_places.proofs.PlaceLemmas.{found_passes, index_is}
use Rattle.eds_device.specs.Described.{Described, description_of, description_by, kind_at, known_as, listed_value}
use Rattle.eds_device.specs.Described.{sub_listed, value_by}
use Rattle.eds_device.specs.Names.{index_named, place_named, values_named}
use Rattle.eds_device.specs.Origins.{Origin, own, compact, is_index, object_section, origin_of, sub_section}
use Rattle.eds_device.specs.Origins.{values_section}
use Rattle.eds_device.specs.Places.{first_subs}
use Rattle.eds_device.specs.Sections.{compact_count, is_plain, kind_of}
use Rattle.eds_device.specs.Sheets.{Sheet}
use Rattle.eds_dcf.specs.Commissioning.{commissioning, first_spelling, is_commissioning}
use Rattle.eds_dcf.specs.Compact.{compact_object, is_compact, is_decimal, made_section, new_values, value_pair}
use Rattle.eds_dcf.specs.Compact.{values_name, values_pairs, values_pairs_at, values_set, with_count}
use Rattle.eds_dcf.specs.Dcf.{indices, made_sections, sections_with, with_values}
use Rattle.eds_dcf.specs.Entries.{own_place, parameter_place, says_modelled}
use Rattle.eds_dcf.specs.Standing.{is_typed, section_in, value_that_stands}
use Rattle.eds_dcf.proofs.AlikeLemmas.{kept_found, made_name, map_origin, or_none, origin_same}
use Rattle.eds_dcf.proofs.CompactLemmas.{decimal_same, object_bound, value_pair_keyed, value_pair_value}
use Rattle.eds_dcf.proofs.EntryLemmas.{with_compact}
use Rattle.eds_dcf.proofs.LawLemmas.{entry_placed, parameter_there}
use Rattle.eds_dcf.proofs.LineLemmas.{decimal_is_decimal, decimal_some}
use Rattle.eds_dcf.proofs.MadeLemmas.{index_below}
use Rattle.eds_dcf.proofs.NamedLemmas.{node_no_values, values_is_other}
use Rattle.eds_dcf.proofs.TextLemmas.{filter_map-push}
use Rattle.eds_dcf.proofs.ValuesNameLemmas.{named_back}

-- ---- pairs that list a sub

abbrev pub listed_in : List Pair → ℕ → Option Pair
listed_in ps sub = find (λ p. is_index sub (sub_listed p.key)) ps

no_number : (key : List ℕ) → is_decimal key ≡ false → digits_number 10 key ≡ None
no_number [] h = refl
no_number (c ∷ cs) h = by (list_all (λ d. is_digit d 10) (c ∷ cs)) refl
  where
    by : (t : Bool) → list_all (λ d. is_digit d 10) (c ∷ cs) ≡ t → cond t (Some (digits_value 10 (c ∷ cs))) None ≡ None
    by true e = let one : not (length (c ∷ cs) == 0) ≡ true = grind (arith, nat_tests)
        in absurd (false≢true (sym h ∙ rw (one, e) refl))
    by false e = refl

pub unlisted : (key : List ℕ) → is_decimal key ≡ false → sub_listed key ≡ None
unfolding sub_listed
unlisted key h = rw (no_number key h) refl

number_some : (key : List ℕ) → 0 < length key → list_all (λ d. is_digit d 10) key ≡ true
    → digits_number 10 key ≡ Some (digits_value 10 key)
number_some [] some h = absurd (omega arith)
number_some (c ∷ cs) some h = ap (λ (t : Bool). cond t (Some (digits_value 10 (c ∷ cs))) None) h

all_decimal : (key : List ℕ) → is_decimal key ≡ true → list_all (λ d. is_digit d 10) key ≡ true
all_decimal key h = (and_parts (not (length key == 0)) (list_all (λ d. is_digit d 10) key) h).1

pub listed_decimal : (sub : ℕ) → sub < 256 → sub_listed (decimal sub) ≡ Some sub
unfolding sub_listed
listed_decimal sub h =
    let value : digits_value 10 (decimal sub) ≡ sub = (decimal_is_IsNumeral sub (omega arith)).1 in
    ap (option_and_then (λ n. cond (nat_lt n 256) (Some n) None))
    (number_some (decimal sub) (decimal_some sub) (all_decimal (decimal sub) (decimal_is_decimal sub))
    ∙ ap Some value)
    ∙ ap (λ (t : Bool). cond t (Some sub) None) (lt-ltb sub 256 h)

module _ (sub : ℕ) where
  listed_append : (ps qs : List Pair) → listed_in (ps ++ qs) sub ≡ option_or (listed_in ps sub) (listed_in qs sub)
  listed_append ps qs = find-append (λ p. is_index sub (sub_listed p.key)) ps qs

  unlisted_test : (key : List ℕ) → is_decimal key ≡ false → is_index sub (sub_listed key) ≡ false
  unlisted_test key h = ap (is_index sub) (unlisted key h)

  -- no key that isn't decimal lists one
  listed_others : (ps : List Pair) → listed_in (filter (λ p. not (is_decimal p.key)) ps) sub ≡ None
  listed_others [] = refl
  listed_others (p ∷ ps) = by (is_decimal p.key) refl (listed_others ps)
    where
      by : (t : Bool) → is_decimal p.key ≡ t → listed_in (filter (λ p. not (is_decimal p.key)) ps) sub ≡ None
          → listed_in (cond (not t) (p ∷ filter (λ p. not (is_decimal p.key)) ps)
          (filter (λ p. not (is_decimal p.key)) ps)) sub ≡ None
      by true e rest = rest
      by false e rest = let fails = unlisted_test p.key e in rw fails rest

  listed_none : (ps : List Pair) → list_any (λ p. is_decimal p.key) ps ≡ false → listed_in ps sub ≡ None
  listed_none [] h = refl
  listed_none (p ∷ ps) h =
      let both = or_parts (is_decimal p.key) (list_any (λ p. is_decimal p.key) ps) h in
      let fails = unlisted_test p.key both.0 in
      rw fails (listed_none ps both.1)

  -- nor does NrOfEntries
  listed_put : (key value : List ℕ) → is_decimal key ≡ false → (ps : List Pair)
      → listed_in (put_value ps key value) sub ≡ listed_in ps sub
  listed_put key value h [] = let fails = unlisted_test key h in rw fails refl
  listed_put key value h (p ∷ ps) = by (same key p.key) refl (listed_put key value h ps)
    where
      by : (t : Bool) → same key p.key ≡ t → listed_in (put_value ps key value) sub ≡ listed_in ps sub
          → listed_in (cond t (record { key = p.key; value = value } ∷ ps) (p ∷ put_value ps key value)) sub
          ≡ cond (is_index sub (sub_listed p.key)) (Some p) (listed_in ps sub)
      by true e rest = let fails = unlisted_test p.key (sym (decimal_same key p.key e) ∙ h) in rw fails refl
      by false e rest = ap (cond (is_index sub (sub_listed p.key)) (Some p)) rest

  pub listed_count : (ps : List Pair) → listed_in (with_count ps) sub ≡ listed_in ps sub
  listed_count ps = listed_put (codes "NrOfEntries") _ refl ps

  pub listed_pairs : (ps set : List Pair) → listed_in (values_pairs true ps set) sub ≡ listed_in set sub
  unfolding values_pairs
  listed_pairs ps set = by ((true && list_any (λ p. is_decimal p.key) ps) || not (length set == 0)) refl
    where
      by : (t : Bool) → ((true && list_any (λ p. is_decimal p.key) ps) || not (length set == 0)) ≡ t
          → listed_in (cond t (with_count (filter (λ p. not (is_decimal p.key)) ps ++ set)) ps) sub ≡ listed_in set sub
      by true e = listed_count (filter (λ p. not (is_decimal p.key)) ps ++ set)
          ∙ listed_append (filter (λ p. not (is_decimal p.key)) ps) set
          ∙ ap (λ o. option_or o (listed_in set sub)) (listed_others ps)
      by false e =
          let both = or_parts (list_any (λ p. is_decimal p.key) ps) (not (length set == 0)) e in
          listed_none ps both.0
          ∙ sym (ap (λ qs. listed_in qs sub)
          (nil_from_length set (eqb-true (length set) 0 (not-false (length set == 0) both.1))))

-- ---- the set values, by sub

module _ (h : ℕ × ℕ → Option Pair) (keyed : (place : ℕ × ℕ) (p : Pair) → h place ≡ Some p → p.key ≡ decimal place.1)
    (index : ℕ) where
  one_listed : (j sub : ℕ) → j < 256 → listed_in (option_to_list (h (index, j))) sub
      ≡ cond (sub == j) (h (index, j)) None
  one_listed j sub few = by (h (index, j)) refl
    where
      nothing : (t : Bool) → None ≡ cond {A = Option Pair} t None None
      nothing true = refl
      nothing false = refl

      by : (o : Option Pair) → h (index, j) ≡ o → listed_in (option_to_list o) sub ≡ cond (sub == j) o None
      by None e = nothing (sub == j)
      by (Some p) e = ap (λ o. cond (is_index sub o) (Some p) None)
          (ap sub_listed (keyed (index, j) p e) ∙ listed_decimal j few)

  pub set_listed : (n sub : ℕ) → n ≤ 256 → listed_in (filter_map h (first_subs index n)) sub
      ≡ cond (nat_lt sub n) (h (index, sub)) None
  set_listed zero sub few = let never : nat_lt sub 0 ≡ false = grind (arith, nat_tests) in rw never refl
  set_listed (suc n) sub few =
      ap (λ ps. listed_in ps sub) (filter_map-push h (first_subs index n) (index, n))
      ∙ listed_append sub (filter_map h (first_subs index n)) (option_to_list (h (index, n)))
      ∙ ap (λ o. option_or o (listed_in (option_to_list (h (index, n))) sub)) (set_listed n sub (omega arith))
      ∙ ap (option_or (cond (nat_lt sub n) (h (index, sub)) None)) (one_listed n sub (omega arith))
      ∙ by (cases_lt sub n)
    where
      by : (sub < n) ⊎ (n ≤ sub) → option_or (cond (nat_lt sub n) (h (index, sub)) None)
          (cond (sub == n) (h (index, n)) None) ≡ cond (nat_lt sub (suc n)) (h (index, sub)) None
      by (inl below) =
          let low : nat_lt sub n ≡ true = lt-ltb sub n below in
          let more : nat_lt sub (suc n) ≡ true = lt-ltb sub (suc n) (omega arith) in
          let other : (sub == n) ≡ false = ne_eqb sub n (λ e. omega arith) in
          rw (low, more, other) (or_none (h (index, sub)))
      by (inr above) = last (sub == n) refl
        where
          high : nat_lt sub n ≡ false
          high = le-ltb sub n above

          last : (t : Bool) → (sub == n) ≡ t → option_or (cond (nat_lt sub n) (h (index, sub)) None)
              (cond t (h (index, n)) None) ≡ cond (nat_lt sub (suc n)) (h (index, sub)) None
          last true e =
              let is : sub ≡ n = eqb-true sub n e in
              let more : nat_lt sub (suc n) ≡ true = lt-ltb sub (suc n) (omega arith) in
              rw (high, more) (ap (λ m. h (index, m)) (sym is))
          last false e =
              let apart : sub ≡ n → ⊥ = eqb-false sub n e in
              let more : nat_lt sub (suc n) ≡ false = le-ltb sub (suc n) (beyond apart) in
              rw (high, more) refl
            where
              beyond : (sub ≡ n → ⊥) → suc n ≤ sub
              beyond apart = omega arith

-- ---- sections of values

pub no_parameter : (sheet : Sheet) (name : List ℕ) → place_named name ≡ None → index_named name ≡ None
    → parameter_place sheet name ≡ None
unfolding parameter_place own_place
no_parameter sheet name no_place no_index = rw (no_place, no_index) refl

module _ (sheet : Sheet) (values : ℕ × ℕ → Option (List ℕ)) (index : ℕ) where
  -- the name of a section that is made says its index
  made_test : (a : ℕ) → a < 0x10000 → (s : Section) → made_section sheet values a ≡ Some s
      → is_index index (values_named s.name) ≡ (index == a)
  made_test a low s e = ap (λ name. is_index index (values_named name)) (made_name sheet values a s e)
      ∙ ap (is_index index) (named_back a low)

  made_aside : (n a : ℕ) → a + n ≤ 0x10000 → (index < a) ⊎ (a + n ≤ index)
      → find (λ s. is_index index (values_named s.name)) (filter_map (made_section sheet values) (range_with_len a n))
      ≡ None
  made_aside zero a low out = refl
  made_aside (suc n) a low out =
      by (made_section sheet values a) refl (made_aside n (a + 1) (omega arith) (further out))
    where
      further : (index < a) ⊎ (a + suc n ≤ index) → (index < a + 1) ⊎ (a + 1 + n ≤ index)
      further (inl below) = inl (omega arith)
      further (inr above) = inr (omega arith)

      apart : (index < a) ⊎ (a + suc n ≤ index) → index ≡ a → ⊥
      apart (inl below) e = omega arith
      apart (inr above) e = omega arith

      by : (o : Option Section) → made_section sheet values a ≡ o
          → find (λ s. is_index index (values_named s.name))
          (filter_map (made_section sheet values) (range_with_len (a + 1) n)) ≡ None
          → find (λ s. is_index index (values_named s.name))
          (cons_option o (filter_map (made_section sheet values) (range_with_len (a + 1) n))) ≡ None
      by None e rest = rest
      by (Some s) e rest = let fails = made_test a (omega arith) s e ∙ ne_eqb index a (apart out) in rw fails rest

  made_there : (n a : ℕ) → a + n ≤ 0x10000 → a ≤ index → index < a + n
      → find (λ s. is_index index (values_named s.name)) (filter_map (made_section sheet values) (range_with_len a n))
      ≡ made_section sheet values index
  made_there zero a low from below = absurd (omega arith)
  made_there (suc n) a low from below =
      by (index == a) refl (made_section sheet values a) refl (λ apart. made_there n (a + 1) (omega arith) (omega arith)
      (omega arith))
    where
      by : (t : Bool) → (index == a) ≡ t → (o : Option Section) → made_section sheet values a ≡ o
          → ((index ≡ a → ⊥) → find (λ s. is_index index (values_named s.name))
          (filter_map (made_section sheet values) (range_with_len (a + 1) n)) ≡ made_section sheet values index)
          → find (λ s. is_index index (values_named s.name))
          (cons_option o (filter_map (made_section sheet values) (range_with_len (a + 1) n)))
          ≡ made_section sheet values index
      by true e None is rest = made_aside n (a + 1) (omega arith)
          (inl (let here : index ≡ a = eqb-true index a e in omega arith)) ∙ sym is
          ∙ ap (made_section sheet values) (sym (eqb-true index a e))
      by true e (Some s) is rest = let passes = made_test a (omega arith) s is ∙ e
          in rw passes (sym is ∙ ap (made_section sheet values) (sym (eqb-true index a e)))
      by false e None is rest = rest (eqb-false index a e)
      by false e (Some s) is rest = let fails = made_test a (omega arith) s is ∙ e
          in rw fails (rest (eqb-false index a e))

  aside : (name : List ℕ) → is_commissioning name ≡ true → is_index index (values_named name) ≡ false
  aside name h = ap (is_index index) (node_no_values name h)

  module _ (node : ℕ) (label : List ℕ) (bitrate : ℕ) where
    last_aside : find (λ s. is_index index (values_named s.name)) (commissioning sheet.sections node label bitrate ∷ [])
        ≡ None
    unfolding commissioning
    last_aside = let fails = aside first_spelling refl in rw fails refl

    -- the section of an object's values: the one that stands, or the one that is made
    pub values_found : index < 0x10000 → values_section (sections_with sheet node label bitrate values) index
        ≡ option_or (option_map (with_values sheet values) (values_section sheet.sections index))
        (made_section sheet values index)
    unfolding values_section sections_with made_sections indices
    values_found low =
        let kept : List Section =
        map (with_values sheet values) (filter (λ s. not (is_commissioning s.name)) sheet.sections) in
        let new : List Section = filter_map (made_section sheet values) (range_with_len 0 0x10000) in
        let last : List Section = commissioning sheet.sections node label bitrate ∷ [] in
        find-append (λ s. is_index index (values_named s.name)) kept (new ++ last)
        ∙ ap (λ o. option_or o (find (λ s. is_index index (values_named s.name)) (new ++ last)))
        (kept_found sheet values (λ name. is_index index (values_named name)) aside sheet.sections)
        ∙ ap (option_or (option_map (with_values sheet values)
        (find (λ s. is_index index (values_named s.name)) sheet.sections)))
        (find-append (λ s. is_index index (values_named s.name)) new last
        ∙ ap (λ o. option_or o (find (λ s. is_index index (values_named s.name)) last))
        (made_there 0x10000 0 (omega arith) (omega arith) low)
        ∙ ap (option_or (made_section sheet values index)) last_aside ∙ or_none (made_section sheet values index))

  -- ---- a compact sub

  module _ (sub : ℕ) (object : Section) (highest : ℕ) (is : compact_object sheet index ≡ Some (object, highest))
      (modelled : says_modelled sheet object ≡ true) where
    set_here : sub ≤ highest
        → listed_in (values_set sheet values index highest) sub ≡ value_pair sheet values (index, sub)
    unfolding values_set
    set_here within =
        let few : highest ≤ 254 = object_bound sheet index object highest is in
        set_listed (value_pair sheet values) (value_pair_keyed sheet values) index (highest + 1) sub (omega arith)
        ∙ ap (λ (t : Bool). cond t (value_pair sheet values (index, sub)) None) (lt-ltb sub (highest + 1) (omega arith))

    -- in the section that stands
    in_kept : (v : Section) → values_section sheet.sections index ≡ Some v
        → listed_in (with_values sheet values v).pairs sub ≡ listed_in (values_set sheet values index highest) sub
    unfolding values_section values_pairs_at
    in_kept v at =
        let named : values_named v.name ≡ Some index = index_is index (values_named v.name)
        (found_passes (λ s. is_index index (values_named s.name)) sheet.sections v at) in
        let other = values_is_other v.name index named in
        ap (λ ps. listed_in ps sub)
        (sym (with_compact sheet values v index (no_parameter sheet v.name other.no_place other.no_index) named)
        ∙ ap (λ (o : Option (Section × ℕ)). option_map_or
        (λ c. values_pairs (says_modelled sheet c.0) v.pairs (values_set sheet values index c.1)) o v.pairs) is
        ∙ ap (λ t. values_pairs t v.pairs (values_set sheet values index highest)) modelled)
        ∙ listed_pairs sub v.pairs (values_set sheet values index highest)

    -- in the one that is made
    in_new : (set : List Pair)
        → option_and_then (λ (s : Section). option_map (λ (p : Pair). p.value) (listed_in s.pairs sub))
        (new_values index set) ≡ option_map (λ (p : Pair). p.value) (listed_in set sub)
    in_new set = by (length set == 0) refl
      where
        by : (t : Bool) → (length set == 0) ≡ t
            → option_and_then (λ (s : Section). option_map (λ (p : Pair). p.value) (listed_in s.pairs sub))
            (cond t None (Some (record {
              name = values_name index;
              pairs = record { key = codes "NrOfEntries"; value = decimal (length set) } ∷ set;
            })))
            ≡ option_map (λ (p : Pair). p.value) (listed_in set sub)
        by true e = ap (λ qs. option_map (λ (p : Pair). p.value) (listed_in qs sub))
            (sym (nil_from_length set (eqb-true (length set) 0 e)))
        by false e = let fails : is_index sub (sub_listed (codes "NrOfEntries")) ≡ false = ap (is_index sub)
            (unlisted (codes "NrOfEntries") refl) in rw fails refl

    made_is : values_section sheet.sections index ≡ None
        → made_section sheet values index ≡ new_values index (values_set sheet values index highest)
    unfolding made_section
    made_is none = rw (none, is) refl

    pub compact_listed : (node : ℕ) (label : List ℕ) (bitrate : ℕ) → index < 0x10000 → sub ≤ highest
        → is_compact (origin_of sheet.sections index sub) ≡ true
        → listed_value (sections_with sheet node label bitrate values) index sub
        ≡ option_map (text_of_value (kind_at sheet (index, sub))) (values (index, sub))
    unfolding listed_value
    compact_listed node label bitrate low within compacted =
        let place : ℕ × ℕ = (index, sub) in
        ap (option_and_then (λ (s : Section). option_map (λ (p : Pair). p.value) (listed_in s.pairs sub)))
        (values_found node label bitrate low)
        ∙ by (values_section sheet.sections index) refl
        ∙ ap (option_map (λ (p : Pair). p.value)) (set_here within)
        ∙ value_pair_value sheet values place compacted
      where
        by : (o : Option Section) → values_section sheet.sections index ≡ o
            → option_and_then (λ (s : Section). option_map (λ (p : Pair). p.value) (listed_in s.pairs sub))
            (option_or (option_map (with_values sheet values) o) (made_section sheet values index))
            ≡ option_map (λ (p : Pair). p.value) (listed_in (values_set sheet values index highest) sub)
        by None e = ap (option_and_then (λ (s : Section). option_map (λ (p : Pair). p.value) (listed_in s.pairs sub)))
            (made_is e) ∙ in_new (values_set sheet values index highest)
        by (Some v) e = ap (option_map (λ (p : Pair). p.value)) (in_kept v e)

-- ---- all entries

module _ (sheet : Sheet) (values : ℕ × ℕ → Option (List ℕ)) (node : ℕ) (label : List ℕ) (bitrate : ℕ)
    (index sub : ℕ) where
  -- what an entry of a compact object stands in
  pub record IsCompactAt (object : Section) (n : ℕ) : Type 0 where
    pub is : compact_object sheet index ≡ Some (object, n)
    pub within : sub ≤ n
    pub below : index < 0x10000

  compact_at : (object : Section) (n : ℕ) → origin_of sheet.sections index sub ≡ Some (compact object n)
      → IsCompactAt object n
  unfolding origin_of compact_object object_section
  compact_at object n e =
      by (sub_section sheet.sections index sub) (find (λ s. is_index index (index_named s.name)) sheet.sections) refl e
    where
      whole : (s : Section) → find (λ s. is_index index (index_named s.name)) sheet.sections ≡ Some s → (c : Option ℕ)
          → compact_count s ≡ c → option_and_then (λ n. cond (nat_le sub n) (Some (compact s n)) None) c
          ≡ Some (compact object n) → IsCompactAt object n
      whole s at None h e = absurd (cc)
      whole s at (Some m) h e = within (nat_le sub m) refl e
        where
          within : (t : Bool) → nat_le sub m ≡ t → cond t (Some (compact s m)) None ≡ Some (compact object n)
              → IsCompactAt object n
          within true le e =
              let one : compact s m ≡ compact object n = same_Some (compact s m) (compact object n) e in
              let first : s ≡ object = cc in
              let second : m ≡ n = cc in
              record {
                is = ap (option_and_then {T = Section} {U = Section × ℕ}
                    (λ s. option_map {T = ℕ} {U = Section × ℕ} (λ n. (s, n)) (compact_count s))) at
                    ∙ ap (option_map {T = ℕ} {U = Section × ℕ} (λ n. (s, n))) h ∙ (λ i. Some (first i, second i));
                within = subst (λ k. sub ≤ k) second (leb-true sub m le);
                below = index_below s.name index (index_is index (index_named s.name)
                    (found_passes (λ t. is_index index (index_named t.name)) sheet.sections s at));
              }
          within false le e = absurd (cc)

      plain : (s : Section) → find (λ s. is_index index (index_named s.name)) sheet.sections ≡ Some s → (t u : Bool)
          → option_or (cond t (cond u (Some (own s)) None) None)
          (option_and_then (λ n. cond (nat_le sub n) (Some (compact s n)) None) (compact_count s))
          ≡ Some (compact object n) → IsCompactAt object n
      plain s at true true e = absurd (cc)
      plain s at true false e = whole s at (compact_count s) refl e
      plain s at false u e = whole s at (compact_count s) refl e

      nowhere : (t : Bool) → (let none : Option Origin = None
          in option_or (cond t none none) none ≡ Some (compact object n)) → ⊥
      nowhere true e = cc
      nowhere false e = cc

      by : (a : Option Section) (b : Option Section)
          → find (λ s. is_index index (index_named s.name)) sheet.sections ≡ b
          → option_or (option_map own a)
          (option_or (cond (sub == 0) (option_and_then (λ s. cond (is_plain s) (Some (own s)) None) b) None)
          (option_and_then (λ s. option_and_then (λ n. cond (nat_le sub n) (Some (compact s n)) None)
          (compact_count s)) b)) ≡ Some (compact object n) → IsCompactAt object n
      by (Some s) b at e = absurd (cc)
      by None None at e = absurd (nowhere (sub == 0) e)
      by None (Some s) at e = plain s at (sub == 0) (is_plain s) e

  own_kind : (s : Section) → origin_of sheet.sections index sub ≡ Some (own s)
      → kind_at sheet (index, sub) ≡ type_in sheet.is_three (kind_of s)
  unfolding kind_at description_of
  own_kind s e =
      ap (λ o. option_map_or (λ (d : Described). d.kind)
      (option_map (λ origin. known_as sheet.is_three (description_by sub origin)) o) NotModelled) e

  -- an entry whose section says a modelled type has the value that it is given, and none where it is given none
  pub stands : is_typed sheet (index, sub) ≡ true
      → value_that_stands (sections_with sheet node label bitrate values) (index, sub)
      ≡ option_map (text_of_value (kind_at sheet (index, sub))) (values (index, sub))
  unfolding is_typed value_that_stands
  stands typed =
      ap (option_and_then (value_by (sections_with sheet node label bitrate values) index sub))
      (origin_same sheet values node label bitrate index sub)
      ∙ by (origin_of sheet.sections index sub) refl typed
    where
      by : (o : Option Origin) → origin_of sheet.sections index sub ≡ o
          → option_map_or (λ origin. says_modelled sheet (section_in origin)) o false ≡ true
          → option_and_then (value_by (sections_with sheet node label bitrate values) index sub)
          (option_map (map_origin (with_values sheet values)) o)
          ≡ option_map (text_of_value (kind_at sheet (index, sub)))
          (values (index, sub))
      by None e h = absurd (false≢true h)
      by (Some (own s)) e h =
          let place : ℕ × ℕ = (index, sub) in
          parameter_there sheet values s place (entry_placed sheet index sub s e (ap is_modelled (own_kind s e) ∙ h))
      by (Some (compact s n)) e h =
          let at = compact_at s n e in
          compact_listed sheet values index sub s n at.is h node label bitrate at.below at.within (ap is_compact e)
