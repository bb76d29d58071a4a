-- NrOfEntries is the number of the decimal keys.
use Rattle.std.proofs.Common.{◌≡◌, ◌==◌, ℕ, suc, Bool, true, false, cond, not, ◌&&◌, ◌||◌, List, [], ◌∷◌, ◌++◌, length}
use Rattle.std.proofs.Common.{filter, filter_map, map, codes, decimal, Option, None, Some, is_some, option_and_then}
use Rattle.std.proofs.Common.{inl, inr, ◌⊎◌, refl, sym, ap, subst, ◌∙◌}
use Rattle.std.proofs.lemmas.List.Elements.{All-contains, All-contains_itself, All-from_recursion, recursion_from_All}
use Rattle.std.proofs.lemmas.List.Sums.{length-filter}
use Rattle.std.specs.List.{AllByRecursion, Contains, cons_option, count_by, list_any}
use Rattle.std.specs.Option.{option_map_or}
use Rattle.ini_text.proofs.NameLemmas.{same_refl}
use Rattle.ini_text.specs.Change.{put_value}
use Rattle.ini_text.specs.Content.{Pair, Section, same, value_at}
use Rattle.eds_device.specs.Names.{values_named}
use Rattle.eds_device.specs.Origins.{values_section}
use Rattle.eds_device.specs.Sheets.{Sheet}
use Rattle.eds_dcf.specs.Commissioning.{commissioning, first_spelling, is_commissioning}
use Rattle.eds_dcf.specs.Compact.{compact_object, is_decimal, made_section, new_values, values_name, values_pairs}
use Rattle.eds_dcf.specs.Compact.{values_pairs_at, values_set, with_count, with_set}
use Rattle.eds_dcf.specs.Dcf.{indices, made_sections, pairs_with, sections_with, with_values}
use Rattle.eds_dcf.specs.Entries.{says_modelled}
use Rattle.eds_dcf.proofs.ApartLemmas.{all_append, all_filter}
use Rattle.eds_dcf.proofs.EntryLemmas.{with_compact}
use Rattle.eds_dcf.proofs.NamedLemmas.{node_no_values, values_is_other}
use Rattle.eds_dcf.proofs.PrintableLemmas.{set_numbers}
use Rattle.eds_dcf.proofs.StandingLemmas.{no_parameter}

abbrev pub decimals : List Pair → ℕ
decimals ps = count_by (λ p. is_decimal p.key) ps

abbrev pub IsCounted : List Pair → Type 0
IsCounted ps = value_at ps (codes "NrOfEntries") ≡ Some (decimal (decimals ps))

-- a value that is set there stands there, and makes no decimal key
put_there : (key value : List ℕ) (ps : List Pair) → value_at (put_value ps key value) key ≡ Some value
put_there key value [] = rw (same_refl key) refl
put_there key value (p ∷ ps) = by (same key p.key) refl (put_there key value ps)
  where
    by : (t : Bool) → same key p.key ≡ t → value_at (put_value ps key value) key ≡ Some value
        → value_at (cond t (record { key = p.key; value = value } ∷ ps) (p ∷ put_value ps key value)) key ≡ Some value
    by true e rest = rw e refl
    by false e rest = rw e rest

put_keeps : (key value : List ℕ) → is_decimal key ≡ false → (ps : List Pair)
    → length (filter (λ p. is_decimal p.key) (put_value ps key value)) ≡ length (filter (λ p. is_decimal p.key) ps)
put_keeps key value plain [] = rw plain refl
put_keeps key value plain (p ∷ ps) = by (same key p.key) refl (put_keeps key value plain ps)
  where
    same_len : (t : Bool) (q r : Pair) (xs : List Pair) → length (cond t (q ∷ xs) xs) ≡ length (cond t (r ∷ xs) xs)
    same_len true q r xs = refl
    same_len false q r xs = refl

    longer : (t : Bool) (xs ys : List Pair) → length xs ≡ length ys
        → length (cond t (p ∷ xs) xs) ≡ length (cond t (p ∷ ys) ys)
    longer true xs ys e = ap (λ n. suc n) e
    longer false xs ys e = e

    by : (t : Bool) → same key p.key ≡ t → length (filter (λ p. is_decimal p.key) (put_value ps key value))
        ≡ length (filter (λ p. is_decimal p.key) ps)
        → length (filter (λ p. is_decimal p.key)
        (cond t (record { key = p.key; value = value } ∷ ps) (p ∷ put_value ps key value)))
        ≡ length (filter (λ p. is_decimal p.key) (p ∷ ps))
    by true e rest = same_len (is_decimal p.key)
        (record { key = p.key; value = value }) p (filter (λ p. is_decimal p.key) ps)
    by false e rest = longer (is_decimal p.key) (filter (λ p. is_decimal p.key) (put_value ps key value))
        (filter (λ p. is_decimal p.key) ps) rest

put_counts : (key value : List ℕ) → is_decimal key ≡ false → (ps : List Pair)
    → decimals (put_value ps key value) ≡ decimals ps
put_counts key value plain ps = sym (length-filter (λ p. is_decimal p.key) (put_value ps key value))
    ∙ put_keeps key value plain ps ∙ length-filter (λ p. is_decimal p.key) ps

pub counted : (ps : List Pair) → IsCounted (with_count ps)
counted ps =
    put_there (codes "NrOfEntries") (decimal (decimals ps)) ps
    ∙ ap (λ n. Some (decimal n)) (sym (put_counts (codes "NrOfEntries") (decimal (decimals ps)) refl ps))

-- ---- the sections

values_counted : (modelled : Bool) (ps set : List Pair) → (values_pairs modelled ps set ≡ ps)
    ⊎ IsCounted (values_pairs modelled ps set)
unfolding values_pairs
values_counted modelled ps set = by ((modelled && list_any (λ p. is_decimal p.key) ps) || not (length set == 0))
  where
    by : (t : Bool) → (cond t (with_count (with_set modelled ps set)) ps ≡ ps)
        ⊎ IsCounted (cond t (with_count (with_set modelled ps set)) ps)
    by true = inr (counted (with_set modelled ps set))
    by false = inl refl

all_decimals : (ps : List Pair) → AllByRecursion (λ p. is_decimal p.key ≡ true) ps
    → length (filter (λ p. is_decimal p.key) ps) ≡ length ps
all_decimals [] h = refl
all_decimals (p ∷ ps) h = rw h.0 (ap (λ n. suc n) (all_decimals ps h.1))

new_counted : (set : List Pair) → AllByRecursion (λ p. is_decimal p.key ≡ true) set
    → IsCounted (record { key = codes "NrOfEntries"; value = decimal (length set) } ∷ set)
new_counted set h =
    let whole : List Pair = record { key = codes "NrOfEntries"; value = decimal (length set) } ∷ set in
    ap (λ n. Some (decimal n)) (sym (all_decimals set h) ∙ length-filter (λ p. is_decimal p.key) whole)

module _ (sheet : Sheet) (values : ℕ × ℕ → Option (List ℕ)) where
  at_counted : (index : ℕ) (ps : List Pair) → (values_pairs_at sheet values index ps ≡ ps)
      ⊎ IsCounted (values_pairs_at sheet values index ps)
  unfolding values_pairs_at
  at_counted index ps = by (compact_object sheet index)
    where
      by : (o : Option (Section × ℕ))
          → (option_map_or (λ c. values_pairs (says_modelled sheet c.0) ps (values_set sheet values index c.1)) o ps
          ≡ ps) ⊎ IsCounted
          (option_map_or (λ c. values_pairs (says_modelled sheet c.0) ps (values_set sheet values index c.1)) o ps)
      by None = inl refl
      by (Some c) = values_counted (says_modelled sheet c.0) ps (values_set sheet values index c.1)

  -- a section stays or is counted
  abbrev IsRight : Section → Type 0
  IsRight t = (index : ℕ) → values_named t.name ≡ Some index → Contains sheet.sections t ⊎ IsCounted t.pairs

  with_right : (s : Section) → Contains sheet.sections s → IsRight (with_values sheet values s)
  with_right s there index named =
      let other = values_is_other s.name index named in
      let is : values_pairs_at sheet values index s.pairs
      ≡ pairs_with sheet values s =
      with_compact sheet values s index (no_parameter sheet s.name other.no_place other.no_index) named in
      elim (at_counted index s.pairs) [
        | inl same_pairs ↦ inl (subst (Contains sheet.sections)
            (λ i. record { name = s.name; pairs = (sym same_pairs ∙ is) i }) there)
        | inr right ↦ inr (subst IsCounted is right)
      ]

  one_right : (index : ℕ) (t : Section) → made_section sheet values index ≡ Some t → IsRight t
  unfolding made_section
  one_right index t e at named = inr (by (is_some (values_section sheet.sections index)) (compact_object sheet index) e)
    where
      fresh : (set : List Pair) → AllByRecursion (λ p. is_decimal p.key ≡ true) set → (u : Bool)
          → cond u None (Some (record {
            name = values_name index;
            pairs = record { key = codes "NrOfEntries"; value = decimal (length set) } ∷ set;
          })) ≡ Some t
          → IsCounted t.pairs
      fresh set h true e = absurd (cc)
      fresh set h false e =
          let one : Section = record {
            name = values_name index;
            pairs = record { key = codes "NrOfEntries"; value = decimal (length set) } ∷ set;
          } in
          let is : one ≡ t = cc in
          subst (λ (s : Section). IsCounted s.pairs) is (new_counted set h)

      by : (u : Bool) (o : Option (Section × ℕ))
          → cond u None (option_and_then (λ c. new_values index (values_set sheet values index c.1)) o) ≡ Some t
          → IsCounted t.pairs
      by true o e = absurd (cc)
      by false None e = absurd (cc)
      by false (Some c) e = fresh (values_set sheet values index c.1) (set_numbers sheet values index c.1)
          (length (values_set sheet values index c.1) == 0) e

  all_right : (xs : List Section) → AllByRecursion (Contains sheet.sections) xs
      → AllByRecursion IsRight (map (with_values sheet values) xs)
  all_right [] h = tt
  all_right (x ∷ xs) h = (with_right x h.0, all_right xs h.1)

  made_right : (xs : List ℕ) → AllByRecursion IsRight (filter_map (made_section sheet values) xs)
  made_right [] = tt
  made_right (x ∷ xs) = by (made_section sheet values x) refl (made_right xs)
    where
      by : (o : Option Section) → made_section sheet values x ≡ o
          → AllByRecursion IsRight (filter_map (made_section sheet values) xs)
          → AllByRecursion IsRight (cons_option o (filter_map (made_section sheet values) xs))
      by None e rest = rest
      by (Some s) e rest = (one_right x s e, rest)

  last_right : (node : ℕ) (label : List ℕ) (bitrate : ℕ) → IsRight (commissioning sheet.sections node label bitrate)
  unfolding commissioning
  last_right node label bitrate index named = let none = node_no_values first_spelling refl in absurd (cc)

  -- in each section of values that doesn't stand as it was, NrOfEntries is right
  pub sections_right : (node : ℕ) (label : List ℕ) (bitrate : ℕ) (t : Section)
      → Contains (sections_with sheet node label bitrate values) t → (index : ℕ) → values_named t.name ≡ Some index
      → Contains sheet.sections t ⊎ IsCounted t.pairs
  unfolding sections_with made_sections
  sections_right node label bitrate t there =
      let kept : List Section = filter (λ s. not (is_commissioning s.name)) sheet.sections in
      let new : List Section = filter_map (made_section sheet values) indices in
      let last : Section = commissioning sheet.sections node label bitrate in
      let whole : AllByRecursion IsRight (map (with_values sheet values) kept ++ (new ++ last ∷ [])) =
      all_append IsRight (map (with_values sheet values) kept) (new ++ last ∷ [])
      (all_right kept (all_filter (Contains sheet.sections) (λ s. not (is_commissioning s.name)) sheet.sections
      (recursion_from_All (Contains sheet.sections) sheet.sections (All-contains_itself sheet.sections))))
      (all_append IsRight new (last ∷ []) (made_right indices) (last_right node label bitrate, tt)) in
      All-contains IsRight (map (with_values sheet values) kept
      ++ (new ++ last ∷ [])) t (All-from_recursion IsRight (map (with_values sheet values) kept
      ++ (new ++ last ∷ [])) whole) there
