-- What holds of each name and each pair of an EDS holds of those of its DCF.
use Rattle.std.proofs.Common.{◌≡◌, ◌==◌, ℕ, ◌+◌, Bool, true, false, cond, not, ◌&&◌, ◌||◌, List, [], ◌∷◌}
use Rattle.std.proofs.Common.{length, filter, filter_map, map, option_to_list, codes, decimal, IfSome, All}
use Rattle.std.proofs.Common.{Option, None, Some, is_some, option_map, option_and_then, refl}
use Rattle.std.specs.List.{AllByRecursion, cons_option, find, list_any}
use Rattle.std.specs.Option.{option_map_or}
use Rattle.ini_text.specs.Change.{put_value}
use Rattle.ini_text.specs.Content.{Pair, Section, same}
use Rattle.concise_dcf.specs.declared.write.Write.{Write}
use Rattle.co_values.specs.Values.{text_of_value}
use Rattle.eds_device.specs.Described.{kind_at}
use Rattle.eds_device.specs.Names.{values_named}
use Rattle.eds_device.specs.Origins.{origin_of, values_section}
use Rattle.eds_device.specs.Places.{first_subs}
use Rattle.eds_device.specs.Sheets.{Sheet}
use Rattle.eds_dcf.specs.Commissioning.{commissioning, first_spelling, is_commissioning, is_set_anew, others}
use Rattle.eds_dcf.specs.Commissioning.{pairs_named, second_spelling}
use Rattle.eds_dcf.specs.Compact.{compact_object, is_compact, is_decimal, made_section, new_values, value_pair}
use Rattle.eds_dcf.specs.Compact.{values_name, values_pairs, values_pairs_at, values_set, with_all, with_count}
use Rattle.eds_dcf.specs.Compact.{with_set}
use Rattle.eds_dcf.specs.Dcf.{dcf_sections, indices, made_sections, pairs_with, sections_with, with_values}
use Rattle.eds_dcf.specs.Entries.{parameter_pairs, parameter_place, says_modelled}
use Rattle.eds_dcf.specs.Pairs.{without}
use Rattle.eds_dcf.specs.Writes.{last_of}
use Rattle.eds_dcf.proofs.ApartLemmas.{all_append, all_filter}
use Rattle.eds_dcf.proofs.EntryLemmas.{left_holds}
use Rattle.eds_dcf.proofs.SectionLemmas.{found_all}

-- the names are such, and the keys with their values
pub record IsSuch (Named : List ℕ → Type 0) (Pairs : List ℕ → List ℕ → Type 0) (s : Section) : Type 0 where
  pub name : Named s.name
  pub pairs : AllByRecursion (λ (p : Pair). Pairs p.key p.value) s.pairs

-- what a DCF adds is such, where its values are good; and so is a key in other letters with a new value
pub record AddsSuch (Named : List ℕ → Type 0) (Pairs : List ℕ → List ℕ → Type 0) (Good : List ℕ → Type 0) : Type 0 where
  pub spelled : (key other old value : List ℕ) → same key other ≡ true → Pairs other old → Pairs key value
      → Pairs other value
  pub parameter : (text : List ℕ) → Good text → Pairs (codes "ParameterValue") text
  pub listed : (sub : ℕ) (text : List ℕ) → Good text → Pairs (decimal sub) text
  pub counted : (n : ℕ) → Pairs (codes "NrOfEntries") (decimal n)
  pub number : (n : ℕ) → Pairs (codes "NodeID") (decimal n)
  pub rate : (n : ℕ) → Pairs (codes "Baudrate") (decimal n)
  pub values_named : (index : ℕ) → Named (values_name index)
  pub node_named : Named first_spelling

-- ---- lists

mapped_all : {X Y : Type 0} (P : X → Type 0) (Q : Y → Type 0) (f : X → Y) → ((x : X) → P x → Q (f x)) → (xs : List X)
    → AllByRecursion P xs → AllByRecursion Q (map f xs)
mapped_all P Q f g [] h = tt
mapped_all P Q f g (x ∷ xs) h = (g x h.0, mapped_all P Q f g xs h.1)

given_all : {X Y : Type 0} (P : Y → Type 0) (f : X → Option Y) → ((x : X) → IfSome (f x) P) → (xs : List X)
    → AllByRecursion P (filter_map f xs)
given_all P f g [] = tt
given_all {X} {Y} P f g (x ∷ xs) = by (f x) (g x) (given_all P f g xs)
  where
    by : (o : Option Y) → IfSome o P → AllByRecursion P (filter_map f xs)
        → AllByRecursion P (cons_option o (filter_map f xs))
    by None h rest = rest
    by (Some y) h rest = (h, rest)

module _ (Named : List ℕ → Type 0) (Pairs : List ℕ → List ℕ → Type 0) (Good : List ℕ → Type 0)
    (adds : AddsSuch Named Pairs Good) where
  abbrev Such : Pair → Type 0
  Such p = Pairs p.key p.value

  -- ---- pairs

  put_such : (ps : List Pair) (key value : List ℕ) → Pairs key value → AllByRecursion Such ps
      → AllByRecursion Such (put_value ps key value)
  put_such [] key value v h = (v, tt)
  put_such (p ∷ ps) key value v h = by (same key p.key) refl (put_such ps key value v h.1)
    where
      by : (t : Bool) → same key p.key ≡ t → AllByRecursion Such (put_value ps key value)
          → AllByRecursion Such (cond t (record { key = p.key; value = value } ∷ ps) (p ∷ put_value ps key value))
      by true e rest = (adds.spelled key p.key p.value value e h.0 v, h.1)
      by false e rest = (h.0, rest)

  all_put : (ps set : List Pair) → AllByRecursion Such ps → AllByRecursion Such set
      → AllByRecursion Such (with_all ps set)
  all_put ps [] h g = h
  all_put ps (p ∷ set) h g = all_put (put_value ps p.key p.value) set (put_such ps p.key p.value g.0 h) g.1

  with_set_such : (modelled : Bool) (ps set : List Pair) → AllByRecursion Such ps → AllByRecursion Such set
      → AllByRecursion Such (with_set modelled ps set)
  with_set_such true ps set h g =
      all_append Such (filter (λ p. not (is_decimal p.key)) ps) set
      (all_filter Such (λ p. not (is_decimal p.key)) ps h) g
  with_set_such false ps set h g = all_put ps set h g

  counted_such : (ps : List Pair) → AllByRecursion Such ps → AllByRecursion Such (with_count ps)
  counted_such ps h = put_such ps (codes "NrOfEntries") _ (adds.counted _) h

  values_such : (modelled : Bool) (ps set : List Pair) → AllByRecursion Such ps → AllByRecursion Such set
      → AllByRecursion Such (values_pairs modelled ps set)
  unfolding values_pairs
  values_such modelled ps set h g = by ((modelled && list_any (λ p. is_decimal p.key) ps) || not (length set == 0))
    where
      by : (t : Bool) → AllByRecursion Such (cond t (with_count (with_set modelled ps set)) ps)
      by true = counted_such (with_set modelled ps set) (with_set_such modelled ps set h g)
      by false = h

  -- ---- sections

  module _ (sheet : Sheet) (values : ℕ × ℕ → Option (List ℕ))
      (good : (place : ℕ × ℕ) → IfSome (values place) (λ bytes. Good (text_of_value (kind_at sheet place) bytes))) where
    parameter_such : (ps : List Pair) (place : ℕ × ℕ) → AllByRecursion Such ps
        → AllByRecursion Such (parameter_pairs ps (kind_at sheet place) (values place))
    parameter_such ps place h =
        all_append Such (without (codes "ParameterValue") ps) _
        (all_filter Such (λ p. not (same (codes "ParameterValue") p.key)) ps h) (by (values place) (good place))
      where
        by : (o : Option (List ℕ)) → IfSome o (λ bytes. Good (text_of_value (kind_at sheet place) bytes))
            → AllByRecursion Such (option_to_list (option_map (λ bytes. record {
              key = codes "ParameterValue";
              value = text_of_value (kind_at sheet place) bytes;
            }) o))
        by None g = tt
        by (Some bytes) g = (adds.parameter (text_of_value (kind_at sheet place) bytes) g, tt)

    set_one : (place : ℕ × ℕ) → IfSome (value_pair sheet values place) Such
    unfolding value_pair
    set_one place = by (is_compact (origin_of sheet.sections place.0 place.1)) (values place) (good place)
      where
        by : (t : Bool) (v : Option (List ℕ)) → IfSome v (λ bytes. Good (text_of_value (kind_at sheet place) bytes))
            → IfSome (cond t (option_map (λ bytes. record {
              key = decimal place.1;
              value = text_of_value (kind_at sheet place) bytes;
            }) v) None) Such
        by true None g = tt
        by true (Some bytes) g = adds.listed place.1 (text_of_value (kind_at sheet place) bytes) g
        by false v g = tt

    set_such : (index highest : ℕ) → AllByRecursion Such (values_set sheet values index highest)
    unfolding values_set
    set_such index highest = given_all Such (value_pair sheet values) set_one (first_subs index (highest + 1))

    at_such : (index : ℕ) (ps : List Pair) → AllByRecursion Such ps
        → AllByRecursion Such (values_pairs_at sheet values index ps)
    unfolding values_pairs_at
    at_such index ps h = by (compact_object sheet index)
      where
        by : (o : Option (Section × ℕ)) → AllByRecursion Such
            (option_map_or (λ c. values_pairs (says_modelled sheet c.0) ps (values_set sheet values index c.1)) o ps)
        by None = h
        by (Some c) =
            values_such (says_modelled sheet c.0) ps (values_set sheet values index c.1) h (set_such index c.1)

    with_such : (s : Section) → IsSuch Named Pairs s → IsSuch Named Pairs (with_values sheet values s)
    unfolding pairs_with
    with_such s h = record { name = h.name; pairs = by (parameter_place sheet s.name) (values_named s.name) }
      where
        by : (o : Option (ℕ × ℕ)) (n : Option ℕ) → AllByRecursion Such
            (option_map_or (λ place. parameter_pairs s.pairs (kind_at sheet place) (values place)) o
            (option_map_or (λ index. values_pairs_at sheet values index s.pairs) n s.pairs))
        by (Some place) n = parameter_such s.pairs place h.pairs
        by None (Some index) = at_such index s.pairs h.pairs
        by None None = h.pairs

    new_such : (index : ℕ) (set : List Pair) → AllByRecursion Such set
        → IfSome (new_values index set) (IsSuch Named Pairs)
    new_such index set h = by (length set == 0)
      where
        by : (t : Bool) → IfSome (cond t None (Some (record {
          name = values_name index;
          pairs = record { key = codes "NrOfEntries"; value = decimal (length set) } ∷ set;
        }))) (IsSuch Named Pairs)
        by true = tt
        by false = record { name = adds.values_named index; pairs = (adds.counted (length set), h) }

    made_such : (index : ℕ) → IfSome (made_section sheet values index) (IsSuch Named Pairs)
    unfolding made_section
    made_such index = by (is_some (values_section sheet.sections index)) (compact_object sheet index)
      where
        by : (t : Bool) (o : Option (Section × ℕ)) → IfSome (cond t None
            (option_and_then (λ c. new_values index (values_set sheet values index c.1)) o)) (IsSuch Named Pairs)
        by true o = tt
        by false None = tt
        by false (Some c) = new_such index (values_set sheet values index c.1) (set_such index c.1)

    module _ (all : AllByRecursion (IsSuch Named Pairs) sheet.sections) where
      named_such : (name : List ℕ) → AllByRecursion Such (pairs_named sheet.sections name)
      named_such name = by (find (λ s. same name s.name) sheet.sections)
          (found_all (IsSuch Named Pairs) (λ s. same name s.name) sheet.sections all)
        where
          by : (o : Option Section) → IfSome o (IsSuch Named Pairs)
              → AllByRecursion Such (option_map_or (λ s. s.pairs) o [])
          by None h = tt
          by (Some s) h = h.pairs

      module _ (node : ℕ) (label : List ℕ) (bitrate : ℕ) (l : Pairs (codes "NodeName") label) where
        last_such : IsSuch Named Pairs (commissioning sheet.sections node label bitrate)
        unfolding commissioning
        last_such = record {
          name = adds.node_named;
          pairs = (
            adds.number node,
            (
              l,
              (
                adds.rate bitrate,
                all_append Such (others (pairs_named sheet.sections first_spelling)) _
                    (all_filter Such (λ p. not (is_set_anew p.key)) (pairs_named sheet.sections first_spelling)
                    (named_such first_spelling))
                    (all_filter Such _ (pairs_named sheet.sections second_spelling) (named_such second_spelling)),
              ),
            ),
          );
        }

        sections_such : AllByRecursion (IsSuch Named Pairs) (sections_with sheet node label bitrate values)
        unfolding sections_with made_sections
        sections_such =
            all_append (IsSuch Named Pairs)
            (map (with_values sheet values) (filter (λ s. not (is_commissioning s.name)) sheet.sections)) _
            (mapped_all (IsSuch Named Pairs) (IsSuch Named Pairs) (with_values sheet values) with_such
            (filter (λ s. not (is_commissioning s.name)) sheet.sections)
            (all_filter (IsSuch Named Pairs) (λ s. not (is_commissioning s.name)) sheet.sections all))
            (all_append (IsSuch Named Pairs) (filter_map (made_section sheet values) indices) _
            (given_all (IsSuch Named Pairs) (made_section sheet values) made_such indices) (last_such, tt))

  pub dcf_such : (sheet : Sheet) (node : ℕ) (label : List ℕ) (bitrate : ℕ) (writes : List Write)
      → AllByRecursion (IsSuch Named Pairs) sheet.sections → Pairs (codes "NodeName") label
      → All (λ (w : Write). Good (text_of_value (kind_at sheet (w.index, w.sub)) w.bytes)) writes
      → AllByRecursion (IsSuch Named Pairs) (dcf_sections sheet node label bitrate writes)
  unfolding dcf_sections
  dcf_such sheet node label bitrate writes all l given =
      sections_such sheet (last_of writes)
      (λ place. left_holds (λ place bytes. Good (text_of_value (kind_at sheet place) bytes)) writes place given)
      all node label bitrate l
