-- The entries of a DCF are those of its EDS, and are described alike.
use Rattle.std.proofs.Common.{◌≡◌, ◌==◌, ◌&&◌, ◌||◌, ℕ, ◌+◌, nat_le, Bool, true, false, cond, not, List, [], ◌∷◌, ◌++◌, filter}
use Rattle.std.proofs.Common.{filter_map, map, codes, decimal, length, Option, None, Some, is_some, option_map}
use Rattle.std.proofs.Common.{option_and_then, refl, sym, ap, subst, ◌∙◌, append-nil}
use Rattle.std.proofs.lemmas.Bool.{false≢true}
use Rattle.std.proofs.lemmas.List.Concat.{flat_map-append}
use Rattle.std.proofs.lemmas.List.Folds.{find-append}
use Rattle.std.proofs.lemmas.Option.{same_Some}
use Rattle.std.specs.List.{cons_option, find, flat_map, list_any}
use Rattle.std.specs.Option.{option_map_or, option_or, unwrap_or}
use Rattle.ini_text.specs.Content.{Pair, Section, same, value_at}
use Rattle.eds_places.proofs.PlaceLemmas.{found_passes, index_is}
use Rattle.eds_entries.specs.declared.object_type.ObjectType.TheVariants.{Other, Variable}
use Rattle.co_values.specs.declared.data_type.DataType.TheVariants.{NotModelled}
use Rattle.eds_device.specs.Described.{Described, written, access_named, access_of, description_of, description_by}
use Rattle.eds_device.specs.Described.{description_in, highest_sub, is_not_zero, is_set, kind_at, known_as, text_at}
use Rattle.eds_device.specs.Entries.{entry_at, entry_by}
use Rattle.eds_device.specs.Names.{index_named, place_named, values_named}
use Rattle.eds_device.specs.Origins.{Origin, own, compact, is_index, is_place, object_section, origin_of, sub_section}
use Rattle.eds_device.specs.Origins.{values_section}
use Rattle.eds_device.specs.Places.{first_subs, object_places, pairs_of, places_given, put_in_order}
use Rattle.eds_device.specs.Sections.{compact_count, in_subs, is_compact_type, is_plain, is_plain_type, kind_of}
use Rattle.eds_device.specs.Sections.{kind_without, number_at, object_of_number, object_type}
use Rattle.eds_device.specs.Sheets.{Sheet, has_new_types, is_new_at, is_new_entry, is_new_object}
use Rattle.co_values.specs.Number.{number}
use Rattle.co_values.specs.Types.{is_new, type_of_code}
use Rattle.eds_dcf.specs.Commissioning.{commissioning, first_spelling, is_commissioning}
use Rattle.eds_dcf.specs.Compact.{compact_object, made_section, new_values, values_name, values_set}
use Rattle.eds_dcf.specs.Dcf.{indices, made_sections, sections_with, with_values}
use Rattle.eds_dcf.specs.Entries.{parameter_place}
use Rattle.eds_dcf.specs.Standing.{section_in}
use Rattle.eds_dcf.proofs.LawLemmas.{parameter_others, place_of_test, section_stays}
use Rattle.eds_dcf.proofs.NamedLemmas.{IsOther, index_no_values, made_is_other, node_is_other, place_no_values}

-- ---- sections that say the same but of the value

pub record AreAlike (s t : Section) : Type 0 where
  pub says : (key : List ℕ) → same (codes "ParameterValue") key ≡ false → value_at t.pairs key ≡ value_at s.pairs key

module _ (s t : Section) (alike : AreAlike s t) where
  pub alike_number : (key : List ℕ) → same (codes "ParameterValue") key ≡ false → number_at t key ≡ number_at s key
  unfolding number_at
  alike_number key other = ap (option_and_then number) (alike.says key other)

  pub alike_object : object_type t ≡ object_type s
  unfolding object_type
  alike_object = ap (λ o. option_map_or (λ text. option_map_or object_of_number (number text) Other) o Variable)
      (alike.says (codes "ObjectType") refl)

  pub alike_plain : is_plain t ≡ is_plain s
  unfolding is_plain
  alike_plain = ap is_plain_type alike_object

  pub alike_count : compact_count t ≡ compact_count s
  unfolding compact_count
  alike_count =
      ap (λ o. cond (is_compact_type o) (option_and_then in_subs (number_at t (codes "CompactSubObj"))) None)
      alike_object
      ∙ ap (λ n. cond (is_compact_type (object_type s)) (option_and_then in_subs n) None)
      (alike_number (codes "CompactSubObj") refl)

  pub alike_kind : kind_of t ≡ kind_of s
  unfolding kind_of
  alike_kind =
      ap (λ o. option_map_or (λ text. option_map_or type_of_code (number text) NotModelled) o
      (kind_without (object_type t))) (alike.says (codes "DataType") refl)
      ∙ ap (λ k. option_map_or (λ text. option_map_or type_of_code (number text) NotModelled)
      (value_at s.pairs (codes "DataType")) (kind_without k)) alike_object

  alike_text : (key : List ℕ) → same (codes "ParameterValue") key ≡ false → text_at t key ≡ text_at s key
  alike_text key other = ap (λ o. unwrap_or o []) (alike.says key other)

  alike_access : access_of t ≡ access_of s
  unfolding access_of
  alike_access = ap access_named (alike_text (codes "AccessType") refl)

  alike_set : is_set t (codes "PDOMapping") ≡ is_set s (codes "PDOMapping")
  unfolding is_set
  alike_set = ap (λ o. option_map_or is_not_zero o false) (alike_number (codes "PDOMapping") refl)

  pub alike_described : description_in t ≡ description_in s
  alike_described = λ i. record {
    kind = alike_kind i;
    access = alike_access i;
    mappable = alike_set i;
    default = written (alike_text (codes "DefaultValue") refl i);
    low = alike_text (codes "LowLimit") refl i;
    high = alike_text (codes "HighLimit") refl i;
  }

pub or_none : {X : Type 0} (o : Option X) → option_or o None ≡ o
or_none None = refl
or_none (Some x) = refl

-- ---- the sections of a DCF

module _ (sheet : Sheet) (values : ℕ × ℕ → Option (List ℕ)) where
  -- a section that is none of values says the same
  pub stays_alike : (s : Section) → values_named s.name ≡ None → AreAlike s (with_values sheet values s)
  stays_alike s none = record { says = λ key other. by (parameter_place sheet s.name) refl key other }
    where
      by : (o : Option (ℕ × ℕ)) → parameter_place sheet s.name ≡ o → (key : List ℕ)
          → same (codes "ParameterValue") key ≡ false
          → value_at (with_values sheet values s).pairs key ≡ value_at s.pairs key
      by None e key other = ap (λ (t : Section). value_at t.pairs key) (section_stays sheet values s e none)
      by (Some place) e key other = parameter_others sheet values s place e key other

  pub made_name : (index : ℕ) (s : Section) → made_section sheet values index ≡ Some s → s.name ≡ values_name index
  unfolding made_section
  made_name index s e = by (is_some (values_section sheet.sections index)) (compact_object sheet index) e
    where
      fresh : (set : List Pair) (t : Bool)
          → cond t None (Some (record {
            name = values_name index;
            pairs = record { key = codes "NrOfEntries"; value = decimal (length set) } ∷ set;
          })) ≡ Some s
          → s.name ≡ values_name index
      fresh set true e = absurd (cc)
      fresh set false e =
          let one : Section = record {
            name = values_name index;
            pairs = record { key = codes "NrOfEntries"; value = decimal (length set) } ∷ set;
          } in
          let is : one ≡ s = cc in
          ap (λ (t : Section). t.name) (sym is)

      by : (t : Bool) (o : Option (Section × ℕ))
          → cond t None (option_and_then (λ c. new_values index (values_set sheet values index c.1)) o) ≡ Some s
          → s.name ≡ values_name index
      by true o e = absurd (cc)
      by false None e = absurd (cc)
      by false (Some c) e = fresh (values_set sheet values index c.1)
          (length (values_set sheet values index c.1) == 0) e

  -- a test of names that none of the node's passes finds the section that it found
  module _ (p : List ℕ → Bool) (aside : (name : List ℕ) → is_commissioning name ≡ true → p name ≡ false) where
    pub kept_found : (xs : List Section) → find (λ s. p s.name)
        (map (with_values sheet values) (filter (λ s. not (is_commissioning s.name)) xs))
        ≡ option_map (with_values sheet values) (find (λ s. p s.name) xs)
    kept_found [] = refl
    kept_found (x ∷ xs) = by (is_commissioning x.name) refl (p x.name) refl (kept_found xs)
      where
        by : (t : Bool) → is_commissioning x.name ≡ t → (u : Bool) → p x.name ≡ u
            → find (λ s. p s.name) (map (with_values sheet values) (filter (λ s. not (is_commissioning s.name)) xs))
            ≡ option_map (with_values sheet values) (find (λ s. p s.name) xs)
            → find (λ s. p s.name) (map (with_values sheet values)
            (cond (not t) (x ∷ filter (λ s. not (is_commissioning s.name)) xs)
            (filter (λ s. not (is_commissioning s.name)) xs))) ≡ option_map (with_values sheet values)
            (cond u (Some x) (find (λ s. p s.name) xs))
        by true e true f rest = absurd (false≢true (sym (aside x.name e) ∙ f))
        by true e false f rest = rest
        by false e true f rest = rw f refl
        by false e false f rest = rw f rest

  -- one that none of values passes finds none that is made
  made_unfound : (p : List ℕ → Bool) → ((index : ℕ) → p (values_name index) ≡ false) → (xs : List ℕ)
      → find (λ s. p s.name) (filter_map (made_section sheet values) xs) ≡ None
  made_unfound p other [] = refl
  made_unfound p other (x ∷ xs) = by (made_section sheet values x) refl (made_unfound p other xs)
    where
      by : (o : Option Section) → made_section sheet values x ≡ o
          → find (λ s. p s.name) (filter_map (made_section sheet values) xs) ≡ None
          → find (λ s. p s.name) (cons_option o (filter_map (made_section sheet values) xs)) ≡ None
      by None e rest = rest
      by (Some s) e rest = let fails : p s.name ≡ false = ap p (made_name x s e) ∙ other x in rw fails rest

  module _ (node : ℕ) (label : List ℕ) (bitrate : ℕ) where
    last_unfound : (p : List ℕ → Bool) → p first_spelling ≡ false
        → find (λ s. p s.name) (commissioning sheet.sections node label bitrate ∷ []) ≡ None
    unfolding commissioning
    last_unfound p fails = rw fails refl

    first_is_commissioning : is_commissioning first_spelling ≡ true
    first_is_commissioning = refl

    -- what a test of entries' names finds
    pub section_found : (p : List ℕ → Bool) → ((name : List ℕ) → IsOther name → p name ≡ false)
        → find (λ s. p s.name) (sections_with sheet node label bitrate values) ≡ option_map (with_values sheet values)
        (find (λ s. p s.name) sheet.sections)
    unfolding sections_with made_sections
    section_found p other =
        let kept : List Section =
        map (with_values sheet values) (filter (λ s. not (is_commissioning s.name)) sheet.sections) in
        let new : List Section = filter_map (made_section sheet values) indices in
        let last : List Section = commissioning sheet.sections node label bitrate ∷ [] in
        find-append (λ s. p s.name) kept (new ++ last)
        ∙ ap (option_or (find (λ s. p s.name) kept)) (find-append (λ s. p s.name) new last
        ∙ ap (λ o. option_or o (find (λ s. p s.name) last))
        (made_unfound p (λ index. other (values_name index) (made_is_other index)) indices)
        ∙ last_unfound p (other first_spelling (node_is_other first_spelling first_is_commissioning)))
        ∙ or_none (find (λ s. p s.name) kept)
        ∙ kept_found p (λ name is. other name (node_is_other name is)) sheet.sections

    other_index : (index : ℕ) (name : List ℕ) → IsOther name → is_index index (index_named name) ≡ false
    other_index index name h = ap (is_index index) h.no_index

    other_place : (place : ℕ × ℕ) (name : List ℕ) → IsOther name → is_place place (place_named name) ≡ false
    other_place place name h = ap (is_place place) h.no_place

    pub sub_section_same : (index sub : ℕ) → sub_section (sections_with sheet node label bitrate values) index sub
        ≡ option_map (with_values sheet values) (sub_section sheet.sections index sub)
    unfolding sub_section
    sub_section_same index sub = section_found (λ name. is_place (index, sub) (place_named name))
        (other_place (index, sub))

    pub object_section_same : (index : ℕ) → object_section (sections_with sheet node label bitrate values) index
        ≡ option_map (with_values sheet values) (object_section sheet.sections index)
    unfolding object_section
    object_section_same index = section_found (λ name. is_index index (index_named name)) (other_index index)

-- ---- where entries stand

abbrev pub map_origin : (Section → Section) → Origin → Origin
map_origin f (own s) = own (f s)
map_origin f (compact s n) = compact (f s) n

module _ (f : Section → Section) (sub : ℕ) where
  compact_by : (s : Section) (o : Option ℕ) → option_and_then (λ n. cond (nat_le sub n) (Some (compact (f s) n)) None) o
      ≡ option_map (map_origin f) (option_and_then (λ n. cond (nat_le sub n) (Some (compact s n)) None) o)
  compact_by s None = refl
  compact_by s (Some n) = by (nat_le sub n)
    where
      by : (t : Bool) → cond t (Some (compact (f s) n)) None ≡ option_map (map_origin f)
          (cond t (Some (compact s n)) None)
      by true = refl
      by false = refl

  plain_by : (s : Section) (t u : Bool) (rest after : Option Origin) → after ≡ option_map (map_origin f) rest
      → option_or (cond t (cond u (Some (own (f s))) None) None) after ≡ option_map (map_origin f)
      (option_or (cond t (cond u (Some (own s)) None) None) rest)
  plain_by s true true rest after is = refl
  plain_by s true false rest after is = is
  plain_by s false u rest after is = is

  origin_by : (t : Bool) (a o : Option Section) → ((s : Section) → o ≡ Some s → AreAlike s (f s))
      → option_or (option_map own (option_map f a))
      (option_or (cond t (option_and_then (λ s. cond (is_plain s) (Some (own s)) None) (option_map f o)) None)
      (option_and_then (λ s. option_and_then (λ n. cond (nat_le sub n) (Some (compact s n)) None) (compact_count s))
      (option_map f o)))
      ≡ option_map (map_origin f) (option_or (option_map own a)
      (option_or (cond t (option_and_then (λ s. cond (is_plain s) (Some (own s)) None) o) None)
      (option_and_then (λ s. option_and_then (λ n. cond (nat_le sub n) (Some (compact s n)) None)
      (compact_count s)) o)))
  origin_by t (Some s) o alike = refl
  origin_by true None None alike = refl
  origin_by false None None alike = refl
  origin_by t None (Some s) alike =
      let same_one = alike s refl in
      ap (λ u. option_or (cond t (cond u (Some (own (f s))) None) None)
      (option_and_then (λ n. cond (nat_le sub n) (Some (compact (f s) n)) None) (compact_count (f s))))
      (alike_plain s (f s) same_one)
      ∙ ap (λ c. option_or (cond t (cond (is_plain s) (Some (own (f s))) None) None)
      (option_and_then (λ n. cond (nat_le sub n) (Some (compact (f s) n)) None) c)) (alike_count s (f s) same_one)
      ∙ plain_by s t (is_plain s) _ _ (compact_by s (compact_count s))

module _ (sheet : Sheet) (values : ℕ × ℕ → Option (List ℕ)) (node : ℕ) (label : List ℕ) (bitrate : ℕ) where
  pub object_alike : (index : ℕ) (s : Section) → object_section sheet.sections index ≡ Some s
      → AreAlike s (with_values sheet values s)
  unfolding object_section
  object_alike index s e =
      stays_alike sheet values s (index_no_values s.name index (index_is index (index_named s.name)
      (found_passes (λ t. is_index index (index_named t.name)) sheet.sections s e)))

  pub origin_same : (index sub : ℕ) → origin_of (sections_with sheet node label bitrate values) index sub
      ≡ option_map (map_origin (with_values sheet values)) (origin_of sheet.sections index sub)
  unfolding origin_of
  origin_same index sub =
      ap (λ a. option_or (option_map own a)
      (option_or (cond (sub == 0) (option_and_then (λ s. cond (is_plain s) (Some (own s)) None)
      (object_section (sections_with sheet node label bitrate values) index)) None)
      (option_and_then (λ s. option_and_then (λ n. cond (nat_le sub n) (Some (compact s n)) None) (compact_count s))
      (object_section (sections_with sheet node label bitrate values) index))))
      (sub_section_same sheet values node label bitrate index sub)
      ∙ ap (λ o. option_or (option_map own
      (option_map (with_values sheet values) (sub_section sheet.sections index sub)))
      (option_or (cond (sub == 0) (option_and_then (λ s. cond (is_plain s) (Some (own s)) None) o) None)
      (option_and_then (λ s. option_and_then (λ n. cond (nat_le sub n) (Some (compact s n)) None)
      (compact_count s)) o)))
      (object_section_same sheet values node label bitrate index)
      ∙ origin_by (with_values sheet values) sub (sub == 0) (sub_section sheet.sections index sub)
      (object_section sheet.sections index)
      (object_alike index)

  -- an entry stands in no section of values
  pub origin_named : (index sub : ℕ) (o : Origin) → origin_of sheet.sections index sub ≡ Some o
      → values_named (section_in o).name ≡ None
  unfolding origin_of sub_section object_section
  origin_named index sub o e =
      by (find (λ s. is_place (index, sub) (place_named s.name)) sheet.sections) refl
      (find (λ s. is_index index (index_named s.name)) sheet.sections) refl e
    where
      there : (s : Section) → values_named s.name ≡ None → (t : Origin) → section_in t ≡ s → Some t ≡ Some o
          → values_named (section_in o).name ≡ None
      there s none t is e = let one : t ≡ o = same_Some t o e
          in ap (λ (q : Origin). values_named (section_in q).name) (sym one)
          ∙ ap (λ (q : Section). values_named q.name) is ∙ none

      counted : (s : Section) → values_named s.name ≡ None → (c : Option ℕ)
          → option_and_then (λ n. cond (nat_le sub n) (Some (compact s n)) None) c ≡ Some o
          → values_named (section_in o).name ≡ None
      counted s none None e = absurd (cc)
      counted s none (Some n) e = within (nat_le sub n) e
        where
          within : (t : Bool) → cond t (Some (compact s n)) None ≡ Some o → values_named (section_in o).name ≡ None
          within true e = there s none (compact s n) refl e
          within false e = absurd (cc)

      plain : (s : Section) → values_named s.name ≡ None → (t u : Bool)
          → option_or (cond t (cond u (Some (own s)) None) None)
          (option_and_then (λ n. cond (nat_le sub n) (Some (compact s n)) None) (compact_count s)) ≡ Some o
          → values_named (section_in o).name ≡ None
      plain s none true true e = there s none (own s) refl e
      plain s none true false e = counted s none (compact_count s) e
      plain s none false u e = counted s none (compact_count s) e

      nowhere : (t : Bool) → (let none : Option Origin = None in option_or (cond t none none) none ≡ Some o) → ⊥
      nowhere true e = cc
      nowhere false e = cc

      by : (a : Option Section) → find (λ s. is_place (index, sub) (place_named s.name)) sheet.sections ≡ a
          → (b : Option Section) → find (λ s. is_index index (index_named s.name)) sheet.sections ≡ b
          → option_or (option_map own a)
          (option_or (cond (sub == 0) (option_and_then (λ s. cond (is_plain s) (Some (own s)) None) b) None)
          (option_and_then (λ s. option_and_then (λ n. cond (nat_le sub n) (Some (compact s n)) None)
          (compact_count s)) b)) ≡ Some o → values_named (section_in o).name ≡ None
      by (Some s) at b is e =
          let here : ℕ × ℕ = (index, sub) in
          there s (place_no_values s.name here (place_of_test here (place_named s.name)
          (found_passes (λ t. is_place (index, sub) (place_named t.name)) sheet.sections s at))) (own s) refl e
      by None at None is e = absurd (nowhere (sub == 0) e)
      by None at (Some s) is e =
          plain s (index_no_values s.name index (index_is index (index_named s.name)
          (found_passes (λ t. is_index index (index_named t.name)) sheet.sections s is))) (sub == 0) (is_plain s) e

  described_by_same : (sub : ℕ) (o : Origin) → AreAlike (section_in o) (with_values sheet values (section_in o))
      → description_by sub (map_origin (with_values sheet values) o) ≡ description_by sub o
  described_by_same sub (own s) alike = alike_described s (with_values sheet values s) alike
  described_by_same sub (compact s n) alike = ap (λ d. cond (sub == 0) (highest_sub n) d)
      (alike_described s (with_values sheet values s) alike)

  -- the data sheet with the values, and an entry as it and the one without them describe it
  abbrev there : Sheet
  there = record sheet { sections = sections_with sheet node label bitrate values }

  abbrev known : ℕ → Origin → Described
  known sub o = known_as sheet.is_three (description_by sub o)

  -- the entries are described alike
  pub described_same : (index sub : ℕ) → description_of there index sub ≡ description_of sheet index sub
  unfolding description_of
  described_same index sub = ap (option_map (known sub)) (origin_same index sub)
      ∙ by (origin_of sheet.sections index sub) refl
    where
      by : (o : Option Origin) → origin_of sheet.sections index sub ≡ o
          → option_map (known sub) (option_map (map_origin (with_values sheet values)) o) ≡ option_map (known sub) o
      by None e = refl
      by (Some o) e =
          ap (λ d. Some (known_as sheet.is_three d))
          (described_by_same sub o (stays_alike sheet values (section_in o) (origin_named index sub o e)))

  pub kind_same : (place : ℕ × ℕ) → kind_at there place ≡ kind_at sheet place
  unfolding kind_at
  kind_same place = ap (λ o. option_map_or (λ (d : Described). d.kind) o NotModelled) (described_same place.0 place.1)

  pub entry_same : (at index sub : ℕ) → entry_at there at index sub ≡ entry_at sheet at index sub
  unfolding entry_at
  entry_same at index sub = ap (option_map (entry_by at)) (described_same index sub)

  -- ---- which entries there are

  object_places_same : (s : Section) (index : ℕ) → AreAlike s (with_values sheet values s)
      → object_places (with_values sheet values s) index ≡ object_places s index
  object_places_same s index alike =
      ap (λ t. cond t (first_subs index 1) (option_map_or (λ n. first_subs index (n + 1))
      (compact_count (with_values sheet values s)) [])) (alike_plain s (with_values sheet values s) alike)
      ∙ ap (λ c. cond (is_plain s) (first_subs index 1) (option_map_or (λ n. first_subs index (n + 1)) c []))
      (alike_count s (with_values sheet values s) alike)

  given_same : (s : Section) → places_given (with_values sheet values s) ≡ places_given s
  unfolding places_given
  given_same s = by (place_named s.name) (index_named s.name) refl
    where
      by : (o : Option (ℕ × ℕ)) (n : Option ℕ) → index_named s.name ≡ n
          → option_map_or (λ p. p ∷ []) o (option_map_or (object_places (with_values sheet values s)) n [])
          ≡ option_map_or (λ p. p ∷ []) o (option_map_or (object_places s) n [])
      by (Some p) n e = refl
      by None None e = refl
      by None (Some index) e = object_places_same s index (stays_alike sheet values s (index_no_values s.name index e))

  other_gives_none : (s : Section) → IsOther s.name → places_given s ≡ []
  unfolding places_given
  other_gives_none s h = rw (h.no_place, h.no_index) refl

  given_kept : (xs : List Section)
      → flat_map places_given (map (with_values sheet values) (filter (λ s. not (is_commissioning s.name)) xs))
      ≡ flat_map places_given xs
  given_kept [] = refl
  given_kept (x ∷ xs) = by (is_commissioning x.name) refl (given_kept xs)
    where
      by : (t : Bool) → is_commissioning x.name ≡ t
          → flat_map places_given (map (with_values sheet values) (filter (λ s. not (is_commissioning s.name)) xs))
          ≡ flat_map places_given xs
          → flat_map places_given (map (with_values sheet values)
          (cond (not t) (x ∷ filter (λ s. not (is_commissioning s.name)) xs)
          (filter (λ s. not (is_commissioning s.name)) xs))) ≡ places_given x ++ flat_map places_given xs
      by true e rest = rest ∙ ap (λ ps. ps ++ flat_map places_given xs)
          (sym (other_gives_none x (node_is_other x.name e)))
      by false e rest = λ i. given_same x i ++ rest i

  given_made : (xs : List ℕ) → flat_map places_given (filter_map (made_section sheet values) xs) ≡ []
  given_made [] = refl
  given_made (x ∷ xs) = by (made_section sheet values x) refl (given_made xs)
    where
      by : (o : Option Section) → made_section sheet values x ≡ o
          → flat_map places_given (filter_map (made_section sheet values) xs) ≡ []
          → flat_map places_given (cons_option o (filter_map (made_section sheet values) xs)) ≡ []
      by None e rest = rest
      by (Some s) e rest = λ i. other_gives_none s
          (subst IsOther (sym (made_name sheet values x s e)) (made_is_other x)) i
          ++ rest i

  given_last : places_given (commissioning sheet.sections node label bitrate) ≡ []
  unfolding commissioning
  given_last = other_gives_none (commissioning sheet.sections node label bitrate) (node_is_other first_spelling refl)

  -- the same ones
  pub pairs_same : pairs_of (sections_with sheet node label bitrate values) ≡ pairs_of sheet.sections
  unfolding pairs_of sections_with made_sections
  pairs_same =
      let kept : List Section =
      map (with_values sheet values) (filter (λ s. not (is_commissioning s.name)) sheet.sections) in
      let new : List Section = filter_map (made_section sheet values) indices in
      let last : List Section = commissioning sheet.sections node label bitrate ∷ [] in
      ap (put_in_order [])
      (flat_map-append places_given kept (new ++ last)
      ∙ ap (λ ps. flat_map places_given kept ++ ps)
      (flat_map-append places_given new last ∙ (λ i. given_made indices i ++ (given_last i ++ [])))
      ∙ append-nil (flat_map places_given kept) ∙ given_kept sheet.sections)

  -- ---- types of version 3

  entry_new : (place : ℕ × ℕ) → is_new_entry (sections_with sheet node label bitrate values) place
      ≡ is_new_entry sheet.sections place
  entry_new place =
      ap (λ o. option_map_or (λ origin. is_new (description_by place.1 origin).kind) o false)
      (origin_same place.0 place.1)
      ∙ by (origin_of sheet.sections place.0 place.1) refl
    where
      by : (o : Option Origin) → origin_of sheet.sections place.0 place.1 ≡ o
          → option_map_or (λ origin. is_new (description_by place.1 origin).kind)
          (option_map (map_origin (with_values sheet values)) o) false
          ≡ option_map_or (λ origin. is_new (description_by place.1 origin).kind) o false
      by None e = refl
      by (Some o) e =
          ap (λ (d : Described). is_new d.kind)
          (described_by_same place.1 o (stays_alike sheet values (section_in o) (origin_named place.0 place.1 o e)))

  object_new : (index : ℕ) → is_new_object (sections_with sheet node label bitrate values) index
      ≡ is_new_object sheet.sections index
  object_new index =
      ap (λ o. option_map_or (λ s. is_some (compact_count s) && is_new (kind_of s)) o false)
      (object_section_same sheet values node label bitrate index)
      ∙ by (object_section sheet.sections index) refl
    where
      by : (o : Option Section) → object_section sheet.sections index ≡ o
          → option_map_or (λ s. is_some (compact_count s) && is_new (kind_of s))
          (option_map (with_values sheet values) o) false
          ≡ option_map_or (λ s. is_some (compact_count s) && is_new (kind_of s)) o false
      by None e = refl
      by (Some s) e =
          let t = with_values sheet values s in
          let alike = object_alike index s e in
          λ i. is_some (alike_count s t alike i) && is_new (alike_kind s t alike i)

  new_same : (place : ℕ × ℕ)
      → is_new_at (sections_with sheet node label bitrate values) place ≡ is_new_at sheet.sections place
  new_same place = λ i. entry_new place i || object_new place.0 i

  -- some entry has one, or some compact object says one, where it was so
  pub new_types_same : has_new_types (sections_with sheet node label bitrate values) ≡ has_new_types sheet.sections
  unfolding has_new_types
  new_types_same =
      let same_test : is_new_at (sections_with sheet node label bitrate values) ≡ is_new_at sheet.sections =
      λ i place. new_same place i in
      ap (list_any (is_new_at (sections_with sheet node label bitrate values))) pairs_same
      ∙ ap (λ (p : ℕ × ℕ → Bool). list_any p (pairs_of sheet.sections)) same_test
