-- What holds of the values of an EDS and of a node's settings holds of the texts of its parameters.
use Rattle.std.proofs.Common.{◌==◌, ℕ, Bool, true, false, cond, List, [], ◌∷◌, IfSome, Option, None, Some, option_map}
use Rattle.std.proofs.Common.{option_and_then, codes, nat_le}
use Rattle.std.specs.List.{AllByRecursion, find}
use Rattle.std.specs.Option.{option_or}
use Rattle.ini_text.specs.Content.{Pair, Section, same, value_at}
use Rattle.cia301.specs.PdoObjects.{is_of_pdos}
use Rattle.eds_device.specs.Described.{listed_value, sub_listed, unless_empty, value_by, value_text}
use Rattle.eds_device.specs.Names.{index_named, place_named, values_named}
use Rattle.eds_device.specs.Origins.{Origin, own, compact, is_index, is_place, object_section, origin_of, sub_section}
use Rattle.eds_device.specs.Origins.{values_section}
use Rattle.eds_device.specs.Sections.{compact_count, is_plain}
use Rattle.eds_device.specs.Sheets.{Sheet}
use Rattle.std.specs.FinMap.{get}
use Rattle.node_parameters.specs.Params.{Texts}
use Rattle.node_parameters.specs.Parameters.{given_text, parameter_text}
use Rattle.eds_dcf.specs.Standing.{section_in}
use Rattle.eds_dcf.proofs.SectionLemmas.{found_all}

-- the section of an entry is one of the sections
module _ (P : Section → Type 0) (index sub : ℕ) where
  counted_all : (s : Section) → P s → (c : Option ℕ)
      → IfSome (option_and_then (λ n. cond (nat_le sub n) (Some (compact s n)) None) c) (λ o. P (section_in o))
  counted_all s h None = tt
  counted_all s h (Some n) = by (nat_le sub n)
    where
      by : (t : Bool) → IfSome (cond t (Some (compact s n)) None) (λ o. P (section_in o))
      by true = h
      by false = tt

  origin_by : (t : Bool) (a b : Option Section) → IfSome a P → IfSome b P
      → IfSome (option_or (option_map own a)
      (option_or (cond t (option_and_then (λ s. cond (is_plain s) (Some (own s)) None) b) None)
      (option_and_then (λ s. option_and_then (λ n. cond (nat_le sub n) (Some (compact s n)) None)
      (compact_count s)) b))) (λ o. P (section_in o))
  origin_by t (Some s) b ha hb = ha
  origin_by true None None ha hb = tt
  origin_by false None None ha hb = tt
  origin_by false None (Some s) ha hb = counted_all s hb (compact_count s)
  origin_by true None (Some s) ha hb = by (is_plain s)
    where
      by : (u : Bool)
          → IfSome (option_or (cond u (Some (own s)) None)
          (option_and_then (λ n. cond (nat_le sub n) (Some (compact s n)) None) (compact_count s)))
          (λ o. P (section_in o))
      by true = hb
      by false = counted_all s hb (compact_count s)

  origin_all : (sheet : Sheet) → AllByRecursion P sheet.sections
      → IfSome (origin_of sheet.sections index sub) (λ o. P (section_in o))
  unfolding origin_of sub_section object_section
  origin_all sheet h =
      origin_by (sub == 0) (find (λ s. is_place (index, sub) (place_named s.name)) sheet.sections)
      (find (λ s. is_index index (index_named s.name)) sheet.sections)
      (found_all P (λ s. is_place (index, sub) (place_named s.name)) sheet.sections h)
      (found_all P (λ s. is_index index (index_named s.name)) sheet.sections h)

module _ (Good : List ℕ → Type 0) where
  -- each value of the section is good
  abbrev pub HasGood : Section → Type 0
  HasGood s = AllByRecursion (λ (p : Pair). Good p.value) s.pairs

  value_all : (ps : List Pair) (key : List ℕ) → AllByRecursion (λ p. Good p.value) ps → IfSome (value_at ps key) Good
  value_all [] key h = tt
  value_all (p ∷ ps) key h = by (same key p.key) (value_all ps key h.1)
    where
      by : (t : Bool) → IfSome (value_at ps key) Good → IfSome (cond t (Some p.value) (value_at ps key)) Good
      by true rest = h.0
      by false rest = rest

  found_value : (o : Option Pair) → IfSome o (λ p. Good p.value) → IfSome (option_map (λ (p : Pair). p.value) o) Good
  found_value None h = tt
  found_value (Some p) h = h

  listed_all : (sheet : Sheet) (index sub : ℕ) → AllByRecursion HasGood sheet.sections
      → IfSome (listed_value sheet.sections index sub) Good
  unfolding listed_value values_section
  listed_all sheet index sub h = by (find (λ s. is_index index (values_named s.name)) sheet.sections)
      (found_all HasGood (λ s. is_index index (values_named s.name)) sheet.sections h)
    where
      by : (o : Option Section) → IfSome o HasGood
          → IfSome (option_and_then (λ (s : Section). option_map (λ (p : Pair). p.value)
          (find (λ p. is_index sub (sub_listed p.key)) s.pairs)) o) Good
      by None h = tt
      by (Some s) h = found_value (find (λ p. is_index sub (sub_listed p.key)) s.pairs)
          (found_all (λ (p : Pair). Good p.value) (λ p. is_index sub (sub_listed p.key)) s.pairs h)

  left_some : (o : Option (List ℕ)) → IfSome o Good → IfSome (option_and_then unless_empty o) Good
  left_some None h = tt
  left_some (Some []) h = tt
  left_some (Some (c ∷ cs)) h = h

  given_all : (sheet : Sheet) (index sub : ℕ) → AllByRecursion HasGood sheet.sections
      → IfSome (value_text sheet.sections index sub) Good
  unfolding value_text
  given_all sheet index sub h =
      left_some (option_and_then (value_by sheet.sections index sub) (origin_of sheet.sections index sub))
      (by (origin_of sheet.sections index sub) (origin_all HasGood index sub sheet h))
    where
      by : (o : Option Origin) → IfSome o (λ o. HasGood (section_in o))
          → IfSome (option_and_then (value_by sheet.sections index sub) o) Good
      by None g = tt
      by (Some (own s)) g = value_all s.pairs (codes "ParameterValue") g
      by (Some (compact s n)) g = listed_all sheet index sub h

  either_value : (a b : Option (List ℕ)) → IfSome a Good → IfSome b Good → IfSome (option_or a b) Good
  either_value None b h g = g
  either_value (Some text) b h g = h

  unless_pdo : (t : Bool) (o : Option (List ℕ)) → IfSome o Good → IfSome (cond t None o) Good
  unless_pdo true o h = tt
  unless_pdo false o h = h

  pub text_all : (sheet : Sheet) (params : Texts) → AllByRecursion HasGood sheet.sections
      → ((place : ℕ × ℕ) → IfSome (get params place) Good)
      → (place : ℕ × ℕ) → IfSome (parameter_text sheet.sections params place) Good
  unfolding parameter_text
  text_all sheet params values lines place =
      left_some (option_or (get params place) (given_text sheet.sections place))
      (either_value (get params place) (given_text sheet.sections place) (lines place)
      (unless_pdo (is_of_pdos place.0) (value_text sheet.sections place.0 place.1)
      (given_all sheet place.0 place.1 values)))
