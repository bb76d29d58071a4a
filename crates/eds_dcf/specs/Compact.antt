-- The sections `[xxxxValue]` of an EDS or DCF (CiA 306), which list the values of a compact object's subs.
use Rattle.std.specs.Prelude.{ℕ, ◌+◌, ◌==◌, ◌||◌, ◌&&◌, ◌++◌, not, Bool, false, true, is_some, if◌then◌else◌, List, []}
use Rattle.std.specs.Prelude.{◌∷◌, length, filter, filter_map, count_by, codes, decimal, Option, Some, None, option_map}
use Rattle.std.specs.Prelude.{option_and_then}
use Rattle.std.specs.Char.{is_digit}
use Rattle.std.specs.List.{list_all, list_any}
use Rattle.std.specs.Option.{option_map_or}
use Rattle.base.specs.Digits.{index_digits}
use Rattle.ini_text.specs.Content.{Pair, Section}
use Rattle.ini_text.specs.Change.{put_value}
use Rattle.co_values.specs.Values.{text_of_value}
use Rattle.eds_device.specs.Described.{kind_at}
use Rattle.eds_device.specs.Places.{first_subs}
use Rattle.eds_device.specs.Sections.{compact_count}
use Rattle.eds_device.specs.Origins.{Origin, own, compact, object_section, values_section, origin_of}
use Rattle.eds_device.specs.Sheets.{Sheet}
use Rattle.eds_dcf.specs.Entries.{says_modelled}

-- a compact object: its section, and its highest sub-index
unfoldable pub compact_object : Sheet → ℕ → Option (Section × ℕ)
compact_object sheet index = option_and_then (λ s. option_map (λ n. (s, n)) (compact_count s))
    (object_section sheet.sections index)

-- whether an entry stands in the section of a compact object
abbrev pub is_compact : Option Origin → Bool
is_compact None = false
is_compact (Some (own section)) = false
is_compact (Some (compact section highest)) = true

-- `k=value` for a compact sub k with a value: k in decimal digits, and the value as a DCF prints it
unfoldable pub value_pair : Sheet → (ℕ × ℕ → Option (List ℕ)) → ℕ × ℕ → Option Pair
value_pair sheet values place =
    if is_compact (origin_of sheet.sections place.0 place.1)
    then option_map (λ bytes. record { key = decimal place.1; value = text_of_value (kind_at sheet place) bytes })
    (values place)
    else None

-- the values that are set of an object's compact subs, by sub
unfoldable pub values_set : Sheet → (ℕ × ℕ → Option (List ℕ)) → ℕ → ℕ → List Pair
values_set sheet values index highest = filter_map (value_pair sheet values) (first_subs index (highest + 1))

-- decimal digits alone
abbrev pub is_decimal : List ℕ → Bool
is_decimal key = not (length key == 0) && list_all (λ c. is_digit c 10) key

-- with each of the new pairs where its key stands, or last
abbrev pub with_all : List Pair → List Pair → List Pair
with_all pairs [] = pairs
with_all pairs (p ∷ ps) = with_all (put_value pairs p.key p.value) ps

-- with the number of the decimal keys in NrOfEntries, where it stands, or last
abbrev pub with_count : List Pair → List Pair
with_count pairs = put_value pairs (codes "NrOfEntries") (decimal (count_by (λ p. is_decimal p.key) pairs))

-- of an object with a modelled type each decimal key goes, and the set ones come last; of another object none goes
abbrev pub with_set : Bool → List Pair → List Pair → List Pair
with_set true pairs set = filter (λ p. not (is_decimal p.key)) pairs ++ set
with_set false pairs set = with_all pairs set

-- the pairs of `[xxxxValue]` with the values that are set: NrOfEntries follows where a decimal key went or was set
unfoldable pub values_pairs : Bool → List Pair → List Pair → List Pair
values_pairs modelled pairs set =
    if (modelled && list_any (λ p. is_decimal p.key) pairs) || not (length set == 0)
    then with_count (with_set modelled pairs set) else pairs

-- of a section `[xxxxValue]` of a compact object; that of another object stays
unfoldable pub values_pairs_at : Sheet → (ℕ × ℕ → Option (List ℕ)) → ℕ → List Pair → List Pair
values_pairs_at sheet values index pairs =
    option_map_or (λ c. values_pairs (says_modelled sheet c.0) pairs (values_set sheet values index c.1))
    (compact_object sheet index) pairs

-- `xxxxValue` with four upper-case digits
abbrev pub values_name : ℕ → List ℕ
values_name index = index_digits index ++ codes "Value"

-- a new section with values, if there are any: the count first
abbrev pub new_values : ℕ → List Pair → Option Section
new_values index set =
    if length set == 0 then None
    else Some (record {
      name = values_name index;
      pairs = record { key = codes "NrOfEntries"; value = decimal (length set) } ∷ set;
    })

-- the section that is made for a compact object without one
unfoldable pub made_section : Sheet → (ℕ × ℕ → Option (List ℕ)) → ℕ → Option Section
made_section sheet values index =
    if is_some (values_section sheet.sections index) then None
    else option_and_then (λ c. new_values index (values_set sheet values index c.1)) (compact_object sheet index)
