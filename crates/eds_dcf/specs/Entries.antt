-- The entry that stands in a section of its own (CiA 306).
use Rattle.std.specs.Prelude.{ℕ, ◌&&◌, Bool, false, if◌then◌else◌, List, ◌++◌, bytes_eq, codes, Option, Some, None}
use Rattle.std.specs.Prelude.{option_map, option_and_then}
use Rattle.std.specs.Option.{option_or, option_to_list}
use Rattle.ini_text.specs.Content.{Pair, Section}
use Rattle.co_values.specs.declared.data_type.DataType.{DataType}
use Rattle.co_values.specs.Types.{is_modelled, type_in}
use Rattle.co_values.specs.Values.{text_of_value}
use Rattle.eds_device.specs.Described.{kind_at}
use Rattle.eds_device.specs.Names.{index_named, place_named}
use Rattle.eds_device.specs.Origins.{Origin, own, compact, origin_of}
use Rattle.eds_device.specs.Sections.{kind_of}
use Rattle.eds_device.specs.Sheets.{Sheet}
use Rattle.eds_dcf.specs.Pairs.{without}

-- the entry that a section is named for: `[xxxxsubN]`, or `[xxxx]` for sub 0
unfoldable pub own_place : List ℕ → Option (ℕ × ℕ)
own_place name = option_or (place_named name) (option_map (λ index. (index, 0)) (index_named name))

-- whether a section says a type that is modelled in the version
abbrev pub says_modelled : Sheet → Section → Bool
says_modelled sheet section = is_modelled (type_in sheet.is_three (kind_of section))

-- whether an entry stands in the section of that name
abbrev pub is_in : List ℕ → Option Origin → Bool
is_in name None = false
is_in name (Some (own section)) = bytes_eq section.name name
is_in name (Some (compact section highest)) = false

-- the modelled entry that stands in the section of a name
unfoldable pub parameter_place : Sheet → List ℕ → Option (ℕ × ℕ)
parameter_place sheet name = option_and_then
    (λ place. if is_in name (origin_of sheet.sections place.0 place.1) && is_modelled (kind_at sheet place)
    then Some place else None) (own_place name)

-- ParameterValue goes, and comes last where there is a value
abbrev pub parameter_pairs : List Pair → DataType → Option (List ℕ) → List Pair
parameter_pairs pairs kind value =
    without (codes "ParameterValue") pairs
    ++ option_to_list (option_map (λ bytes. record { key = codes "ParameterValue"; value = text_of_value kind bytes })
    value)
