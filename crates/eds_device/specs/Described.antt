-- What an EDS says of an entry (CiA 306), its texts as they stand.
use Rattle.std.specs.Prelude.{ℕ, ◌==◌, Bool, if◌then◌else◌, List, Option, option_map, option_and_then, codes}
use Rattle.std.specs.Option.{option_map_or}
use Rattle.ini_text.specs.Content.{Section, value_at}
use Rattle.co_values.specs.declared.data_type.DataType.{DataType}
use Rattle.co_values.specs.declared.data_type.DataType.TheVariants.{NotModelled}
use Rattle.co_values.specs.Types.{type_in}
unfoldable pub use Rattle.eds_entries.specs.Described.{access_named, access_of, is_set}
pub use Rattle.eds_entries.specs.Described.{text_at, is_not_zero, Default, written, count, Described, description_in}
pub use Rattle.eds_entries.specs.Described.{highest_sub, unless_empty, written_text}
unfoldable pub use Rattle.eds_entries.specs.Names.{sub_listed}
unfoldable pub use Rattle.eds_places.specs.Origins.{listed_value}
use Rattle.eds_places.specs.Origins.{Origin, own, compact, origin_of}
use Rattle.eds_device.specs.Sheets.{Sheet}
pub use Rattle.eds_device.specs.Sheets.{description_by}

-- what is said of an entry, its type as the version knows it
abbrev pub known_as : Bool → Described → Described
known_as is_three d = record d { kind = type_in is_three d.kind }

-- what a data sheet says of an entry
unfoldable pub description_of : Sheet → ℕ → ℕ → Option Described
description_of sheet index sub =
    option_map (λ origin. known_as sheet.is_three (description_by sub origin)) (origin_of sheet.sections index sub)

-- the type of an entry, not modelled where there is none
unfoldable pub kind_at : Sheet → ℕ × ℕ → DataType
kind_at sheet place = option_map_or (λ (d : Described). d.kind) (description_of sheet place.0 place.1) NotModelled

-- an entry's DefaultValue, unless it is empty; sub 0 of a compact object has none
unfoldable pub default_text : Sheet → ℕ → ℕ → Option (List ℕ)
default_text sheet index sub = option_and_then (λ (d : Described). written_text d.default) (description_of sheet index sub)

-- the value that is set where an entry stands: ParameterValue, and of a compact object's sub what `[xxxxValue]` lists
abbrev pub value_by : List Section → ℕ → ℕ → Origin → Option (List ℕ)
value_by ss index sub (own section) = value_at section.pairs (codes "ParameterValue")
value_by ss index sub (compact section n) = listed_value ss index sub

-- the value that is set of an entry, unless it is empty
unfoldable pub value_text : List Section → ℕ → ℕ → Option (List ℕ)
value_text ss index sub = option_and_then unless_empty (option_and_then (value_by ss index sub)
    (origin_of ss index sub))
