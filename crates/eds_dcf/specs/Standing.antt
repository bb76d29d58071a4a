-- The values that stand for entries in the sections of an EDS or DCF (CiA 306).
use Rattle.std.specs.Prelude.{ℕ, Bool, false, List, Option, option_and_then}
use Rattle.std.specs.Option.{option_map_or}
use Rattle.ini_text.specs.Content.{Section}
use Rattle.eds_device.specs.Described.{value_by}
use Rattle.eds_device.specs.Origins.{Origin, own, compact, origin_of}
use Rattle.eds_device.specs.Sheets.{Sheet}
use Rattle.eds_dcf.specs.Entries.{says_modelled}

-- the section in which an entry stands: its own, or that of its compact object
abbrev pub section_in : Origin → Section
section_in (own section) = section
section_in (compact section highest) = section

-- whether the section of an entry says a type that is modelled in the version
unfoldable pub is_typed : Sheet → ℕ × ℕ → Bool
is_typed sheet place = option_map_or (λ origin. says_modelled sheet (section_in origin))
    (origin_of sheet.sections place.0 place.1) false

-- what stands as the value of an entry: ParameterValue in its own section, or its value in `[xxxxValue]`
unfoldable pub value_that_stands : List Section → ℕ × ℕ → Option (List ℕ)
value_that_stands ss place = option_and_then (value_by ss place.0 place.1) (origin_of ss place.0 place.1)
