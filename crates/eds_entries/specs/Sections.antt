-- What one object section says (CiA 306).
use Rattle.std.specs.Prelude.{ℕ, ◌==◌, nat_lt, nat_le, ◌&&◌, ℤ, pos, negsuc, Bool, true, false, if◌then◌else◌, List}
use Rattle.std.specs.Prelude.{Option, Some, None, option_and_then, codes}
use Rattle.std.specs.Option.{option_map_or}
use Rattle.ini_text.specs.Content.{Section, value_at}
use Rattle.co_values.specs.declared.data_type.DataType.{DataType}
use Rattle.co_values.specs.declared.data_type.DataType.TheVariants.{NotModelled, Domain as DomainType}
use Rattle.co_values.specs.Number.{number}
use Rattle.co_values.specs.Types.{type_of_code}
use Rattle.eds_entries.specs.declared.object_type.ObjectType.{ObjectType}
use Rattle.eds_entries.specs.declared.object_type.ObjectType.TheVariants.{Domain, Variable, Array, Record, Other}

-- the number that the value of a key spells
unfoldable pub number_at : Section → List ℕ → Option ℤ
number_at section key = option_and_then number (value_at section.pairs key)

-- the object with a code (CiA 301, object codes)
abbrev pub object_of : ℕ → ObjectType
object_of code =
    if code == 2 then Domain
    else if code == 7 then Variable
    else if code == 8 then Array
    else if code == 9 then Record
    else Other

-- the same of any number
abbrev pub object_of_number : ℤ → ObjectType
object_of_number (pos code) = object_of code
object_of_number (negsuc n) = Other

-- ObjectType: without the key VAR; a value that is no number is no object of these (own)
unfoldable pub object_type : Section → ObjectType
object_type section = option_map_or (λ text. option_map_or object_of_number (number text) Other)
    (value_at section.pairs (codes "ObjectType")) Variable

-- an object of one entry
abbrev pub is_plain_type : ObjectType → Bool
is_plain_type Variable = true
is_plain_type Domain = true
is_plain_type Array = false
is_plain_type Record = false
is_plain_type Other = false

-- the section of one entry: VAR or DOMAIN
unfoldable pub is_plain : Section → Bool
is_plain section = is_plain_type (object_type section)

-- an object that may be compact
abbrev pub is_compact_type : ObjectType → Bool
is_compact_type Array = true
is_compact_type Record = true
is_compact_type Variable = false
is_compact_type Domain = false
is_compact_type Other = false

-- a number from 1 to 254, as the highest sub-index of a compact object is
abbrev pub in_subs : ℤ → Option ℕ
in_subs (pos n) = if nat_lt 0 n && nat_le n 254 then Some n else None
in_subs (negsuc n) = None

-- CompactSubObj of an ARRAY or a RECORD: its highest sub-index
unfoldable pub compact_count : Section → Option ℕ
compact_count section = if is_compact_type (object_type section)
    then option_and_then in_subs (number_at section (codes "CompactSubObj")) else None

-- the type of an object without DataType
abbrev pub kind_without : ObjectType → DataType
kind_without Domain = DomainType
kind_without Variable = NotModelled
kind_without Array = NotModelled
kind_without Record = NotModelled
kind_without Other = NotModelled

-- DataType: without the key DOMAIN for an object DOMAIN, else not modelled; nor is a value that is no number (own)
unfoldable pub kind_of : Section → DataType
kind_of section = option_map_or (λ text. option_map_or type_of_code (number text) NotModelled)
    (value_at section.pairs (codes "DataType")) (kind_without (object_type section))
