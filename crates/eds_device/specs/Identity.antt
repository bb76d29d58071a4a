-- The identity of a device (CiA 301): the defaults of the objects device type and identity.
use Rattle.std.specs.Prelude.{ℕ, nat_lt, ℤ, pos, negsuc, Bool, true, false, if◌then◌else◌, List, [], ◌∷◌, Option, Some}
use Rattle.std.specs.Prelude.{None, option_and_then}
use Rattle.std.specs.Option.{option_map_or}
use Rattle.co_values.specs.declared.data_type.DataType.{DataType}
use Rattle.co_values.specs.declared.data_type.DataType.TheVariants.{Boolean, Integer8, Integer16, Integer24, Integer32}
use Rattle.co_values.specs.declared.data_type.DataType.TheVariants.{Integer40, Integer48, Integer56, Integer64}
use Rattle.co_values.specs.declared.data_type.DataType.TheVariants.{Unsigned8, Unsigned16, Unsigned24, Unsigned32}
use Rattle.co_values.specs.declared.data_type.DataType.TheVariants.{Unsigned40, Unsigned48, Unsigned56, Unsigned64}
use Rattle.co_values.specs.declared.data_type.DataType.TheVariants.{Real32, Real64, VisibleString, OctetString, Domain, NotModelled}
use Rattle.co_values.specs.Values.{number_in}
use Rattle.eds_device.specs.Described.{Default, written, count, Described, kind_at}
use Rattle.eds_device.specs.Entries.{number_spelled, default_at}
use Rattle.eds_device.specs.Sheets.{Sheet}

-- the types that an identity's numbers may have: UNSIGNEDn of at most four bytes
abbrev pub is_identity_type : DataType → Bool
is_identity_type Boolean = false
is_identity_type Integer8 = false
is_identity_type Integer16 = false
is_identity_type Integer24 = false
is_identity_type Integer32 = false
is_identity_type Integer40 = false
is_identity_type Integer48 = false
is_identity_type Integer56 = false
is_identity_type Integer64 = false
is_identity_type Unsigned8 = true
is_identity_type Unsigned16 = true
is_identity_type Unsigned24 = true
is_identity_type Unsigned32 = true
is_identity_type Unsigned40 = false
is_identity_type Unsigned48 = false
is_identity_type Unsigned56 = false
is_identity_type Unsigned64 = false
is_identity_type Real32 = false
is_identity_type Real64 = false
is_identity_type VisibleString = false
is_identity_type OctetString = false
is_identity_type Domain = false
is_identity_type NotModelled = false

-- a number, 0 where there is none and for a negative one
abbrev pub or_zero : Option ℤ → ℕ
or_zero None = 0
or_zero (Some (pos n)) = n
or_zero (Some (negsuc n)) = 0

-- the number that the default of an entry is; 0 of an entry of another type, and where there is no entry
unfoldable pub identity_number : Sheet → ℕ → ℕ → ℕ → ℕ
identity_number sheet node index sub =
    let kind = kind_at sheet (index, sub) in
    if is_identity_type kind then or_zero (option_and_then (number_in kind) (default_at sheet node index sub)) else 0

-- device type, vendor, product, revision and serial number
unfoldable pub identity : Sheet → ℕ → List ℕ
identity sheet node =
    identity_number sheet node 0x1000 0 ∷ identity_number sheet node 0x1018 1 ∷ identity_number sheet node 0x1018 2
    ∷ identity_number sheet node 0x1018 3 ∷ identity_number sheet node 0x1018 4 ∷ []

-- ---- the program's own reading of a description, which no contract of a public call shows

-- a number of four bytes, else 0
abbrev pub four_bytes : ℤ → ℕ
four_bytes (pos n) = if nat_lt n 4294967296 then n else 0
four_bytes (negsuc n) = 0

abbrev pub default_number : DataType → ℕ → Default → ℕ
default_number kind node (written text) = option_map_or four_bytes (number_spelled kind text node) 0
default_number kind node (count n) = n

abbrev pub identity_by : ℕ → Described → ℕ
identity_by node d = if is_identity_type d.kind then default_number d.kind node d.default else 0
