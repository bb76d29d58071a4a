-- What the DCFs of one data sheet have alike.
use Rattle.std.specs.Prelude.{◌≡◌, ℕ, ◌%◌, Bool, false, if◌then◌else◌, List, [], length, map, take, Option, None}
use Rattle.std.specs.Prelude.{slice_index_or}
use Rattle.std.specs.List.{flat_map}
use Rattle.ini_text.specs.Content.{Section}
use Rattle.ini_text.specs.Change.{section_text}
use Rattle.eds_device.specs.Names.{index_named}
use Rattle.eds_device.specs.Sheets.{Sheet}
use Rattle.eds_dcf.specs.Commissioning.{is_commissioning}
use Rattle.eds_dcf.specs.Dcf.{with_values}

-- no entry has a value
abbrev pub no_values : ℕ × ℕ → Option (List ℕ)
no_values place = None

-- the text of a section with the values; the one that names the node has none here
unfoldable pub piece : Sheet → (ℕ × ℕ → Option (List ℕ)) → Section → List ℕ
piece sheet values s = if is_commissioning s.name then [] else section_text (with_values sheet values s)

-- the object that a name begins with, as `[xxxx]`, `[xxxxsubN]` and `[xxxxValue]` do
unfoldable pub object_begun : List ℕ → Option ℕ
object_begun name = index_named (take 4 name)

-- the object of a section, and the length of its text where no entry has a value
abbrev pub room_of : Sheet → Section → Option ℕ × ℕ
room_of sheet s = (object_begun s.name, length (piece sheet no_values s))

-- of each section its object and its length, and the text of all where no entry has a value
abbrev pub IsTemplate : Sheet → List (Option ℕ × ℕ) → List ℕ → Type 0
IsTemplate sheet rooms text =
    (rooms ≡ map (room_of sheet) sheet.sections) × (text ≡ flat_map (piece sheet no_values) sheet.sections)

-- of an object whose flag isn't set no entry has a value
abbrev pub Tells : List Bool → (ℕ × ℕ → Option (List ℕ)) → Type 0
Tells flags values = (index sub : ℕ) → slice_index_or flags (index % 4096) false ≡ false → values (index, sub) ≡ None
