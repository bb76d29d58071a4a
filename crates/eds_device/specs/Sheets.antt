-- A data sheet as a device is read from it (CiA 306): the sections of its text, the numbers of its warned lines, and
-- whether the data types that version 3 alone models count.
use Rattle.std.specs.Prelude.{ℕ, ◌==◌, ◌&&◌, ◌||◌, is_some, Bool, false, if◌then◌else◌, List}
use Rattle.std.specs.List.{list_any}
use Rattle.std.specs.Option.{option_map_or}
use Rattle.ini_text.specs.Content.{Content, Section, content_of}
use Rattle.co_values.specs.Types.{is_new}
use Rattle.eds_entries.specs.Described.{Described, description_in, highest_sub}
use Rattle.eds_entries.specs.Sections.{compact_count, kind_of}
use Rattle.eds_places.specs.Origins.{Origin, own, compact, object_section, origin_of}
use Rattle.eds_places.specs.Places.{pairs_of}

pub record Sheet : Type 0 where
  pub sections : List Section
  pub warnings : List ℕ
  pub is_three : Bool

abbrev pub sheet_with : Bool → Content → Sheet
sheet_with is_three content = record {
  sections = content.sections;
  warnings = content.warnings;
  is_three = is_three;
}

-- the content of its text
abbrev pub content_in : Sheet → Content
content_in sheet = record { sections = sheet.sections; warnings = sheet.warnings }

-- what the section says of an entry that stands there
abbrev pub description_by : ℕ → Origin → Described
description_by sub (own section) = description_in section
description_by sub (compact section n) = if sub == 0 then highest_sub n else description_in section

-- an entry has a type that version 3 alone models
abbrev pub is_new_entry : List Section → ℕ × ℕ → Bool
is_new_entry ss place =
    option_map_or (λ origin. is_new (description_by place.1 origin).kind) (origin_of ss place.0 place.1) false

-- a compact object says such a type for its subs, also where each of these stands in a section of its own
abbrev pub is_new_object : List Section → ℕ → Bool
is_new_object ss index =
    option_map_or (λ s. is_some (compact_count s) && is_new (kind_of s)) (object_section ss index) false

-- one of the two
abbrev pub is_new_at : List Section → ℕ × ℕ → Bool
is_new_at ss place = is_new_entry ss place || is_new_object ss place.0

-- so it is at some place
unfoldable pub has_new_types : List Section → Bool
has_new_types ss = list_any (is_new_at ss) (pairs_of ss)

-- THE DATA SHEET of a content, in version 3 or before: where nothing says such a type, it is the same in all versions
abbrev pub sheet_in : Bool → Content → Sheet
sheet_in is_three content = sheet_with (is_three && has_new_types content.sections) content

-- and that of a text
abbrev pub sheet_of : Bool → List ℕ → Sheet
sheet_of is_three text = sheet_in is_three (content_of text)
