-- Where an entry of a device stands (CiA 306): in an object section of its own, or in that of a compact object; and
-- where the values of a compact object are listed.
use Rattle.std.specs.Prelude.{ℕ, ◌==◌, nat_le, ◌&&◌, Bool, false, if◌then◌else◌, List, Option, Some, None, option_map}
use Rattle.std.specs.Prelude.{option_and_then}
use Rattle.std.specs.List.{find}
use Rattle.std.specs.Option.{option_or, option_map_or}
use Rattle.ini_text.specs.Content.{Section, Pair}
use Rattle.eds_entries.specs.Names.{index_named, place_named, sub_listed, values_named}
use Rattle.eds_entries.specs.Sections.{is_plain, compact_count}

-- an entry's own section; or a compact object's, with its highest sub-index
pub data Origin : Type 0 where
  own : Section → Origin
  compact : Section → ℕ → Origin

-- whether what a name says is the index
abbrev pub is_index : ℕ → Option ℕ → Bool
is_index index named = option_map_or (λ n. index == n) named false

-- whether what a name says is the place, by index and sub
abbrev pub is_place : ℕ × ℕ → Option (ℕ × ℕ) → Bool
is_place place named = option_map_or (λ p. (place.0 == p.0) && (place.1 == p.1)) named false

-- the first section that is named for an entry
unfoldable pub sub_section : List Section → ℕ → ℕ → Option Section
sub_section ss index sub = find (λ s. is_place (index, sub) (place_named s.name)) ss

-- the first section that is named for an object
unfoldable pub object_section : List Section → ℕ → Option Section
object_section ss index = find (λ s. is_index index (index_named s.name)) ss

-- the first section that is named for an object's compact values
unfoldable pub values_section : List Section → ℕ → Option Section
values_section ss index = find (λ s. is_index index (values_named s.name)) ss

-- the value that `[xxxxValue]` lists for a sub: of two spellings of it the first counts
unfoldable pub listed_value : List Section → ℕ → ℕ → Option (List ℕ)
listed_value ss index sub =
    option_and_then (λ s. option_map (λ (p : Pair). p.value) (find (λ p. is_index sub (sub_listed p.key)) s.pairs))
    (values_section ss index)

-- rule 1: `[xxxxsubN]` gives sub N
abbrev pub from_sub : List Section → ℕ → ℕ → Option Origin
from_sub ss index sub = option_map own (sub_section ss index sub)

-- rule 2: `[xxxx]` of a VAR or DOMAIN gives sub 0
abbrev pub from_object : List Section → ℕ → ℕ → Option Origin
from_object ss index sub =
    if sub == 0 then option_and_then (λ s. if is_plain s then Some (own s) else None) (object_section ss index)
    else None

-- rule 3: `[xxxx]` with CompactSubObj n gives subs 0 to n
abbrev pub from_compact : List Section → ℕ → ℕ → Option Origin
from_compact ss index sub =
    option_and_then (λ s. option_and_then (λ n. if nat_le sub n then Some (compact s n) else None) (compact_count s))
    (object_section ss index)

-- the first of the rules that gives an entry
unfoldable pub origin_of : List Section → ℕ → ℕ → Option Origin
origin_of ss index sub = option_or (from_sub ss index sub)
    (option_or (from_object ss index sub) (from_compact ss index sub))
