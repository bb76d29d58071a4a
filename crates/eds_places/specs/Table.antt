-- The program's own table of the entries: where each of them stands. No contract of a device shows it.
use Rattle.std.specs.Prelude.{◌≡◌, ℕ, List, Option, Some, None, map, option_map, option_and_then}
use Rattle.std.specs.List.{slice_get}
use Rattle.ini_text.specs.Content.{Section}
use Rattle.eds_places.specs.declared.table.Stand.{Stand}
use Rattle.eds_places.specs.Origins.{Origin, own, compact, origin_of}

-- what stands in a section: its own entry, or those of a compact object with a highest sub-index
abbrev pub origin_in : Option ℕ → Section → Origin
origin_in None s = own s
origin_in (Some n) s = compact s n

-- what stands in the section at a position
abbrev pub origin_at : List Section → Stand → Option Origin
origin_at ss stand = option_map (origin_in stand.highest) (slice_get ss stand.position)

-- the same of what may stand nowhere
abbrev pub standing : List Section → Option Stand → Option Origin
standing ss o = option_and_then (origin_at ss) o

-- each place has where the entry there stands
unfoldable pub AreStands : List Section → List (ℕ × ℕ) → List (Option Stand) → Type 0
AreStands ss places stands = map (standing ss) stands ≡ map (λ p. origin_of ss p.0 p.1) places
