-- What reading a device gives.
use Rattle.std.specs.Prelude.{ℕ, ◌<◌, if◌then◌else◌, List, length, Result, Err, IsSome}
use Rattle.std.specs.List.{Contains}
use Rattle.std.specs.List.Sorted.{IsStrictlySortedBy}
use Rattle.ini_text.specs.Content.{Content, Section, content_of}
use Rattle.ini_text.specs.Text.{is_out_of_range, has_bad_byte}
use Rattle.co_dict.specs.Places.{place_cmp}
use Rattle.eds_places.specs.declared.fault.DeviceFault.{DeviceFault}
use Rattle.eds_places.specs.declared.fault.DeviceFault.TheVariants.{Range, BadByte}
pub use Rattle.eds_places.specs.Faults.{is_memory, most_entries, unless_too_many}
use Rattle.eds_places.specs.Origins.{origin_of}
use Rattle.eds_places.specs.Places.{pairs_of}

-- the rules give too many entries: more places than a device may have, in order and none twice, each of which has an
-- origin
pub record HasTooMany (ss : List Section) : Type 0 where
  pub places : List (ℕ × ℕ)
  pub in_order : IsStrictlySortedBy place_cmp places
  pub over : most_entries < length places
  pub given : (index sub : ℕ) → Contains places (index, sub) → IsSome (origin_of ss index sub)

-- the content of a text, where that is an INI text and has no more entries than a device may have, which a law counts
-- by the rules
unfoldable pub device_of : List ℕ → Result Content DeviceFault
device_of text =
    if is_out_of_range text then Err Range
    else if has_bad_byte text then Err BadByte
    else unless_too_many (pairs_of (content_of text).sections) (content_of text)
