-- The values of a device's entries (CiA 301).
use Rattle.std.specs.Prelude.{ℕ, List, []}
use Rattle.std.specs.FinMap.{FinMap, get}
use Rattle.std.specs.Option.{unwrap_or}
use Rattle.byteorder.specs.Endian.{little_number}
use Rattle.dict_values.specs.Places.{place_cmp}

-- the value of each entry that has one
abbrev pub Values : Type 0
Values = FinMap place_cmp (List ℕ)

-- the bytes that an entry holds; none where it has no value
abbrev pub bytes_at : Values → ℕ × ℕ → List ℕ
bytes_at values place = unwrap_or (get values place) []

-- the number that an entry holds in its first bytes, the lowest first; a byte that it lacks counts as 0
abbrev pub number_at : ℕ → Values → ℕ × ℕ → ℕ
number_at count values place = little_number count (bytes_at values place)
