-- What writes leave at the entries of a device.
use Rattle.std.specs.Prelude.{ℕ, ◌==◌, ◌&&◌, Bool, List, reverse, Option, option_map}
use Rattle.std.specs.List.{find}
use Rattle.concise_dcf.specs.declared.write.Write.{Write}

-- whether a write is to the entry at a place
abbrev pub is_to : ℕ × ℕ → Write → Bool
is_to place write = (place.0 == write.index) && (place.1 == write.sub)

-- the bytes of the last write to an entry
unfoldable pub last_of : List Write → ℕ × ℕ → Option (List ℕ)
last_of writes place = option_map (λ w. w.bytes) (find (is_to place) (reverse writes))
