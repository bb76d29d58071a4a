-- Groups of identifiers (this profile's own).
use Rattle.std.specs.Prelude.{ℕ, ◌+◌, ◌*◌, ◌/◌, ◌%◌, ◌==◌, Bool}
use Rattle.std.specs.Int.{bit_at}
use Rattle.device_agenda.specs.declared.groups.Groups.{Groups}

-- the group of an identifier, of 64: by its function code (CiA 301), bits 7 to 10, and by its two lowest bits
abbrev pub group_of : ℕ → ℕ
group_of id = 4 * (id / 128) + id % 4

-- a set has the group of an identifier
abbrev pub includes : Groups → ℕ → Bool
includes groups id = bit_at groups.bits (group_of id) == 1
