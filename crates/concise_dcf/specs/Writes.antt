-- Writes to an object dictionary with which nodes are configured.
use Rattle.std.specs.Prelude.{ℕ, ◌≤◌, length}
use Rattle.concise_dcf.specs.declared.write.Write.{Write}

-- the entry that a write names
abbrev pub place_of : Write → ℕ × ℕ
place_of write = (write.index, write.sub)

-- it has data of 1 to 512 bytes, which is the longest value (own choice)
abbrev pub IsSized : Write → Type 0
IsSized write = (1 ≤ length write.bytes) × (length write.bytes ≤ 512)
