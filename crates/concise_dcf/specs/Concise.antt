-- Concise DCF (CiA 302): lists of writes to an object dictionary, and their bytes.
use Rattle.std.specs.Prelude.{◌≡◌, ℕ, ◌<◌, ◌≤◌, ◌+◌, ◌^◌, ◌⊎◌, Bool, true, false, List, ◌∷◌, ◌++◌, length, drop}
use Rattle.std.specs.List.{flat_map, AllByRecursion}
use Rattle.byteorder.specs.Endian.{little_bytes, little_number}
use Rattle.concise_dcf.specs.declared.write.Write.{Write}
use Rattle.concise_dcf.specs.declared.fault.ConciseFault.{ConciseFault}
use Rattle.concise_dcf.specs.declared.fault.ConciseFault.TheVariants.{Memory, Short, Extra, Empty}

-- index (2 bytes), sub (1) and size of the data (4), each with its lowest byte first
abbrev pub header_of : Write → List ℕ
header_of write = little_bytes 2 write.index ++ (write.sub ∷ little_bytes 4 (length write.bytes))

-- the header, and the data
abbrev pub entry_of : Write → List ℕ
entry_of write = header_of write ++ write.bytes

abbrev pub entries_of : List Write → List ℕ
entries_of writes = flat_map entry_of writes

-- the count (4 bytes, the lowest first), and the entries
abbrev pub text_of : List Write → List ℕ
text_of writes = little_bytes 4 (length writes) ++ entries_of writes

-- what an entry can say; that its data has at least one byte is this profile's own choice
pub record Fits (write : Write) : Type 0 where
  pub index : write.index < 2 ^ 16
  pub sub : write.sub < 2 ^ 8
  pub some : 0 < length write.bytes
  pub size : length write.bytes < 2 ^ 32

abbrev pub AreWrites : List Write → Type 0
AreWrites writes = (length writes < 2 ^ 32) × AllByRecursion Fits writes

-- THE RELATION: these bytes are the concise DCF of these writes
abbrev pub IsTextOf : List Write → List ℕ → Type 0
IsTextOf writes bytes = AreWrites writes × (bytes ≡ text_of writes)

-- the bytes begin with this count and the entries of these writes; the rest comes behind them
pub record Begins (bytes : List ℕ) (count : ℕ) (writes : List Write) (rest : List ℕ) : Type 0 where
  pub count_fits : count < 2 ^ 32
  pub fits : AllByRecursion Fits writes
  pub whole : bytes ≡ little_bytes 4 count ++ (entries_of writes ++ rest)

-- the size that an entry at the front says
abbrev pub size_at : List ℕ → ℕ
size_at bytes = little_number 4 (drop 3 bytes)

-- they end inside the entry at their front: in its header, or in its data
abbrev pub IsCut : List ℕ → Type 0
IsCut rest = (length rest < 7) ⊎ ((0 < size_at rest) × (length rest < 7 + size_at rest))

-- the entry at their front has no data
abbrev pub IsHollow : List ℕ → Type 0
IsHollow rest = (7 ≤ length rest) × (size_at rest ≡ 0)

-- after whole entries, fewer than the count, comes one of which P holds
abbrev pub StopsAt : (List ℕ → Type 0) → List ℕ → Type 0
StopsAt P bytes = (count : ℕ) × (writes : List Write) × (rest : List ℕ) × Begins bytes count writes rest
    × (length writes < count) × P rest

-- the fault of the first place from the front: they end inside the count or an entry; an entry has no data; a list's
-- text has at least one byte more
abbrev pub HasFault : ConciseFault → List ℕ → Type 0
HasFault Memory bytes = ⊥
HasFault Short bytes = (length bytes < 4) ⊎ StopsAt IsCut bytes
HasFault Empty bytes = StopsAt IsHollow bytes
HasFault Extra bytes = (writes : List Write) × (byte : ℕ) × (more : List ℕ)
    × Begins bytes (length writes) writes (byte ∷ more)

-- want of memory, which can come in place of any answer
abbrev pub is_memory : ConciseFault → Bool
is_memory Memory = true
is_memory Short = false
is_memory Extra = false
is_memory Empty = false
