-- Private to the crate: what is known of bits that have gone over the wire.
use Rattle.std.specs.Prelude.{◌≡◌, ℕ, ◌+◌, ◌/◌, ◌%◌, ◌<◌, ◌≤◌, List, ◌++◌, length}
use Rattle.can_frame.specs.declared.stuffing.Stuffing.{Stuffing}
use Rattle.can_frame.specs.declared.wire.Wire.{Wire}
use Rattle.can_frame.specs.WireBits.{crc, stuffed, stuffed_behind}

-- a row of equal bits, by the place where its part of a table begins: 0x00 to 0x30 for one to four 0s, and 0x40 to 0x70
-- for one to four 1s
pub record IsRow (place : ℕ) : Type 0 where
  pub begins : place % 0x10 ≡ 0
  pub below : place ≤ 0x70

-- its bit, and how many of them there are
abbrev pub bit_of_row : ℕ → ℕ
bit_of_row place = place / 64

abbrev pub length_of_row : ℕ → ℕ
length_of_row place = place / 16 % 4 + 1

-- these bits have gone: how many they are with their stuff bits, and with what comes behind them
pub record HasStuffed (sent : List ℕ) (stuffing : Stuffing) : Type 0 where
  pub count : (more : List ℕ) → length (stuffed (sent ++ more))
      ≡ length sent + stuffing.stuff_bits + length (stuffed_behind (bit_of_row stuffing.row) (length_of_row stuffing.row) more)

-- these bits have gone: their check, and their stuffing
pub record HasSent (sent : List ℕ) (wire : Wire) : Type 0 where
  pub check : wire.check ≡ crc sent
  pub stuffed : HasStuffed sent wire.stuffing

-- the check has 15 bits, and the row is one
pub record IsWire (wire : Wire) : Type 0 where
  pub small : wire.check < 0x8000
  pub row : IsRow wire.stuffing.row
