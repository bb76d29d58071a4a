-- The bits of a base frame on the wire (ISO 11898-1), each 0 or 1.
use Rattle.std.specs.Prelude.{ℕ, zero, suc, ◌+◌, ◌*◌, ◌-◌, ◌%◌, ◌==◌, ◌&&◌, if◌then◌else◌, List, [], ◌∷◌, ◌++◌, length}
use Rattle.std.specs.Int.{bit_at}
use Rattle.std.specs.Int.Bits.{bit_xor}
use Rattle.std.specs.List.{flat_map, fold}
use Rattle.can_frame.specs.Frames.{BaseFrame}

-- a number in so many bits, highest first
abbrev pub bits : ℕ → ℕ → List ℕ
bits zero n = []
bits (suc width) n = bit_at n width ∷ bits width n

-- ---- the check

-- the register of the check behind one more bit: shifted by one, and by the polynomial 4599h where that bit is another
-- than the one that leaves the register
abbrev pub with_bit : ℕ → ℕ → ℕ
with_bit register bit = if bit == bit_at register 14 then register * 2 % 0x8000
    else bit_xor (register * 2 % 0x8000) 0x4599

-- the check of bits
abbrev pub crc : List ℕ → ℕ
crc sent = fold with_bit 0 sent

-- ---- the frame

-- what the check is of: start of frame, identifier, the three bits of a base data frame, its length, and its bytes
abbrev pub checked_bits : BaseFrame → List ℕ
checked_bits frame = 0 ∷ (bits 11 frame.id ++ (0 ∷ 0 ∷ 0 ∷ (bits 4 (length frame.bytes) ++ flat_map (bits 8) frame.bytes)))

-- that and the check
abbrev pub plain_bits : BaseFrame → List ℕ
plain_bits frame = checked_bits frame ++ bits 15 (crc (checked_bits frame))

-- ---- stuffing

-- bits behind a row of so many that are `last`: a bit that makes it five is followed by one of the other value
abbrev pub stuffed_behind : ℕ → ℕ → List ℕ → List ℕ
stuffed_behind last row [] = []
stuffed_behind last row (bit ∷ rest) = if bit == last && row == 4 then bit ∷ (1 - bit) ∷ stuffed_behind (1 - bit) 1 rest
    else bit ∷ stuffed_behind bit (if bit == last then row + 1 else 1) rest

-- bits with their stuff bits
abbrev pub stuffed : List ℕ → List ℕ
stuffed sent = stuffed_behind 0 0 sent

-- what is received behind a row: the bit behind five equal ones is left out
abbrev pub unstuffed_behind : ℕ → ℕ → List ℕ → List ℕ
unstuffed_behind last row [] = []
unstuffed_behind last row (bit ∷ rest) = if row == 5 then unstuffed_behind bit 1 rest
    else bit ∷ unstuffed_behind bit (if bit == last then row + 1 else 1) rest

-- bits without their stuff bits
abbrev pub unstuffed : List ℕ → List ℕ
unstuffed received = unstuffed_behind 0 0 received

-- ---- the slot

-- the bits of a frame on the wire, up to the last of its check
abbrev pub wire_bits : BaseFrame → List ℕ
wire_bits frame = stuffed (plain_bits frame)

-- the bit times of a frame on the bus: behind these bits one that ends the check, two of the acknowledgement, seven of
-- the end of frame, and three of the intermission
abbrev pub exact_bits : BaseFrame → ℕ
exact_bits frame = length (wire_bits frame) + 13
