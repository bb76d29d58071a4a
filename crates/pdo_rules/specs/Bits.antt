-- The bits of numbers, the lowest first.
use Rattle.std.specs.Prelude.{ℕ, ◌+◌, ◌*◌, List, [], ◌∷◌, map}
use Rattle.std.specs.Int.{bit_at}
use Rattle.std.specs.List.{range_with_len}

-- bits 0, 1 and on of a number, so many of them
unfoldable pub low_bits : ℕ → ℕ → List ℕ
low_bits count n = map (bit_at n) (range_with_len 0 count)

-- the number whose bits these are
unfoldable pub number_of : List ℕ → ℕ
number_of [] = 0
number_of (bit ∷ bits) = bit + 2 * number_of bits
