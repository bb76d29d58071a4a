-- Numbers that tell dictionaries apart (this profile's own): those with other fingerprints have other values.
use Rattle.std.specs.Prelude.{ℕ, ◌+◌, ◌*◌, ◌/◌, ◌%◌, ◌^◌, List, Option, Some, None}
use Rattle.std.specs.Int.Bits.{bit_xor}
use Rattle.std.specs.List.{fold, sum_by}
use Rattle.std.specs.FinMap.{entries}
use Rattle.base.specs.Fingerprint.{mix}
use Rattle.dict_values.specs.Values.{Values}

-- a number whose upper half tells of its lower half too, with both put together below
abbrev pub spread : ℕ → ℕ
spread number = bit_xor (mix number 0) (mix number 0 / 2 ^ 32)

-- what the value at a place adds: its bytes, one behind the other, behind the place
unfoldable pub weight : ℕ × ℕ → List ℕ → ℕ
weight place bytes = spread (fold mix (place.0 * 256 + place.1) bytes)

-- nothing where there is none
abbrev pub weight_at : ℕ × ℕ → Option (List ℕ) → ℕ
weight_at place (Some bytes) = weight place bytes
weight_at place None = 0

-- THE FINGERPRINT OF VALUES: what all of them add, in 64 bits
unfoldable pub fingerprint_of : Values → ℕ
fingerprint_of values = sum_by (λ e. weight e.0 e.1) (entries values) % 2 ^ 64
