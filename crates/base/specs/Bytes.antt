-- Lists of numbers that are bytes.
use Rattle.std.specs.Prelude.{ℕ, ◌<◌, ◌-◌, List, ◌++◌, length, get_or, replicate}

-- each element is below 256
abbrev pub AreBytes : List ℕ → Type 0
AreBytes bytes = (i : ℕ) → get_or bytes i 0 < 256

-- bytes, and 0 for each that eight lack
abbrev pub filled_up : List ℕ → List ℕ
filled_up bytes = bytes ++ replicate (8 - length bytes) 0
