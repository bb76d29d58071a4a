-- Ranges of numbers.
use Rattle.std.specs.Prelude.{◌≡◌, ℕ, ◌&&◌, nat_le, Bool, true}

-- from low to high, both included
abbrev pub is_between : ℕ → ℕ → ℕ → Bool
is_between low high n = nat_le low n && nat_le n high

-- an index of an object dictionary and a sub-index (CiA 301)
abbrev pub AreIndices : ℕ → ℕ → Type 0
AreIndices index sub = (is_between 0 0xFFFF index ≡ true) × (is_between 0 0xFF sub ≡ true)
