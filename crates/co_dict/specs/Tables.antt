-- Which entries a device has, by place.
use Rattle.std.specs.Prelude.{ℕ, ◌<◌, ◌≤◌, IsSome, Option, Some, None}
use Rattle.std.specs.FinMap.{FinMap, get}
use Rattle.co_dict.specs.declared.entry.Entry.{Entry}
use Rattle.co_dict.specs.Places.{place_cmp}

-- what is said of the entries, by index and sub
abbrev pub Described : Type 0
Described = FinMap place_cmp Entry

-- some entry has the index
abbrev pub HasIndexIn : Described → ℕ → Type 0
HasIndexIn entries index = (sub : ℕ) × IsSome (get entries (index, sub))

-- the least index from a number on that some entry has
abbrev pub IsNextIndexIn : Described → ℕ → Option ℕ → Type 0
IsNextIndexIn entries from (Some next) = (from ≤ next) × HasIndexIn entries next
    × ((index : ℕ) → from ≤ index → index < next → HasIndexIn entries index → ⊥)
IsNextIndexIn entries from None = (index : ℕ) → from ≤ index → HasIndexIn entries index → ⊥
