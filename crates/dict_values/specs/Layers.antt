-- Values that lie in two layers, of which the upper one hides what lies below it.
use Rattle.std.specs.Prelude.{◌≡◌, ℕ, ◌++◌, Bool, true, Option, Some, None, IsSome, if◌then◌else◌}
use Rattle.std.specs.Option.{option_or}
use Rattle.std.specs.declared.rc.Rc.{Rc}
use Rattle.std.specs.declared.alloc.Global.{Global}
use Rattle.std.specs.FinMap.{empty, entries, from_entries, get}
use Rattle.dict_values.specs.Values.{Values}

-- the values behind a handle; none where there is no handle
abbrev pub values_behind : Option (Rc Values Global) → Values
values_behind (Some handle) = handle.value
values_behind None = empty

-- each place has the value of the upper layer, and where that has none the value of the lower one
unfoldable pub both_layers : Values → Values → Values
both_layers lower upper = from_entries (entries upper ++ entries lower)

-- two maps have the same at each place of a third
abbrev pub AgreeOn : Values → Values → Values → Type 0
AgreeOn places a b = (place : ℕ × ℕ) → IsSome (get places place) → get a place ≡ get b place

-- each place of the first that is kept has a value in the second
abbrev pub HasEach : (ℕ × ℕ → Bool) → Values → Values → Type 0
HasEach kept places values = (place : ℕ × ℕ) → IsSome (get places place) → kept place ≡ true → IsSome (get values place)

-- each place that is kept has the value of the first, and where that has none it has what it had
abbrev pub HasWritten : (ℕ × ℕ → Bool) → Values → Values → Values → Type 0
HasWritten kept from old new = (place : ℕ × ℕ)
    → get new place ≡ (if kept place then option_or (get from place) (get old place) else get old place)
