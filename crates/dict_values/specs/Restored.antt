-- A part of a dictionary as another has it (CiA 301, NMT reset: objects get their power-on values).
use Rattle.std.specs.Prelude.{ℕ, not, Bool, List, [], ◌∷◌, ◌++◌, if◌then◌else◌}
use Rattle.std.specs.FinMap.{entries, from_entries, insert, retain_keys}
use Rattle.base.specs.Ranges.{is_between}
use Rattle.dict_values.specs.Values.{Values}

-- the entries with an index from `first` to `last` are those of the other dictionary; all others stay
unfoldable pub with_restored : ℕ → ℕ → Values → Values → Values
with_restored first last other values = from_entries
    (entries (retain_keys other (λ place. is_between first last place.0))
    ++ entries (retain_keys values (λ place. not (is_between first last place.0))))

-- ---- for the program alone: the loop that adds entries to a map

-- with `inside` the indices from `first` to `last`, else the others
abbrev pub is_kept : ℕ → ℕ → Bool → ℕ → Bool
is_kept first last inside index = if inside then is_between first last index else not (is_between first last index)

abbrev pub with_all : ℕ → ℕ → Bool → List ((ℕ × ℕ) × List ℕ) → Values → Values
with_all first last inside [] values = values
with_all first last inside (e ∷ es) values = with_all first last inside es (if is_kept first last inside e.0.0
    then insert values e.0 e.1 else values)
