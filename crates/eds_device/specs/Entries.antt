-- The entries of a device at a node (CiA 306): their limits and defaults as values of their types.
use Rattle.std.specs.Prelude.{ℕ, ◌+◌, nat_le, ◌&&◌, ℤ, Bool, false, if◌then◌else◌, List, [], ◌∷◌, ◌++◌, Option, Some}
use Rattle.std.specs.Prelude.{None, option_map, option_and_then, map, codes}
use Rattle.std.specs.Option.{option_map_or, unwrap_or}
use Rattle.std.specs.FinMap.{from_entries}
use Rattle.ini_text.specs.Content.{Section, content_at}
use Rattle.co_values.specs.declared.data_type.DataType.{DataType}
use Rattle.co_values.specs.Number.{number}
use Rattle.co_values.specs.Types.{is_integer, is_modelled}
use Rattle.co_values.specs.Values.{value, number_in, zero_value}
use Rattle.co_dict.specs.declared.entry.Entry.{Entry}
use Rattle.co_dict.specs.Shapes.{Shaped}
use Rattle.co_dict.specs.Values.{Values}
use Rattle.eds_device.specs.Described.{Default, written, count, Described, description_of, is_not_zero}
use Rattle.eds_device.specs.Sheets.{Sheet}
use Rattle.eds_places.specs.Places.{pairs_of}

-- the number of the value that a text spells
abbrev pub number_spelled : DataType → List ℕ → ℕ → Option ℤ
number_spelled kind text node = option_and_then (number_in kind) (value kind text node)

-- LowLimit and HighLimit hold for integers alone; a text that spells none of the type's values is no limit
unfoldable pub limit_at : DataType → List ℕ → ℕ → Option ℤ
limit_at kind text node = if is_integer kind then number_spelled kind text node else None

-- the entry that is described, at a node
abbrev pub entry_by : ℕ → Described → Entry
entry_by node d = record {
  kind = d.kind;
  access = d.access;
  low = limit_at d.kind d.low node;
  high = limit_at d.kind d.high node;
  mappable = d.mappable;
}

-- an entry of the device at a node
unfoldable pub entry_at : Sheet → ℕ → ℕ → ℕ → Option Entry
entry_at sheet node index sub = option_map (entry_by node) (description_of sheet index sub)

-- a text that spells no value of the type is 0 or the empty string
abbrev pub default_bytes : DataType → Default → ℕ → List ℕ
default_bytes kind (written text) node = unwrap_or (value kind text node) (zero_value kind)
default_bytes kind (count n) node = n ∷ []

-- the default that is described, of a modelled type alone
abbrev pub default_by : ℕ → Described → Option (List ℕ)
default_by node d = if is_modelled d.kind then Some (default_bytes d.kind d.default node) else None

-- the default of an entry of a modelled type at a node
unfoldable pub default_at : Sheet → ℕ → ℕ → ℕ → Option (List ℕ)
default_at sheet node index sub = option_and_then (default_by node) (description_of sheet index sub)

-- the key of a dummy's type, from 1 to 7
abbrev pub dummy_key : ℕ → List ℕ
dummy_key kind = codes "Dummy000" ++ (48 + kind) ∷ []

-- the dummy entry of a type: DummyUsage, a number other than 0
unfoldable pub dummy_allowed : List Section → ℕ → Bool
dummy_allowed ss kind =
    nat_le 1 kind
    && (nat_le kind 7
    && option_map_or is_not_zero (option_and_then number (content_at ss (codes "DummyUsage") (dummy_key kind)))
    false)

-- the same of each of them
abbrev pub dummies_of : List Section → List Bool
dummies_of ss = map (dummy_allowed ss) (1 ∷ 2 ∷ 3 ∷ 4 ∷ 5 ∷ 6 ∷ 7 ∷ [])

-- the places at which a function gives something, each with that
abbrev pub given_at : {X : Type 0} → (ℕ × ℕ → Option X) → List (ℕ × ℕ) → List ((ℕ × ℕ) × X)
given_at f [] = []
given_at f (p ∷ ps) = option_map_or (λ x. (p, x) ∷ given_at f ps) (f p) (given_at f ps)

-- all entries at a node, and the allowed dummies
unfoldable pub shape_of : Sheet → ℕ → Shaped
shape_of sheet node = record {
  entries = from_entries (given_at (λ p. entry_at sheet node p.0 p.1) (pairs_of sheet.sections));
  dummies = dummies_of sheet.sections;
}

-- all defaults at a node
unfoldable pub defaults_of : Sheet → ℕ → Values
defaults_of sheet node = from_entries (given_at (λ p. default_at sheet node p.0 p.1) (pairs_of sheet.sections))
