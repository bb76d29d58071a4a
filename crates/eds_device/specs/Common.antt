-- What is the same at every node, as the program keeps it: no contract of a public call shows it.
use Rattle.std.specs.Prelude.{◌≡◌, ℕ, List, [], ◌∷◌, Option, IfSome}
use Rattle.std.specs.FinMap.{insert}
use Rattle.std.specs.Option.{option_map_or}
use Rattle.co_dict.specs.Shapes.{Shaped}
use Rattle.co_dict.specs.Values.{Values}
use Rattle.eds_device.specs.declared.common.Alike.{Alike}
use Rattle.eds_device.specs.declared.common.Common.{Common}
use Rattle.eds_device.specs.Entries.{default_at, defaults_of, shape_of}
use Rattle.eds_device.specs.Sheets.{Sheet}

-- the shape that is kept for all nodes, if there is one, is that of each
abbrev pub IsCommon : Sheet → Option Shaped → Type 0
IsCommon sheet common = IfSome common (λ shape. (node : ℕ) → shape ≡ shape_of sheet node)

-- values with the default of an entry at a node
abbrev pub with_default : Sheet → ℕ → ℕ × ℕ → Values → Values
with_default sheet node p values = option_map_or (insert values p) (default_at sheet node p.0 p.1) values

-- with those of all entries at places
unfoldable pub with_defaults : Sheet → ℕ → List (ℕ × ℕ) → Values → Values
with_defaults sheet node [] values = values
with_defaults sheet node (p ∷ ps) values = with_defaults sheet node ps (with_default sheet node p values)

-- values that are the same at each node, and the places of the other defaults: together they are all defaults of each
abbrev pub AreAlike : Sheet → Alike → Type 0
AreAlike sheet alike = (node : ℕ) → with_defaults sheet node alike.others.items alike.values ≡ defaults_of sheet node

-- the shape, and the defaults
abbrev pub IsOfAll : Sheet → Common → Type 0
IsOfAll sheet common = IsCommon sheet common.shape × AreAlike sheet common.alike
