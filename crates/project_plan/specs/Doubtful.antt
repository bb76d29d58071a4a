-- The defaults of a device that have to be looked at at each node (CiA 306: a default may be a formula over the number
-- of its node).
use Rattle.std.specs.Prelude.{ℕ, ◌&&◌, ◌||◌, Bool, false, List, filter, is_none}
use Rattle.std.specs.Option.{option_map_or}
use Rattle.co_values.specs.declared.data_type.DataType.{DataType}
use Rattle.co_values.specs.Types.{is_modelled}
use Rattle.co_values.specs.Values.{may_vary, value}
use Rattle.eds_device.specs.Described.{default_text, kind_at}
use Rattle.eds_device.specs.Places.{pairs_of}
use Rattle.eds_device.specs.Sheets.{Sheet}

-- a type is modelled, and a text spells none of its values at a node
abbrev pub spells_none : ℕ → List ℕ → DataType → Bool
spells_none node text kind = is_modelled kind && is_none (value kind text node)

-- a default that may spell another value at another node, or no value at the first one
unfoldable pub is_doubtful : Sheet → ℕ × ℕ → Bool
is_doubtful sheet place = option_map_or
    (λ text. may_vary (kind_at sheet place) text || is_none (value (kind_at sheet place) text 1))
    (default_text sheet place.0 place.1) false

abbrev pub doubtful_places : Sheet → List (ℕ × ℕ)
doubtful_places sheet = filter (is_doubtful sheet) (pairs_of sheet.sections)
