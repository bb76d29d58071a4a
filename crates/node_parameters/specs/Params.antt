-- The texts that a node has for its entries (this profile's own).
use Rattle.std.specs.Prelude.{ℕ, Bool, not, ◌&&◌, nat_le, List}
use Rattle.std.specs.FinMap.{FinMap, contains_key, len}
use Rattle.co_dict.specs.Places.{place_cmp}

-- the parameters of a node: the text of each entry that has one
abbrev pub Texts : Type 0
Texts = FinMap place_cmp (List ℕ)

-- a node has at most 4,096 parameters: no new entry can have a text
abbrev pub is_full_for : Texts → ℕ × ℕ → Bool
is_full_for params place = nat_le 4096 (len params) && not (contains_key params place)
