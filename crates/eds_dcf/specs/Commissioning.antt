-- The section of a DCF that names its node (CiA 306, device commissioning).
use Rattle.std.specs.Prelude.{ℕ, ◌||◌, ◌&&◌, ◌++◌, not, is_none, Bool, List, [], ◌∷◌, filter, codes, decimal}
use Rattle.std.specs.List.{find}
use Rattle.std.specs.Option.{option_map_or}
use Rattle.ini_text.specs.Content.{Pair, Section, same, value_at}

-- both spellings are met in files; the one of CiA 306 comes first
abbrev pub first_spelling : List ℕ
first_spelling = codes "DeviceComissioning"

-- and this one second
abbrev pub second_spelling : List ℕ
second_spelling = codes "DeviceCommissioning"

-- whether a section of that name names the node
abbrev pub is_commissioning : List ℕ → Bool
is_commissioning name = same first_spelling name || same second_spelling name

-- the pairs of the section of a name
abbrev pub pairs_named : List Section → List ℕ → List Pair
pairs_named ss name = option_map_or (λ s. s.pairs) (find (λ s. same name s.name) ss) []

-- what every DCF sets anew
abbrev pub is_set_anew : List ℕ → Bool
is_set_anew key = same (codes "NodeID") key || same (codes "NodeName") key || same (codes "Baudrate") key

-- the pairs that stay
abbrev pub others : List Pair → List Pair
others pairs = filter (λ p. not (is_set_anew p.key)) pairs

-- those whose key the first pairs don't have
abbrev pub others_beside : List Pair → List Pair → List Pair
others_beside first pairs = filter (λ p. not (is_set_anew p.key) && is_none (value_at first p.key)) pairs

-- the node's number, its name and the bit rate in kbit/s
abbrev pub node_pairs : ℕ → List ℕ → ℕ → List Pair
node_pairs node name bitrate =
    record { key = codes "NodeID"; value = decimal node } ∷ record { key = codes "NodeName"; value = name }
    ∷ record { key = codes "Baudrate"; value = decimal bitrate } ∷ []

-- those first; then the other keys of the first spelling, and those that the second has beside
unfoldable pub commissioning : List Section → ℕ → List ℕ → ℕ → Section
commissioning ss node name bitrate = record {
  name = first_spelling;
  pairs = node_pairs node name bitrate
      ++ (others (pairs_named ss first_spelling) ++ others_beside (pairs_named ss first_spelling)
      (pairs_named ss second_spelling));
}
