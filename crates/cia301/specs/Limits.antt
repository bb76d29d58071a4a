-- Numbers that CiA 301 gives limits.
use Rattle.std.specs.Prelude.{ℕ, ◌≤◌, ◌∷◌, [], Bool, List}
use Rattle.base.specs.Ranges.{is_between}

-- the number of a node
abbrev pub is_node_number : ℕ → Bool
is_node_number n = is_between 1 127 n

-- the same, as a proposition
abbrev pub IsNodeNumber : ℕ → Type 0
IsNodeNumber number = (1 ≤ number) × (number ≤ 127)

-- the number of a TPDO or an RPDO of a device
abbrev pub is_pdo_number : ℕ → Bool
is_pdo_number n = is_between 1 512 n

-- the bit rates in kbit/s, but 800
abbrev pub bit_rates : List ℕ
bit_rates = 10 ∷ 20 ∷ 50 ∷ 125 ∷ 250 ∷ 500 ∷ 1000 ∷ []
