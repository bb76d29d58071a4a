-- The bytes of a PDO, and how they are stored.
use Rattle.std.specs.Prelude.{◌≡◌, ℕ, ◌-◌, ◌≤◌, List, length}
use Rattle.base.specs.Bytes.{AreBytes, filled_up}

-- the first `count` of eight bytes are those of the PDO
pub record IsStored (bytes stored : List ℕ) (count : ℕ) : Type 0 where
  pub short : length bytes ≤ 8
  pub are_bytes : AreBytes bytes
  pub filled : stored ≡ filled_up bytes
  pub counted : count ≡ length bytes
