-- Within which limits the numbers of a clean message are.
use Rattle.std.specs.Prelude.{◌≡◌, ℕ, ◌<◌, ◌≤◌, true, List, length}
use Rattle.std.specs.List.{All}
use Rattle.pdo_choices.specs.declared.consumer.Consumer.{Consumer}
use Rattle.pdo_choices.specs.declared.clean.Clean.{Clean}
use Rattle.cia301.specs.Limits.{is_pdo_number}
use Rattle.pdo_stations.specs.declared.mapped.Mapped.{Mapped}

-- a PDO's number, from 1 to 512 (CiA 301), and at most 64 entries in its mapping
abbrev pub IsNumbered : ℕ → List Mapped → Type 0
IsNumbered number mapping = (is_pdo_number number ≡ true) × (length mapping ≤ 64)

-- the numbers of a clean message are within their limits
pub record IsWithin (c : Clean) : Type 0 where
  pub sent : IsNumbered c.message.tpdo c.mapping
  pub identifier : c.identifier < 0x800
  pub taken : All (λ (k : Consumer). IsNumbered k.rpdo k.mapping) c.consumers
