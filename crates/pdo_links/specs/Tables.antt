-- The program's own tables of PDOs, which no contract of a public call shows.
use Rattle.std.specs.Prelude.{◌≡◌, ℕ, ◌*◌, ◌≤◌, List, All, length, option_map}
use Rattle.std.specs.BTreeMap.{is_at}
use Rattle.std.specs.Map.{lookup}
use Rattle.std.specs.Ordering.{nat_cmp}
use Rattle.base.specs.Bytes.{AreBytes}
use Rattle.co_values.specs.Values.{Fits}
use Rattle.concise_dcf.specs.declared.write.Write.{Write}
use Rattle.eds_device.specs.Described.{kind_at}
use Rattle.eds_device.specs.Sheets.{Sheet}
use Rattle.pdo_stations.specs.declared.mapped.Mapped.{Mapped}
use Rattle.pdo_plan.specs.Mapping.{mapped_bytes}
use Rattle.concise_dcf.specs.Writes.{IsSized}

-- a table has at each number what a list has there first
unfoldable pub IsTableOf : {X Y : Type 0} → (X → Y) → List (ℕ × X) → List (ℕ × Y) → Type 0
IsTableOf shows entries pdos = (number : ℕ)
    → option_map shows (lookup (is_at (nat_cmp number)) entries) ≡ lookup (is_at (nat_cmp number)) pdos

-- the numbers of mapping entries are within their ranges
unfoldable pub AreMapped : List Mapped → Type 0
AreMapped mapping = All (λ m. AreBytes (mapped_bytes m)) mapping

-- each write is a value of its entry
unfoldable pub AreValues : Sheet → List Write → Type 0
AreValues sheet ws = All (λ w. Fits (kind_at sheet (w.index, w.sub)) w.bytes) ws

-- at most 72 writes a PDO: COB-ID twice, transmission type, two times, SYNC start value, and 64 mapping entries with
-- their count twice
abbrev pub most_pdo_writes : ℕ
most_pdo_writes = 512 * 72

-- the writes of a node's PDOs have from 1 to 512 bytes, and there aren't too many
pub record AreFew (ws : List Write) : Type 0 where
  pub sizes : All IsSized ws
  pub count : length ws ≤ most_pdo_writes
