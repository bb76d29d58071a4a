-- How the bytes of a PDO are stored.
use Rattle.std.proofs.Common.{◌≡◌, ℕ, ◌-◌, ◌≤◌, List, ◌++◌, length, drop, replicate, refl}
use Rattle.std.proofs.Math.Seq.{take-append_seam}
use Rattle.std.proofs.lemmas.List.{drop-replicate}
use Rattle.std.proofs.Math.ListN.{take}
use Rattle.base.specs.Bytes.{AreBytes}
use Rattle.pdo_rules.specs.Payloads.{IsStored}

-- bytes that are written over the first of eight zeros
pub stored_over_zeros : (bytes written : List ℕ) → length bytes ≤ 8 → AreBytes bytes → written ≡ bytes
    → IsStored (take (length bytes) (written ++ drop (length bytes) (replicate 8 0)))
    (written ++ drop (length bytes) (replicate 8 0)) (length bytes)
stored_over_zeros bytes written short are_bytes same =
    rw (same, drop-replicate {X = ℕ} (length bytes) 8 0, take-append_seam bytes (replicate (8 - length bytes) 0))
    (record { short = short; are_bytes = are_bytes; filled = refl; counted = refl })
