-- How a frame is stored.
use Rattle.std.proofs.Common.{◌≡◌, ℕ, ◌-◌, ◌<◌, ◌≤◌, List, ◌++◌, length, drop, replicate, refl}
use Rattle.std.proofs.Math.Seq.{take-append_seam}
use Rattle.std.proofs.lemmas.List.{drop-replicate}
use Rattle.std.proofs.Math.ListN.{take}
use Rattle.base.specs.Bytes.{AreBytes}
use Rattle.can_frame.specs.Frames.{IsStored}

-- bytes that are written over the first of eight zeros
pub stored_over_zeros : (id : ℕ) (bytes written : List ℕ) → id < 0x800 → length bytes ≤ 8 → AreBytes bytes
    → written ≡ bytes
    → IsStored (record { id = id; bytes = take (length bytes) (written ++ drop (length bytes) (replicate 8 0)) })
    (written ++ drop (length bytes) (replicate 8 0)) (length bytes)
stored_over_zeros id bytes written identifier short are_bytes same =
    rw (same, drop-replicate {X = ℕ} (length bytes) 8 0, take-append_seam bytes (replicate (8 - length bytes) 0))
    (record {
      is_frame = record { identifier = identifier; short = short; are_bytes = are_bytes };
      stored = refl;
      counted = refl;
    })
