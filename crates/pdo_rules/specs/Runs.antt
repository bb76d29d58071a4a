-- A cyclic TPDO over the SYNCs of a run (CiA 301).
use Rattle.std.specs.Prelude.{◌≡◌, ℕ, ◌%◌, ◌==◌, Bool, true, false, List, [], ◌∷◌, map}
use Rattle.std.specs.List.{AllByRecursion, range_with_len}
use Rattle.pdo_rules.specs.Sync.{has_counter}
use Rattle.pdo_rules.specs.Tpdo.{Remembered, synced_turn}
use Rattle.pdo_rules.specs.declared.sync_seen.SyncSeen.{SyncSeen}

-- at which of the SYNCs one of the number n with a start value, or 0, is sent, with the bytes that it has at each
unfoldable pub sent_at : ℕ → ℕ → List (SyncSeen × List ℕ) → Remembered → List Bool
sent_at n start [] r = []
sent_at n start (s ∷ rest) r =
    (synced_turn n start s.0 s.1 r).is_sent ∷ sent_at n start rest (synced_turn n start s.0 s.1 r).remembered

-- at each n-th of so many: at those whose place, from 1 on, n divides
abbrev pub each_nth : ℕ → ℕ → List Bool
each_nth n count = map (λ place. place % n == 0) (range_with_len 1 count)

-- the device counts SYNCs at each of them, and none has the start value as its counter
abbrev pub HaveNoStart : ℕ → List (SyncSeen × List ℕ) → Type 0
HaveNoStart start syncs = AllByRecursion (λ s. (s.0.is_counted ≡ true) × (has_counter start s.0 ≡ false)) syncs
