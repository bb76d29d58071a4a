-- What SYNC's counter is for.
use Rattle.std.specs.Prelude.{◌≡◌, ◌<◌, ◌≤◌, ℕ, ◌+◌, List}
use Rattle.can_frame.specs.Identifiers.{sync_id}
use Rattle.can_frame.specs.WaitingFrames.{waiting}
use Rattle.can_frame.specs.declared.purpose.Purpose.TheVariants.{Sync}
use Rattle.can_frame.specs.declared.waiting.Waiting.{Waiting}

-- a SYNC with these bytes, as it waits
abbrev pub sync_with : List ℕ → Waiting
sync_with bytes = waiting Sync (record { id = sync_id; bytes = bytes })

-- the numbers of the first, the second and each further one count from 1 to the last number, and then from 1 again
pub record IsCounting (last : ℕ) (number : ℕ → ℕ) : Type 0 where
  pub first : number 1 ≡ 1
  pub next : (k : ℕ) → 1 ≤ k → number k < last → number (k + 1) ≡ number k + 1
  pub again : (k : ℕ) → 1 ≤ k → number k ≡ last → number (k + 1) ≡ 1
  pub within : (k : ℕ) → number k ≤ last
