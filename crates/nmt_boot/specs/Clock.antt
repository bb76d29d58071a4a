-- What TIME tells.
use Rattle.std.specs.Prelude.{◌≡◌, ◌<◌, ℕ, ◌+◌, ◌*◌, ◌%◌}
use Rattle.nmt_boot.specs.TimeOfDay.{day_ms}

-- milliseconds after midnight and days go on as moments in microseconds do, from midnight of the first day on: they stay
-- for a millisecond, the next millisecond comes then, and behind the last one of a day midnight of the next day
pub record IsClock (first : ℕ) (milliseconds day : ℕ → ℕ) : Type 0 where
  pub starts : (milliseconds 0 ≡ 0) × (day 0 ≡ first)
  pub stays : (k more : ℕ) → more < 1000 → (milliseconds (1000 * k + more) ≡ milliseconds (1000 * k))
      × (day (1000 * k + more) ≡ day (1000 * k))
  pub goes_on : (t : ℕ) → milliseconds t + 1 < day_ms → (milliseconds (t + 1000) ≡ milliseconds t + 1)
      × (day (t + 1000) ≡ day t)
  pub midnight : (t : ℕ) → milliseconds t + 1 ≡ day_ms → (milliseconds (t + 1000) ≡ 0)
      × (day (t + 1000) ≡ (day t + 1) % 0x10000)
  pub within : (t : ℕ) → (milliseconds t < day_ms) × (day t < 0x10000)
