-- TIME tells the time.
use Rattle.std.proofs.Common.{◌≡◌, ℕ, ◌<◌, [], length, drop, refl, arith}
use Rattle.byteorder.specs.Endian.{little_bytes, little_number}
use Rattle.byteorder.specs.Numbers.{little_number-reads_back}
use Rattle.nmt_boot.specs.Clock.{IsClock}
use Rattle.nmt_boot.specs.TimeOfDay.{day_at, milliseconds_at, time_of_day}

pub is_clock : (first : ℕ) → first < 0x10000 → IsClock first milliseconds_at (day_at first)
is_clock first small = record {
  starts = (refl, omega (arith, small));
  stays = λ k more within. (omega (arith, within), omega (arith, within));
  goes_on = λ t before. (omega (arith, before), omega (arith, before));
  midnight = λ t last. (omega (arith, last), omega (arith, last));
  within = λ t. (omega arith, omega arith);
}

-- it is read from its bytes
pub milliseconds_read : (first t : ℕ) → little_number 4 (time_of_day first t) ≡ milliseconds_at t
unfolding time_of_day
milliseconds_read first t =
    little_number-reads_back 4 (milliseconds_at t) (little_bytes 2 (day_at first t)) (omega arith)

pub day_read : (first t : ℕ) → little_number 2 (drop 4 (time_of_day first t)) ≡ day_at first t
unfolding time_of_day
day_read first t = little_number-reads_back 2 (day_at first t) [] (omega arith)

pub six_bytes : (first t : ℕ) → length (time_of_day first t) ≡ 6
unfolding time_of_day
six_bytes first t = refl
