-- The numbers of the manager's time stamps (CiA 301, TIME); 0 where there are none.
use Rattle.std.specs.Prelude.{ℕ, ◌==◌, Option, Some, None, if◌then◌else◌}
use Rattle.project_edits.specs.declared.time_stamps.TimeStamps.{TimeStamps}

-- the time between two of them in microseconds
abbrev pub period_of : Option TimeStamps → ℕ
period_of None = 0
period_of (Some stamps) = stamps.period_us

-- the day at whose midnight the network is switched on
abbrev pub first_day_of : Option TimeStamps → ℕ
first_day_of None = 0
first_day_of (Some stamps) = stamps.first_day

-- those of a period and a first day: a period of 0 asks for none
abbrev pub stamps_of : ℕ → ℕ → Option TimeStamps
stamps_of period first_day = if period == 0 then None else Some (record { period_us = period; first_day = first_day })
