-- The time stamp object TIME (CiA 301): the time of day, milliseconds after midnight and days. A run begins at midnight.
use Rattle.std.specs.Prelude.{ℕ, ◌+◌, ◌/◌, ◌%◌, List, ◌++◌}
use Rattle.byteorder.specs.Endian.{little_bytes}
use Rattle.can_frame.specs.Frames.{BaseFrame}
use Rattle.can_frame.specs.Identifiers.{time_id}

-- a day in milliseconds, and in microseconds
abbrev pub day_ms : ℕ
day_ms = 86400000

abbrev pub day_us : ℕ
day_us = 86400000000

-- the milliseconds after midnight of the moment t
abbrev pub milliseconds_at : ℕ → ℕ
milliseconds_at t = t / 1000 % day_ms

-- its day, of 65,536 that are told apart, where the run begins on the first one
abbrev pub day_at : ℕ → ℕ → ℕ
day_at first t = (first + t / day_us) % 0x10000

-- TIME OF DAY: the milliseconds in four bytes and the day in two, the lowest byte first
unfoldable pub time_of_day : ℕ → ℕ → List ℕ
time_of_day first t = little_bytes 4 (milliseconds_at t) ++ little_bytes 2 (day_at first t)

-- that of the moment t, as a frame
unfoldable pub time_frame : ℕ → ℕ → BaseFrame
time_frame first t = record { id = time_id; bytes = time_of_day first t }
