-- The consumer heartbeat time (CiA 301, sub-indices of 1016h).
use Rattle.std.specs.Prelude.{ℕ, ◌/◌, ◌%◌}

-- bits 16 to 23: the node whose heartbeat is expected
abbrev pub consumed_node : ℕ → ℕ
consumed_node entry = entry / 0x10000 % 0x100

-- bits 0 to 15: the time in milliseconds; 0 is off
abbrev pub consumer_time : ℕ → ℕ
consumer_time entry = entry % 0x10000
