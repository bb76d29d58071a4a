-- The entry that the device doesn't have in which the manager runs.
use Rattle.std.specs.Prelude.{ℕ, ◌==◌, ◌&&◌, not, Bool, List, filter}
use Rattle.concise_dcf.specs.Writes.{place_of}
use Rattle.concise_dcf.specs.declared.write.Write.{Write}

-- it is the producer heartbeat time (CiA 301, object 1017h)
abbrev pub is_producer_time : ℕ × ℕ → Bool
is_producer_time place = (place.0 == 0x1017) && (place.1 == 0)

-- the writes to other entries
abbrev pub other_writes : List Write → List Write
other_writes writes = filter (λ w. not (is_producer_time (place_of w))) writes
