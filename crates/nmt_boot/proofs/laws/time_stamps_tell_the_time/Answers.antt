use Rattle.nmt_boot.proofs.ClockLemmas.{day_read, is_clock, milliseconds_read, six_bytes}
use Rattle.nmt_boot.proofs.CounterLemmas.{time_waits}
use Rattle.nmt_boot.proofs.laws.time_stamps_tell_the_time.Goals as goal

pub returns-clause-waits : goal.returns-clause-waits
returns-clause-waits c = time_waits

pub returns-clause-clock : goal.returns-clause-clock
returns-clause-clock c = is_clock

pub returns-clause-milliseconds : goal.returns-clause-milliseconds
returns-clause-milliseconds c = milliseconds_read

pub returns-clause-day : goal.returns-clause-day
returns-clause-day c = day_read

pub returns-clause-six : goal.returns-clause-six
returns-clause-six c = six_bytes
