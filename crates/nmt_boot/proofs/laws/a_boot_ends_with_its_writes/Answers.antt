use Rattle.nmt_boot.proofs.EndLemmas.{frame_ends, timers_end_none}
use Rattle.nmt_boot.proofs.laws.a_boot_ends_with_its_writes.Goals as goal

pub returns-clause-frames : goal.returns-clause-frames
returns-clause-frames c = frame_ends

pub returns-clause-timers : goal.returns-clause-timers
returns-clause-timers c = timers_end_none
