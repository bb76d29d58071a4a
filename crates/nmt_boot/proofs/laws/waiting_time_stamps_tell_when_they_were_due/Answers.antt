use Rattle.nmt_boot.proofs.StampLemmas.{command_tells, first_tells, frame_tells, sent_tells, timers_tell}
use Rattle.nmt_boot.proofs.laws.waiting_time_stamps_tell_when_they_were_due.Goals as goal

pub returns-clause-first : goal.returns-clause-first
returns-clause-first c = first_tells

pub returns-clause-frames : goal.returns-clause-frames
returns-clause-frames c = frame_tells

pub returns-clause-commands : goal.returns-clause-commands
returns-clause-commands c = command_tells

pub returns-clause-sent : goal.returns-clause-sent
returns-clause-sent c = sent_tells

pub returns-clause-timers : goal.returns-clause-timers
returns-clause-timers c = timers_tell
