use Rattle.nmt_boot.proofs.BeatLemmas.{due_at_multiples, frame_on_time, on_time_first, timers_on_time}
use Rattle.nmt_boot.proofs.CounterLemmas.{queued}
use Rattle.nmt_boot.proofs.laws.periodic_messages_come_at_whole_multiples.Goals as goal

pub returns-clause-first : goal.returns-clause-first
returns-clause-first c = on_time_first

pub returns-clause-frames : goal.returns-clause-frames
returns-clause-frames c = frame_on_time

pub returns-clause-timers : goal.returns-clause-timers
returns-clause-timers c = timers_on_time

pub returns-clause-due : goal.returns-clause-due
returns-clause-due c = due_at_multiples

pub returns-clause-queued : goal.returns-clause-queued
returns-clause-queued c = queued
