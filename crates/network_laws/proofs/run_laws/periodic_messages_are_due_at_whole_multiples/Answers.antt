use Rattle.network_laws.proofs.BeatLemmas.{due_at_multiples_of_run, heartbeat_at_multiples, on_time, sync_at_multiples}
use Rattle.network_laws.proofs.BeatLemmas.{time_at_multiples}
use Rattle.network_laws.proofs.run_laws.periodic_messages_are_due_at_whole_multiples.Goals as goal

pub returns-clause-all : goal.returns-clause-all
returns-clause-all c = on_time

pub returns-clause-each : goal.returns-clause-each
returns-clause-each c = due_at_multiples_of_run

pub returns-clause-heartbeat : goal.returns-clause-heartbeat
returns-clause-heartbeat c = heartbeat_at_multiples

pub returns-clause-time : goal.returns-clause-time
returns-clause-time c = time_at_multiples

pub returns-clause-sync : goal.returns-clause-sync
returns-clause-sync c = sync_at_multiples
