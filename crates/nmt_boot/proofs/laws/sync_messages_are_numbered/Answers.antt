use Rattle.nmt_boot.proofs.CounterLemmas.{counting, numbered, without_counter}
use Rattle.nmt_boot.proofs.laws.sync_messages_are_numbered.Goals as goal

pub returns-clause-counts : goal.returns-clause-counts
returns-clause-counts c = counting

pub returns-clause-numbered : goal.returns-clause-numbered
returns-clause-numbered c = numbered

pub returns-clause-plain : goal.returns-clause-plain
returns-clause-plain c = without_counter
