use Rattle.network_laws.proofs.StageLemmas.{rests_until_boot_up, write_followed}
use Rattle.network_laws.proofs.run_laws.a_boot_goes_on_write_by_write.Goals as goal

pub returns-clause-write : goal.returns-clause-write
returns-clause-write c = write_followed

pub returns-clause-rests : goal.returns-clause-rests
returns-clause-rests c = rests_until_boot_up
