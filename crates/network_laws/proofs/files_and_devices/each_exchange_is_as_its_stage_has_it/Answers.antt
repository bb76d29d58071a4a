use Rattle.network_laws.proofs.FileLemmas.{all_exchange, same_numbers}
use Rattle.network_laws.proofs.files_and_devices.each_exchange_is_as_its_stage_has_it.Goals as goal

pub returns-clause-exchange : goal.returns-clause-exchange
returns-clause-exchange c = all_exchange

pub returns-clause-number : goal.returns-clause-number
returns-clause-number c = same_numbers
