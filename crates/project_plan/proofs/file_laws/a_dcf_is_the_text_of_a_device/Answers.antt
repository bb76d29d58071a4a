use Rattle.project_plan.proofs.FileLemmas.{device, entries, no_bad, no_long}
use Rattle.project_plan.proofs.file_laws.a_dcf_is_the_text_of_a_device.Goals as goal

pub returns-clause-device : goal.returns-clause-device
returns-clause-device c = device

pub returns-clause-bytes : goal.returns-clause-bytes
returns-clause-bytes c = no_bad

pub returns-clause-lines : goal.returns-clause-lines
returns-clause-lines c = no_long

pub returns-clause-entries : goal.returns-clause-entries
returns-clause-entries c = λ project id m index sub node. entries project id m node index sub
