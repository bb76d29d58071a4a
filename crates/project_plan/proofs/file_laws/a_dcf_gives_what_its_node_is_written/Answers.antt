use Rattle.project_plan.proofs.FileLemmas.{values}
use Rattle.project_plan.proofs.file_laws.a_dcf_gives_what_its_node_is_written.Goals as goal

pub returns : goal.returns
returns c = λ project id m place node. values project id m node place
