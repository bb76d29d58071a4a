use Rattle.project_plan.proofs.FileLemmas.{taken_in}
use Rattle.project_plan.proofs.file_laws.a_dcf_can_be_taken_in.Goals as goal

pub returns : goal.returns
returns c = λ project id m name node. taken_in project id m node name
