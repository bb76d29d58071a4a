use Rattle.project_plan.proofs.FileLemmas.{parameters}
use Rattle.project_plan.proofs.file_laws.a_dcf_gives_the_parameters_of_its_node.Goals as goal

pub returns : goal.returns
returns c = parameters
