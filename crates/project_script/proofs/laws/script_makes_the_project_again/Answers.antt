use Rattle.project_script.proofs.RoundTrip.{script_again}
use Rattle.project_script.proofs.laws.script_makes_the_project_again.Goals as goal

pub returns : goal.returns
returns c = script_again
