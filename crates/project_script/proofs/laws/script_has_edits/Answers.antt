use Rattle.project_script.proofs.ScriptEdits.{script_edits}
use Rattle.project_script.proofs.laws.script_has_edits.Goals as goal

pub returns : goal.returns
returns c = script_edits
