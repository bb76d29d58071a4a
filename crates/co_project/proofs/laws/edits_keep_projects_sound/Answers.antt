use Rattle.co_project.proofs.KeepsSound.{edits_keep_sound}
use Rattle.co_project.proofs.laws.edits_keep_projects_sound.Goals as goal

pub returns : goal.returns
returns c = edits_keep_sound
