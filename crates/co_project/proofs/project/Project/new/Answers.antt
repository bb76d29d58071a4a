use Rattle.std.proofs.Common.{subst, sym}
use Rattle.co_project.specs.Sound.{IsSound}
use Rattle.co_project.proofs.KeepsSound.{first_sound}
use Rattle.co_project.proofs.project.Project.new.Goals as goal

pub invariant_of-result : goal.invariant_of-result
invariant_of-result c = subst IsSound (sym c.new.ensures) first_sound
