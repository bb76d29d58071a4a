use Rattle.std.proofs.Common.{subst, sym, Result, Ok, Err}
use Rattle.project_edits.specs.declared.fault.EditFault.{EditFault}
use Rattle.project_edits.specs.declared.edit.Edit.{Edit}
use Rattle.project_edits.specs.Accepts.{Accepts}
use Rattle.project_edits.specs.Edits.{IsEdit}
use Rattle.co_project.specs.Project.{Content, accept}
use Rattle.co_project.specs.Sound.{IsSound}
use Rattle.co_project.proofs.KeepsSound.{edits_keep_sound}
use Rattle.co_project.proofs.project.Project.accept.Goals as goal

-- an edit keeps to it, taken or refused
accepts_keep_sound : (p q : Content) (edit : Edit) (result : Result (Unit {0}) EditFault) → IsSound p → IsEdit edit
    → Accepts p q result (accept p edit) → IsSound q
accepts_keep_sound p q edit (Ok _) sound is taken = edits_keep_sound p q edit sound is taken
accepts_keep_sound p q edit (Err fault) sound is refused = subst IsSound (sym refused.1) sound

pub invariant_of-self : goal.invariant_of-self
invariant_of-self c = accepts_keep_sound c.self.inside.contents c.accept.new.self c.into_edit.result c.accept.result
    c.self.invariant c.into_edit.ensures.kept c.accept.ensures.accepts
