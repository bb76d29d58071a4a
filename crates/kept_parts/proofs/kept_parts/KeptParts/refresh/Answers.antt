use Rattle.std.proofs.Common.{◌∙◌}
use Rattle.project_parts.specs.Reached.{parts_for}
use Rattle.kept_parts.proofs.CurrentLemmas.{is_current, reaches}
use Rattle.kept_parts.proofs.GoneLemmas.{brought_left, brought_swept, held_known, known_is_of, on_ok, swept_if}
use Rattle.kept_parts.proofs.kept_parts.KeptParts.refresh.Goals as goal

pub returns-clause-is_of : goal.returns-clause-is_of
returns-clause-is_of c =
    known_is_of c.args.project.now c.bring-brought.new.self c.is_ok-self.result c.bring-brought.ensures.is_of

pub returns-clause-swept : goal.returns-clause-swept
returns-clause-swept c =
    swept_if c.args.project.now c.bring-brought.result c.is_ok-self.result c.is_ok-self.ensures.value c.bring-brought.new.self
    (on_ok (λ brought. brought_swept c.args.project.now (parts_for c.args.project.now c.args.part.now) c.args.self.now
    c.let_go.new.self c.bring-brought.new.self c.args.meter.now c.bring-brought.new.meter c.let_go.ensures.left brought
    c.is_ok-self.result) c.bring-brought.result c.bring-brought.ensures.brings)

pub returns-clause-brings : goal.returns-clause-brings
returns-clause-brings c =
    on_ok (λ brought. brought_left c.args.project.now (parts_for c.args.project.now c.args.part.now) c.args.self.now
    c.let_go.new.self c.bring-brought.new.self c.args.meter.now c.bring-brought.new.meter c.let_go.ensures.left brought
    c.is_ok-self.result) c.bring-brought.result c.bring-brought.ensures.brings

pub returns-clause-current : goal.returns-clause-current
returns-clause-current c =
    let p = c.args.project.now in
    let q = c.args.part.now in
    on_ok (λ brought. held_known c.bring-brought.new.self c.is_ok-self.result q
    ∙ is_current p (parts_for p q) c.let_go.new.self c.bring-brought.new.self c.args.meter.now c.bring-brought.new.meter
    brought q (reaches p q)) c.bring-brought.result c.bring-brought.ensures.brings
