use Rattle.project_parts.specs.Reached.{reached_by_trace}
use Rattle.kept_parts.proofs.AllLemmas.{held_brought}
use Rattle.kept_parts.proofs.GoneLemmas.{brought_left, brought_swept, known_held, known_is_of, on_ok, swept_if}
use Rattle.kept_parts.proofs.kept_parts.KeptParts.refresh_all.Goals as goal

pub returns-clause-is_of : goal.returns-clause-is_of
returns-clause-is_of c =
    known_is_of c.args.project.now c.bring_all-brought.new.self c.is_ok-self.result c.bring_all-brought.ensures.is_of

pub returns-clause-swept : goal.returns-clause-swept
returns-clause-swept c =
    swept_if c.args.project.now c.bring_all-brought.result c.is_ok-self.result c.is_ok-self.ensures.value
    c.bring_all-brought.new.self
    (on_ok (λ brought. brought_swept c.args.project.now (reached_by_trace c.args.project.now) c.args.self.now
    c.let_go.new.self c.bring_all-brought.new.self c.args.meter.now c.bring_all-brought.new.meter c.let_go.ensures.left
    brought c.is_ok-self.result) c.bring_all-brought.result c.bring_all-brought.ensures.brings)

pub returns-clause-brings : goal.returns-clause-brings
returns-clause-brings c =
    on_ok (λ brought. brought_left c.args.project.now (reached_by_trace c.args.project.now) c.args.self.now
    c.let_go.new.self c.bring_all-brought.new.self c.args.meter.now c.bring_all-brought.new.meter c.let_go.ensures.left
    brought c.is_ok-self.result) c.bring_all-brought.result c.bring_all-brought.ensures.brings

pub returns-clause-current : goal.returns-clause-current
returns-clause-current c =
    let p = c.args.project.now in
    on_ok (λ brought. known_held p (reached_by_trace p) c.bring_all-brought.new.self c.is_ok-self.result
    (held_brought p (reached_by_trace p) c.let_go.new.self c.bring_all-brought.new.self c.args.meter.now
    c.bring_all-brought.new.meter brought)) c.bring_all-brought.result c.bring_all-brought.ensures.brings
