use Rattle.std.proofs.Common.{subst}
use Rattle.project_parts.specs.Touch.{touch_of, Touch}
use Rattle.project_parts.specs.Touched.{goes_into, is_wrong, is_touched}
use Rattle.kept_parts.specs.Marks.{Marks}
use Rattle.kept_parts.proofs.GoneLemmas.{still_swept, swept_after}
use Rattle.kept_parts.proofs.MarkLemmas.{both_marks, follows, known_marks, plan_below, still_of}
use Rattle.kept_parts.proofs.kept_parts.KeptParts.touch.Goals as goal

pub returns-clause-marks : goal.returns-clause-marks
returns-clause-marks c =
    let e = c.args.edit.now in
    let p = c.args.project.now in
    let old = c.args.self.now in
    let first = c.touch_found.new.self in
    let last = c.mark.new.self in
    known_marks (is_touched p e) old last c.stays_swept-swept.result
    (both_marks is_wrong (goes_into p (touch_of e)) old first last c.touch_found.ensures
    (subst (λ (t : Touch). Marks (goes_into p t) first last) c.touch_of.ensures c.mark.ensures))

pub returns-clause-held : goal.returns-clause-held
returns-clause-held c = (returns-clause-marks c).kept

pub returns-clause-same : goal.returns-clause-same
returns-clause-same c = λ is.
    still_of c.args.self.now _ (is_touched c.args.project.now c.args.edit.now) c.args.project.now
    (λ name. plan_below c.args.project.now c.args.edit.now name) (returns-clause-marks c) is

pub returns-clause-follows : goal.returns-clause-follows
returns-clause-follows c = λ q is taken.
    follows c.args.self.now _ c.args.edit.now c.args.project.now q (returns-clause-marks c) is taken

pub returns-clause-still_swept : goal.returns-clause-still_swept
returns-clause-still_swept c =
    still_swept c.args.project.now c.args.edit.now c.args.self.now _ (returns-clause-held c) c.stays_swept-swept.ensures

pub returns-clause-swept_after : goal.returns-clause-swept_after
returns-clause-swept_after c =
    swept_after c.args.project.now c.args.edit.now c.args.self.now _ (returns-clause-held c) c.stays_swept-swept.ensures
