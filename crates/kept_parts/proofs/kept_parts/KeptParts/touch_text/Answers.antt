use Rattle.std.proofs.Common.{subst}
use Rattle.kept_parts.specs.Marks.{Marks}
use Rattle.project_parts.specs.Touched.{is_planned}
use Rattle.part_shelves.specs.Slots.{Slots}
use Rattle.kept_parts.proofs.MarkLemmas.{text_marks}
use Rattle.kept_parts.proofs.kept_parts.KeptParts.touch_text.Goals as goal

pub returns : goal.returns
returns c =
    text_marks c.args.self.now c.args.name.now c.touch_plan.new.self c.mark_all.new.self c.mark_all-2.new.self
    (subst (λ (devices : Slots). Marks is_planned (record c.args.self.now { devices = devices }) c.touch_plan.new.self)
    c.mark.ensures c.touch_plan.ensures) c.mark_all.ensures.kept c.mark_all.ensures.fresh c.mark_all-2.ensures.kept
    c.mark_all-2.ensures.fresh
