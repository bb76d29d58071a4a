use Rattle.project_parts.specs.Touched.{holds_writes, is_planned}
use Rattle.kept_parts.proofs.MarkLemmas.{both_marks}
use Rattle.kept_parts.proofs.kept_parts.KeptParts.touch_messages.Goals as goal

pub returns : goal.returns
returns c =
    both_marks is_planned (holds_writes c.args.project.now) c.args.self.now c.touch_plan.new.self
    c.touch_controller.new.self c.touch_plan.ensures c.touch_controller.ensures
