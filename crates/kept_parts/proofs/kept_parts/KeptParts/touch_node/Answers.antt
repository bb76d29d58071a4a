use Rattle.project_parts.specs.Touched.{holds_writes, is_of_network}
use Rattle.kept_parts.proofs.MarkLemmas.{both_marks}
use Rattle.kept_parts.proofs.kept_parts.KeptParts.touch_node.Goals as goal

pub returns : goal.returns
returns c =
    both_marks (is_of_network c.args.id) (holds_writes c.args.project.now) c.args.self.now c.touch_network.new.self
    c.touch_controller.new.self c.touch_network.ensures c.touch_controller.ensures
