use Rattle.kept_parts.proofs.MarkLemmas.{network_marks}
use Rattle.kept_parts.proofs.kept_parts.KeptParts.touch_network.Goals as goal

pub returns : goal.returns
returns c =
    network_marks c.args.self.now c.args.id c.touch_plan.new.self c.mark.new.self c.mark-2.new.self c.mark_all.new.self
    c.touch_plan.ensures c.mark.ensures c.mark-2.ensures.kept c.mark-2.ensures.fresh c.mark_all.ensures.kept
    c.mark_all.ensures.fresh
