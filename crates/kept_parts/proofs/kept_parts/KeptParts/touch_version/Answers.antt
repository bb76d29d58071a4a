use Rattle.kept_parts.proofs.MarkLemmas.{version_marks}
use Rattle.kept_parts.proofs.kept_parts.KeptParts.touch_version.Goals as goal

pub returns : goal.returns
returns c =
    version_marks c.args.self.now c.mark_all.new.self c.touch_plan.new.self c.mark.new.self c.mark_all-2.new.self
    c.mark_all-3.new.self c.mark_all.ensures c.touch_plan.ensures c.mark.ensures c.mark_all-2.ensures.kept
    c.mark_all-2.ensures.fresh c.mark_all-3.ensures.kept c.mark_all-3.ensures.fresh
