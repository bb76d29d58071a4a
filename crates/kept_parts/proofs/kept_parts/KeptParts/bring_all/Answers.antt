use Rattle.std.proofs.Common.{[], ◌∷◌}
use Rattle.project_parts.specs.Reached.{for_plan}
use Rattle.project_parts.specs.declared.part.Part.TheVariants as part
use Rattle.kept_parts.proofs.AllLemmas.{all_brought, held_brought, still_held}
use Rattle.kept_parts.proofs.kept_parts.KeptParts.bring_all.Goals as goal

pub bring_nodes-requires-clause-plan : goal.bring_nodes-requires-clause-plan
bring_nodes-requires-clause-plan c =
    let p = c.args.project.now in
    still_held p (part.Roster ∷ []) (for_plan p) c.bring_plan.new.self c.bring_roster.new.self c.bring_plan.new.meter
    c.bring_roster.new.meter c.in_ok-bring_roster.ensures.brings
    (held_brought p (for_plan p) c.args.self.now c.bring_plan.new.self c.args.meter.now c.bring_plan.new.meter
    c.in_ok-bring_plan.ensures.brings)

pub returns-clause-brings : goal.returns-clause-brings
returns-clause-brings c =
    all_brought c.args.project.now c.args.self.now c.bring_plan.new.self c.bring_roster.new.self
    c.bring_nodes.new.self c.bring_windows.new.self c.args.meter.now c.bring_plan.new.meter c.bring_roster.new.meter
    c.bring_nodes.new.meter c.bring_windows.new.meter c.in_ok-bring_plan.ensures.brings
    c.in_ok-bring_roster.ensures.brings c.in_ok-bring_nodes.ensures.brings c.in_ok-bring_windows.ensures.brings
