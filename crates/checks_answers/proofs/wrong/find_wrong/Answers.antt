use Rattle.std.proofs.Common.{◌≡◌, ◌∙◌, Some, option_map, rules}
use Rattle.project_plan.specs.Network.{plan_of_project}
use Rattle.project_parts.specs.Made.{plan_made}
use Rattle.workbench.proofs.KeptFiles.{one_is, plan_now}
use Rattle.checks_answers.proofs.wrong.find_wrong.Goals as goal

pub diagnostics-requires : goal.diagnostics-requires
diagnostics-requires c =
    let kept : Some c.in-Some.plan ≡ option_map plan_made c.refresh.new.self.plan.kept = search rules in
    c.get.ensures
    ∙ one_is c.in-Some.plan (plan_of_project c.args.project.now)
    (kept ∙ plan_now c.args.project.now c.refresh.new.self
    c.in_ok-refresh.ensures.current)
