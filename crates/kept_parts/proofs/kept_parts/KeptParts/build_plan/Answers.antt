use Rattle.std.proofs.Common.{◌≡◌, [], ◌∷◌, Some, ap, sym, subst, ◌∙◌}
use Rattle.kept_values.specs.Shelved.{Single}
use Rattle.kept_values.specs.Stale.{AreBrought}
use Rattle.kept_parts.specs.Kept.{kept_inputs, HaveNoMark, IsOf}
use Rattle.project_parts.specs.Given.{inputs_of, plan_from, same_part}
use Rattle.project_parts.specs.Offered.{offered_plan}
use Rattle.project_parts.specs.Reached.{of_nodes}
use Rattle.project_parts.specs.declared.part.Part.TheVariants as part
use Rattle.kept_parts.specs.declared.kept_parts.KeptParts.{KeptParts}
use Rattle.project_parts.specs.declared.plan_from.PlanFrom.{PlanFrom}
use Rattle.kept_parts.proofs.KindLemmas.{plan_brought, plan_is_of}
use Rattle.kept_parts.proofs.StepLemmas.{plan_built, with_plan}
use Rattle.kept_parts.proofs.kept_parts.KeptParts.build_plan.Goals as goal

pub returns-clause-is_of : goal.returns-clause-is_of
returns-clause-is_of c =
    let p = c.args.project.now in
    let last = c.devices_for_plan.new.self in
    let same = sym c.devices_for_plan.ensures.same in
    plan_is_of p last (subst (IsOf p) same c.requires.is_of) c.build.new.self (offered_plan c.of-now.result)
    c.in_ok-build.ensures.ok
    c.of-now.ensures
    (subst (λ (k : KeptParts). HaveNoMark k (of_nodes p)) same c.requires.unmarked)

pub returns-clause-kept : goal.returns-clause-kept
returns-clause-kept c =
    ap (λ (x : Single PlanFrom). x.kept) c.in_ok-build.ensures.ok
    ∙ ap Some c.of-now.ensures

pub returns-clause-brings : goal.returns-clause-brings
returns-clause-brings c =
    let p = c.args.project.now in
    let m = c.args.meter.now in
    let n = c.build.new.meter in
    let now = offered_plan c.of-now.result in
    let is = c.of-now.ensures in
    let last = c.devices_for_plan.new.self in
    let same = sym c.devices_for_plan.ensures.same in
    let stale = subst (λ (k : KeptParts). k.plan.kept ≡ Some (plan_from p) → ⊥) same c.requires.stale in
    subst (λ (k : KeptParts). AreBrought same_part (inputs_of p) (part.Plan ∷ []) (kept_inputs k)
    (kept_inputs (with_plan last c.build.new.self)) m n)
    c.devices_for_plan.ensures.same
    (plan_brought p last (subst (IsOf p) same c.requires.is_of) c.build.new.self now c.in_ok-build.ensures.ok is m n
    (plan_built p last.plan.kept now m n is stale c.in_ok-build.ensures.counted
    c.build.ensures.rises))
