use Rattle.std.proofs.Common.{[], ◌∷◌, Some, ap, sym, subst, ◌∙◌}
use Rattle.kept_values.specs.Shelved.{Single}
use Rattle.kept_values.specs.Stale.{AreBrought}
use Rattle.kept_values.proofs.Brought.{both, refreshes_none}
use Rattle.kept_parts.specs.Kept.{kept_inputs, HaveNoMark, IsOf}
use Rattle.project_parts.specs.Given.{inputs_of, same_part}
use Rattle.project_parts.specs.Offered.{offered_plan}
use Rattle.project_parts.specs.Reached.{of_nodes}
use Rattle.project_parts.specs.declared.part.Part.TheVariants as part
use Rattle.project_parts.specs.declared.plan_from.PlanFrom.{PlanFrom}
use Rattle.kept_parts.proofs.KindLemmas.{plan_brought, plan_is_of, plan_now}
use Rattle.kept_parts.proofs.StayLemmas.{plan_stays}
use Rattle.kept_parts.proofs.StepLemmas.{plan_settled, with_plan}
use Rattle.kept_parts.proofs.kept_parts.KeptParts.settle_plan.Goals as goal

pub returns-then-is_fresh-clause-brings : goal.returns-then-is_fresh-clause-brings
returns-then-is_fresh-clause-brings c =
    plan_stays c.args.project.now c.args.self.now c.requires c.args.meter.now (sym c.is_fresh.ensures ∙ c.if-is_fresh.true)

pub returns-then-is_fresh-clause-kept : goal.returns-then-is_fresh-clause-kept
returns-then-is_fresh-clause-kept c =
    plan_now c.args.project.now c.args.self.now c.requires (sym c.is_fresh.ensures ∙ c.if-is_fresh.true)

pub settle-requires : goal.settle-requires
settle-requires c = λ unmarked.
    plan_now c.args.project.now c.bring_devices.new.self c.in_ok-devices.ensures.is_of unmarked
    ∙ ap Some (sym c.of-now.ensures)

-- ---- the plan is of these inputs

pub returns-then-settle-clause-is_of : goal.returns-then-settle-clause-is_of
returns-then-settle-clause-is_of c =
    let p = c.args.project.now in
    let first = c.bring_devices.new.self in
    let now = offered_plan c.of-now.result in
    plan_is_of p first c.in_ok-devices.ensures.is_of c.settle.new.self now
    (plan_settled first.plan c.settle.new.self now (c.settle.ensures.same.0 c.if-settle.true)
    (c.settle.ensures.settled c.if-settle.true))
    c.of-now.ensures
    c.in_ok-devices.ensures.unmarked

pub returns-then-settle-clause-kept : goal.returns-then-settle-clause-kept
returns-then-settle-clause-kept c =
    ap (λ (x : Single PlanFrom). x.kept) (c.settle.ensures.settled c.if-settle.true)
    ∙ c.settle.ensures.same.0 c.if-settle.true
    ∙ ap Some c.of-now.ensures

pub returns-then-settle-clause-brings : goal.returns-then-settle-clause-brings
returns-then-settle-clause-brings c =
    let p = c.args.project.now in
    let first = c.bring_devices.new in
    let now = offered_plan c.of-now.result in
    let current = c.settle.ensures.same.0 c.if-settle.true in
    both same_part (inputs_of p) (of_nodes p) (part.Plan ∷ []) (kept_inputs c.args.self.now) (kept_inputs first.self) _
    c.args.meter.now first.meter first.meter c.in_ok-devices.ensures.brings
    (plan_brought p first.self c.in_ok-devices.ensures.is_of c.settle.new.self now
    (plan_settled first.self.plan c.settle.new.self now current (c.settle.ensures.settled c.if-settle.true))
    c.of-now.ensures
    first.meter first.meter (refreshes_none first.self.plan.kept (Some now) first.meter current))

-- ---- or of others

pub build_plan-requires-clause-is_of : goal.build_plan-requires-clause-is_of
build_plan-requires-clause-is_of c =
    subst (λ (plan : Single PlanFrom). IsOf c.args.project.now (with_plan c.bring_devices.new.self plan))
    (sym (c.settle.ensures.stale c.if-settle.false)) c.in_ok-devices.ensures.is_of

pub build_plan-requires-clause-unmarked : goal.build_plan-requires-clause-unmarked
build_plan-requires-clause-unmarked c =
    subst (λ (plan : Single PlanFrom). HaveNoMark (with_plan c.bring_devices.new.self plan)
    (of_nodes c.args.project.now))
    (sym (c.settle.ensures.stale c.if-settle.false)) c.in_ok-devices.ensures.unmarked

pub build_plan-requires-clause-stale : goal.build_plan-requires-clause-stale
build_plan-requires-clause-stale c = λ same.
    let is = c.of-now.ensures in
    let settled = c.settle.ensures.same.1
    (ap (λ (x : Single PlanFrom). x.kept) (sym (c.settle.ensures.stale c.if-settle.false)) ∙ same ∙ ap Some (sym is)) in
    let other = c.if-settle.false in
    cc

pub returns-clause-brings : goal.returns-clause-brings
returns-clause-brings c =
    let p = c.args.project.now in
    let first = c.bring_devices.new in
    both same_part (inputs_of p) (of_nodes p) (part.Plan ∷ []) (kept_inputs c.args.self.now) (kept_inputs first.self) _
    c.args.meter.now first.meter c.build_plan.new.meter c.in_ok-devices.ensures.brings
    (subst (λ (plan : Single PlanFrom). AreBrought same_part (inputs_of p) (part.Plan ∷ []) (kept_inputs (with_plan first.self plan))
    (kept_inputs c.build_plan.new.self) first.meter c.build_plan.new.meter)
    (c.settle.ensures.stale c.if-settle.false) c.in_ok-build_plan.ensures.brings)
