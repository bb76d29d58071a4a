use Rattle.std.proofs.Common.{◌≡◌, [], ◌∷◌, ◌∙◌, Bool, true, Option, Some, ap, refl, sym}
use Rattle.kept_values.proofs.Brought.{both, refreshes_built, refreshes_none}
use Rattle.kept_values.specs.Shelved.{Single}
use Rattle.project_parts.specs.Given.{inputs_of, same_part, whole}
use Rattle.project_parts.specs.Reached.{for_plan}
use Rattle.project_parts.specs.declared.diagnostics_from.DiagnosticsFrom.{DiagnosticsFrom}
use Rattle.project_parts.specs.declared.part.Part.TheVariants as part
use Rattle.project_parts.proofs.PlanLemmas.{plan_is}
use Rattle.project_plan.specs.Network.{plan_of_project}
use Rattle.kept_parts.specs.Kept.{kept_inputs}
use Rattle.kept_parts.proofs.KindLemmas.{found_brought, found_is_of}
use Rattle.kept_parts.proofs.kept_parts.KeptParts.bring_diagnostics.Goals as goal

single : Option DiagnosticsFrom → Bool → Single DiagnosticsFrom
single k f = record { kept = k; fresh = f }

-- those that are kept, once their mark is taken
unmarked : (old new : Single DiagnosticsFrom) (now : DiagnosticsFrom) → old.kept ≡ Some now
    → new ≡ record old { fresh = true } → new ≡ record { kept = Some now; fresh = true }
unfolding single
unmarked old new now kept is = is ∙ ap (λ k. single k true) kept

pub find-requires : goal.find-requires
find-requires c = c.get.ensures ∙ c.in_ok-plan.ensures.value ∙ plan_is c.args.project.now
    ∙ ap plan_of_project (sym c.in_ok-library.ensures)

-- ---- they are of this project

pub returns-then-has_diagnostics-clause-is_of : goal.returns-then-has_diagnostics-clause-is_of
returns-then-has_diagnostics-clause-is_of c =
    let first = c.bring_plan.new.self in
    found_is_of c.args.project.now first c.in_ok-plan.ensures.is_of c.unmark.new.self
    (unmarked first.found c.unmark.new.self (whole c.args.project.now)
    (c.has_diagnostics.ensures.0 c.if-has_diagnostics.true) c.unmark.ensures)

pub returns-then-has_diagnostics-clause-brings : goal.returns-then-has_diagnostics-clause-brings
returns-then-has_diagnostics-clause-brings c =
    let p = c.args.project.now in
    let first = c.bring_plan.new in
    let current = c.has_diagnostics.ensures.0 c.if-has_diagnostics.true in
    both same_part (inputs_of p) (for_plan p) (part.Diagnostics ∷ []) (kept_inputs c.args.self.now) (kept_inputs first.self) _
    c.args.meter.now first.meter first.meter c.in_ok-plan.ensures.brings
    (found_brought p first.self c.in_ok-plan.ensures.is_of c.unmark.new.self
    (unmarked first.self.found c.unmark.new.self (whole p) current c.unmark.ensures) first.meter first.meter
    (refreshes_none first.self.found.kept (Some (whole p)) first.meter current))

-- ---- or of another, and found anew

pub returns-clause-is_of : goal.returns-clause-is_of
returns-clause-is_of c =
    found_is_of c.args.project.now c.bring_plan.new.self c.in_ok-plan.ensures.is_of c.build.new.self
    c.in_ok-build.ensures.ok

pub returns-clause-brings : goal.returns-clause-brings
returns-clause-brings c =
    let p = c.args.project.now in
    let first = c.bring_plan.new in
    both same_part (inputs_of p) (for_plan p) (part.Diagnostics ∷ []) (kept_inputs c.args.self.now) (kept_inputs first.self) _
    c.args.meter.now first.meter c.build.new.meter c.in_ok-plan.ensures.brings
    (found_brought p first.self c.in_ok-plan.ensures.is_of c.build.new.self c.in_ok-build.ensures.ok first.meter
    c.build.new.meter
    (refreshes_built first.self.found.kept (Some (whole p)) (Some (whole p)) first.meter c.build.new.meter
    (λ same. let found = c.has_diagnostics.ensures.1 same in let none = c.if-has_diagnostics.false in cc) refl
    c.in_ok-build.ensures.counted tt c.build.ensures.rises))
