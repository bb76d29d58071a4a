use Rattle.std.proofs.Common.{◌≡◌, ◌∙◌, ◌∷◌, [], ℕ, false, List, Some, arith, option_copied, refl, sym, ap, subst}
use Rattle.std.proofs.lemmas.Bool.Decides.{nat_tests}
use Rattle.co_scenario.specs.declared.timed_step.TimedStep.{TimedStep}
use Rattle.network_image.specs.Held.{with_steps, IsWindow}
use Rattle.network_image.specs.Image.{window_steps}
use Rattle.network_image.proofs.StepLemmas.{steps_are_window}
use Rattle.project_plan.specs.Events.{shape_of_node}
use Rattle.part_shelves.specs.Busy.{has_steps}
use Rattle.kept_parts.proofs.NetworkLemmas.{same_some, some_none, window_kept}
use Rattle.kept_parts.proofs.kept_parts.KeptParts.add_window.Goals as goal

no_steps : (steps : List TimedStep) → has_steps (Some steps) ≡ false → steps ≡ []
no_steps [] e = refl
no_steps (s ∷ steps) e = grind (arith, nat_tests)

pub returns-then-not-has_steps : goal.returns-then-not-has_steps
returns-then-not-has_steps c =
    let kept = window_kept c.args.project.now c.args.self.now c.args.i c.requires.held in
    ap (λ (steps : List TimedStep). with_steps c.args.i steps c.args.table.now)
    (sym (no_steps _ (sym (ap has_steps kept) ∙ sym c.has_steps.ensures ∙ c.if-not-has_steps.true)))

pub unreachable-requires : goal.unreachable-requires
unreachable-requires c =
    some_none (sym (window_kept c.args.project.now c.args.self.now c.args.i c.requires.held) ∙ sym c.value.ensures
    ∙ ap option_copied c.in_default.is)

pub add_shared-requires : goal.add_shared-requires
unfolding window_steps
add_shared-requires c =
    subst (λ (i : ℕ). IsWindow i c.in_ok-window.window.value) (sym c.from.ensures)
    (steps_are_window (shape_of_node c.args.project.now) c.args.project.now c.keeps_to_rules.ensures c.args.i _
    (c.in_ok-window.ensures
    ∙ same_some (c.in-Some.ensures ∙ window_kept c.args.project.now c.args.self.now c.args.i c.requires.held)))

pub returns : goal.returns
returns c =
    c.in_ok-add_shared.ensures
    ∙ ap (λ (i : ℕ). with_steps i c.in_ok-window.window.value c.args.table.now) c.from.ensures
    ∙ ap (λ (steps : List TimedStep). with_steps c.args.i steps c.args.table.now)
    (c.in_ok-window.ensures
    ∙ same_some (c.in-Some.ensures ∙ window_kept c.args.project.now c.args.self.now c.args.i c.requires.held))
