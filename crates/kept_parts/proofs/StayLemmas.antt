-- Parts without a mark, taken as they are.
use Rattle.std.proofs.Common.{◌≡◌, ◌∙◌, ℕ, true, Bool, List, [], ◌∷◌, map, Option, Some, refl, ap}
use Rattle.std.specs.FinMap.{entries}
use Rattle.std.proofs.lemmas.List.Elements.{All-head, All-tail}
use Rattle.kept_values.specs.Shelved.{Single}
use Rattle.kept_values.specs.Stale.{AreBrought}
use Rattle.kept_values.specs.Work.{Work}
use Rattle.kept_values.proofs.Brought.{both, none, refreshes_none}
use Rattle.co_project.specs.declared.node.Node.{Node}
use Rattle.co_project.specs.Project.{Content as Project}
use Rattle.part_shelves.specs.SheetText.{sheet_given}
use Rattle.part_shelves.specs.Slots.{fresh_at, sheet_kept}
use Rattle.part_shelves.proofs.SlotLemmas.{fresh_stands}
use Rattle.kept_parts.specs.Kept.{is_unmarked, kept_inputs, HaveNoMark, IsOf}
use Rattle.project_parts.specs.Given.{inputs_of, plan_from, same_part}
use Rattle.project_parts.specs.Reached.{for_plan, of_node}
use Rattle.project_parts.specs.declared.plan_from.PlanFrom.{PlanFrom}
use Rattle.project_parts.specs.declared.part.Part.{Part}
use Rattle.project_parts.specs.declared.part.Part.TheVariants as part
use Rattle.kept_parts.specs.declared.kept_parts.KeptParts.{KeptParts}
use Rattle.kept_parts.proofs.KindLemmas.{closed, device_brought, device_now, plan_brought, plan_now}

module _ (p : Project) (h : KeptParts) (is : IsOf p h) (m : Work) where
  -- it is as if they had been brought up to date
  abbrev Stay : List Part → Type 0
  Stay qs = AreBrought same_part (inputs_of p) qs (kept_inputs h) (kept_inputs h) m m

  one_stays : (name : List ℕ) → fresh_at h.devices name ≡ true → Stay (part.Device name ∷ [])
  one_stays name u =
      let now = device_now p h is name u in
      device_brought p h is name h.devices (fresh_stands h.devices name (sheet_given p name) u now) m m
      (refreshes_none (sheet_kept h.devices name) (sheet_given p name) m now)

  all_stay : (es : List (ℕ × Node)) → HaveNoMark h (map of_node es) → Stay (map of_node es)
  all_stay [] all = none same_part (inputs_of p) (kept_inputs h) m
  all_stay (e ∷ es) all =
      both same_part (inputs_of p) (of_node e ∷ []) (map of_node es) (kept_inputs h) (kept_inputs h) (kept_inputs h) m m m
      (one_stays e.1.eds (All-head (λ q. is_unmarked h q ≡ true) (of_node e) (map of_node es) all))
      (all_stay es (All-tail (λ q. is_unmarked h q ≡ true) (of_node e) (map of_node es) all))

  single : Option PlanFrom → Bool → Single PlanFrom
  single k f = record { kept = k; fresh = f }

  -- the plan with all that it is built from
  pub plan_stays : h.plan.fresh ≡ true → Stay (for_plan p)
  unfolding single
  plan_stays u =
      let now = plan_now p h is u in
      both same_part (inputs_of p) (map of_node (entries p.nodes)) (part.Plan ∷ []) (kept_inputs h) (kept_inputs h) (kept_inputs h) m m m
      (all_stay (entries p.nodes) (closed p h is u))
      (plan_brought p h is h.plan (plan_from p)
      (ap (λ k. single k h.plan.fresh) now ∙ ap (single (Some (plan_from p))) u) refl m m
      (refreshes_none h.plan.kept (Some (plan_from p)) m now))
