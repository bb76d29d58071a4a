-- The plan at each place.
use Rattle.std.proofs.Common.{◌≡◌, ℕ, zero, suc, List, [], ◌∷◌, ◌++◌, length, take, append_assoc, Some, refl, sym, ap}
use Rattle.std.proofs.Common.{◌∙◌}
use Rattle.std.specs.List.{slice_get}
use Rattle.std.proofs.lemmas.List.{append-nil}
use Rattle.project_messages.specs.declared.linked.Linked.{Linked}
use Rattle.pdo_choices.specs.declared.clean.Clean.{Clean}
use Rattle.pdo_plan.specs.declared.outcome.Outcome.{Outcome}
use Rattle.pdo_plan.specs.declared.outcome.Outcome.TheVariants.{Planned, Faulty}
use Rattle.pdo_plan.specs.declared.planned_message.PlannedMessage.{PlannedMessage}
use Rattle.pdo_stations.specs.Devices.{Devices}
use Rattle.pdo_choices.specs.Had.{Withheld, had_by, withheld_by}
use Rattle.pdo_plan.specs.Plan.{planned_message, clean, plan_after, plan_of}

more : (before : List Clean) (name : List ℕ) (o : Outcome) (ps : List PlannedMessage)
    → let p : PlannedMessage = record { name = name; outcome = o }
    in (before ++ clean (p ∷ [])) ++ clean ps ≡ before ++ clean (p ∷ ps)
more before name (Planned c) ps = append_assoc before (c ∷ []) (clean ps)
more before name (Faulty fs) ps = ap (λ cs. cs ++ clean ps) (append-nil before)

module _ (withheld : Withheld) (devices : Devices) where
  abbrev IsAt : List Clean → List (List ℕ × Linked) → List PlannedMessage → ℕ → PlannedMessage → Type 0
  IsAt before ms ps k p = (m : List ℕ × Linked) × (slice_get ms k ≡ Some m)
      × (p ≡ planned_message (had_by withheld (before ++ clean (take k ps))) devices m)

  after_at : (before : List Clean) (ms : List (List ℕ × Linked)) (k : ℕ) (p : PlannedMessage)
      → slice_get (plan_after withheld devices before ms) k ≡ Some p → IsAt before ms (plan_after withheld devices before ms) k p
  after_at before [] k p e = cc
  after_at before (m ∷ ms) zero p e =
      let is : planned_message (had_by withheld before) devices m ≡ p = cc in
      (m, refl, sym is ∙ ap (λ cs. planned_message (had_by withheld cs) devices m) (sym (append-nil before)))
  after_at before (m ∷ ms) (suc k) p e =
      let said : PlannedMessage = planned_message (had_by withheld before) devices m in
      let rest : List PlannedMessage = plan_after withheld devices (before ++ clean (said ∷ [])) ms in
      let there = after_at (before ++ clean (said ∷ [])) ms k p e in (
        there.0,
        there.1,
        there.2 ∙ ap (λ cs. planned_message (had_by withheld cs) devices there.0)
            (more before said.name said.outcome (take k rest)),
      )

  after_count : (before : List Clean) (ms : List (List ℕ × Linked)) → length (plan_after withheld devices before ms) ≡ length ms
  after_count before [] = refl
  after_count before (m ∷ ms) =
      ap suc (after_count (before ++ clean (planned_message (had_by withheld before) devices m ∷ [])) ms)

pub plan_at : (devices : Devices) (ms : List (List ℕ × Linked)) (k : ℕ) (p : PlannedMessage)
    → slice_get (plan_of devices ms) k ≡ Some p
    → (m : List ℕ × Linked) × (slice_get ms k ≡ Some m)
    × (p ≡ planned_message (had_by (withheld_by devices ms) (clean (take k (plan_of devices ms)))) devices m)
unfolding plan_of
plan_at devices ms k p e = after_at (withheld_by devices ms) devices [] ms k p e

pub plan_count : (devices : Devices) (ms : List (List ℕ × Linked)) → length (plan_of devices ms) ≡ length ms
unfolding plan_of
plan_count devices ms = after_count (withheld_by devices ms) devices [] ms
