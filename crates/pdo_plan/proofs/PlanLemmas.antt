-- The plan, message by message.
use Rattle.std.proofs.Common.{◌≡◌, ◌==◌, ℕ, Bool, true, false, ◌||◌, ◌&&◌, List, [], ◌∷◌, ◌++◌, append_assoc, refl, sym}
use Rattle.std.proofs.Common.{ap, subst, ◌∙◌}
use Rattle.std.specs.List.{list_any, All}
use Rattle.std.specs.Option.{IfSome}
use Rattle.std.proofs.lemmas.List.Elements.{filter_map-append, All-nil, All-cons, All-append}
use Rattle.std.proofs.lemmas.List.{append-nil}
use Rattle.std.proofs.lemmas.List.Folds.{list_any-append}
use Rattle.project_messages.specs.declared.linked.Linked.{Linked}
use Rattle.pdo_choices.specs.declared.clean.Clean.{Clean}
use Rattle.pdo_plan.specs.declared.outcome.Outcome.{Outcome}
use Rattle.pdo_plan.specs.declared.outcome.Outcome.TheVariants.{Planned, Faulty}
use Rattle.pdo_plan.specs.declared.planned_message.PlannedMessage.{PlannedMessage}
use Rattle.pdo_stations.specs.Devices.{Devices}
use Rattle.pdo_choices.specs.Had.{Had, Withheld, had_by, is_at_node, had_too}
use Rattle.pdo_plan.specs.Plan.{planned_message, clean_of, clean, plan_after}
use Rattle.pdo_choices.specs.Limits.{IsWithin}
use Rattle.pdo_plan.specs.Plan.{had_after}

or_false : (a b : Bool) → a || b ≡ a || (b || false)
or_false true b = refl
or_false false true = refl
or_false false false = refl

any_more : (p : Clean → Bool) (cs : List Clean) (c : Clean) → list_any p cs || p c ≡ list_any p (cs ++ c ∷ [])
any_more p cs c = or_false (list_any p cs) (p c) ∙ sym (list_any-append p cs (c ∷ []))

had_more : (withheld : Withheld) (cs : List Clean) (c : Clean) → had_too (had_by withheld cs) c ≡ had_by withheld (cs ++ c ∷ [])
had_more withheld cs c = λ i. record {
  identifier = λ id. any_more (λ d. d.identifier == id) cs c i;
  tpdo = λ node number. any_more (λ d. (d.message.node == node) && (d.message.tpdo == number)) cs c i;
  rpdo = λ node number. any_more (λ d. list_any (is_at_node node number) d.consumers) cs c i;
  withheld = withheld;
}

-- the clean ones after one more message
pub clean_more : (ps : List PlannedMessage) (p : PlannedMessage) → clean ps ++ clean (p ∷ []) ≡ clean (ps ++ p ∷ [])
clean_more ps p = sym (filter_map-append (λ (x : PlannedMessage). clean_of x.outcome) ps (p ∷ []))

had_listed : (withheld : Withheld) (cs : List Clean) (name : List ℕ) (o : Outcome)
    → let p : PlannedMessage = record { name = name; outcome = o }
    in had_after (had_by withheld cs) o ≡ had_by withheld (cs ++ clean (p ∷ []))
had_listed withheld cs name (Planned c) = had_more withheld cs c
had_listed withheld cs name (Faulty fs) = sym (ap (had_by withheld) (append-nil cs))

-- what is had after one more message
pub had_step : (withheld : Withheld) (ps : List PlannedMessage) (p : PlannedMessage) (before after : Had) → before ≡ had_by withheld (clean ps)
    → after ≡ had_after before p.outcome → after ≡ had_by withheld (clean (ps ++ p ∷ []))
had_step withheld ps p before after b a = a ∙ ap (λ h. had_after h p.outcome) b ∙ had_listed withheld (clean ps) p.name p.outcome
    ∙ ap (had_by withheld) (clean_more ps p)

-- the plan of what is left, after one more message
pub plan_step : (withheld : Withheld) (devices : Devices) (ps : List PlannedMessage) (p : PlannedMessage) (had : Had) (m : List ℕ × Linked)
    (ms : List (List ℕ × Linked))
    → had ≡ had_by withheld (clean ps) → p ≡ planned_message had devices m
    → (ps ++ p ∷ []) ++ plan_after withheld devices (clean (ps ++ p ∷ [])) ms ≡ ps ++ plan_after withheld devices (clean ps) (m ∷ ms)
plan_step withheld devices ps p had m ms h j =
    let is : p ≡ planned_message (had_by withheld (clean ps)) devices m = j ∙ ap (λ x. planned_message x devices m) h in
    append_assoc ps (p ∷ []) _
    ∙ ap (λ cs. ps ++ p ∷ plan_after withheld devices cs ms) (sym (clean_more ps p))
    ∙ ap (λ x. ps ++ x ∷ plan_after withheld devices (clean ps ++ clean (x ∷ [])) ms) is

listed_within : (name : List ℕ) (o : Outcome) → IfSome (clean_of o) IsWithin
    → let p : PlannedMessage = record { name = name; outcome = o } in All IsWithin (clean (p ∷ []))
listed_within name (Planned c) within = All-cons IsWithin c [] within (All-nil IsWithin)
listed_within name (Faulty fs) within = All-nil IsWithin

-- all clean ones are within their limits
pub within_step : (ps : List PlannedMessage) (p : PlannedMessage) → All IsWithin (clean ps)
    → IfSome (clean_of p.outcome) IsWithin → All IsWithin (clean (ps ++ p ∷ []))
within_step ps p all within = subst (All IsWithin) (clean_more ps p)
    (All-append IsWithin (clean ps) (clean (p ∷ [])) all (listed_within p.name p.outcome within))
