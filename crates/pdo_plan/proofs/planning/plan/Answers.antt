use Rattle.std.proofs.Common.{◌≡◌, ℕ, List, [], ◌∷◌, ◌++◌, ap, sym, subst, ◌∙◌, rules}
use Rattle.std.specs.FinMap.{entries}
use Rattle.std.specs.List.{All}
use Rattle.std.proofs.lemmas.List.Elements.{All-nil, All-head, All-tail}
use Rattle.project_messages.specs.declared.linked.Linked.{Linked}
use Rattle.project_messages.specs.Messages.{by_name, IsLinked}
use Rattle.pdo_plan.specs.declared.planned_message.PlannedMessage.{PlannedMessage}
use Rattle.pdo_choices.specs.Had.{had_by, withheld_by}
use Rattle.pdo_plan.specs.Plan.{clean, plan_after, plan_of, judged_message, planned_message}
use Rattle.pdo_choices.specs.Limits.{IsWithin}
use Rattle.pdo_stations.specs.Devices.{devices_of}
use Rattle.pdo_stations.specs.Shown.{nodes_of}
use Rattle.pdo_choices.specs.Taken.{devices_known, had_in}
use Rattle.pdo_plan.proofs.JudgedLemmas.{judged_within}
use Rattle.pdo_plan.proofs.PlanLemmas.{had_step, plan_step, within_step}
use Rattle.pdo_plan.proofs.planning.plan.Goals as goal

abbrev OfLinked : List ℕ × Linked → Type 0
OfLinked e = IsLinked e.1

pub messages-init : goal.messages-init
unfolding plan_of
messages-init c =
    let devices = devices_of c.args.is_three c.args.controller (nodes_of c.args.nodes.now) in
    let withheld = withheld_by devices (entries c.args.messages.now) in
    let none : c.new-plan.result.items ≡ [] = c.new-plan.ensures.items in
    let all : by_name c.into_iter-name-iterator.result ≡ entries c.args.messages.now = search rules in
    let kept : All OfLinked (entries c.args.messages.now) =
    subst (All OfLinked) c.iter-name-items.ensures.messages c.iter-name-items.ensures.limits in
    record {
      whole = ap (λ (ps : List PlannedMessage). ps ++ plan_after withheld devices (clean ps)
          (by_name c.into_iter-name-iterator.result)) none ∙ ap (plan_after withheld devices []) all;
      stations = c.in_ok-taken.ensures.stations ∙ c.in_ok-stations.ensures;
      taken = c.in_ok-taken.ensures.had
          ∙ ap (λ d. had_by (withheld_by d (entries c.args.messages.now)) []) c.in_ok-stations.ensures ∙ ap (λ (ps : List PlannedMessage). had_by withheld (clean ps)) (sym none);
      within = subst (λ (ps : List PlannedMessage). All IsWithin (clean ps)) (sym none) (All-nil IsWithin);
      rest = subst (All OfLinked) (sym all) kept;
    }

pub judge-requires : goal.judge-requires
judge-requires c =
    let m : List ℕ × Linked = (c.in-Some.name.now.items, c.in-Some.linked.now) in
    let left : by_name c.messages.name-iterator ≡ m ∷ by_name c.next.new.self = search rules in
    All-head OfLinked m (by_name c.next.new.self) (subst (All OfLinked) left c.messages.invariant.rest)

pub take_clean-requires : goal.take_clean-requires
take_clean-requires c =
    let m : List ℕ × Linked = (c.in-Some.name.now.items, c.in-Some.linked.now) in
    let left : by_name c.messages.name-iterator ≡ m ∷ by_name c.next.new.self = search rules in
    let kept = All-head OfLinked m (by_name c.next.new.self) (subst (All OfLinked) left c.messages.invariant.rest) in
    rw c.in_ok-outcome.ensures (judged_within (had_in c.messages.taken)
    (devices_known c.messages.taken) c.in-Some.linked.now kept)

pub messages-preserved : goal.messages-preserved
messages-preserved c =
    let devices = devices_of c.args.is_three c.args.controller (nodes_of c.args.nodes.now) in
    let withheld = withheld_by devices (entries c.args.messages.now) in
    let ps : List PlannedMessage = c.messages.plan.items in
    let m : List ℕ × Linked = (c.in-Some.name.now.items, c.in-Some.linked.now) in
    let p : PlannedMessage = record { name = c.in_ok-name.name; outcome = c.in_ok-outcome.outcome } in
    let pushed : c.push.new.self.items ≡ ps ++ p ∷ [] = c.in_ok-push.ensures.items in
    let left : by_name c.messages.name-iterator ≡ m ∷ by_name c.next.new.self = search rules in
    let named : c.in_ok-name.name ≡ m.0 = c.in_ok-name.ensures ∙ c.deref.ensures.value in
    let judged_is : c.in_ok-outcome.outcome ≡ judged_message (had_in c.messages.taken) devices m.1 =
    c.in_ok-outcome.ensures ∙ ap (λ d. judged_message (had_in c.messages.taken) d m.1) c.messages.invariant.stations in
    let is : p ≡ planned_message (had_in c.messages.taken) devices m =
    λ i. record { name = named i; outcome = judged_is i } in
    let step = plan_step withheld devices ps p (had_in c.messages.taken) m (by_name c.next.new.self) c.messages.invariant.taken
    is in
    let within = judged_within (had_in c.messages.taken) devices m.1 (All-head OfLinked m (by_name c.next.new.self)
    (subst (All OfLinked) left c.messages.invariant.rest)) in
    record {
      whole =
          ap (λ (xs : List PlannedMessage). xs ++ plan_after withheld devices (clean xs) (by_name c.next.new.self)) pushed
          ∙ step ∙ ap (λ (ms : List (List ℕ × Linked)). ps ++ plan_after withheld devices (clean ps) ms) (sym left)
          ∙ c.messages.invariant.whole;
      stations = c.in_ok-take_clean.ensures.stations ∙ c.messages.invariant.stations;
      taken = had_step withheld ps p (had_in c.messages.taken)
          (had_in c.take_clean.new.taken) c.messages.invariant.taken c.in_ok-take_clean.ensures.had
          ∙ ap (λ (xs : List PlannedMessage). had_by withheld (clean xs)) (sym pushed);
      within = subst (λ (xs : List PlannedMessage). All IsWithin (clean xs)) (sym pushed)
          (within_step ps p c.messages.invariant.within (rw judged_is within));
      rest = All-tail OfLinked m (by_name c.next.new.self) (subst (All OfLinked) left c.messages.invariant.rest);
    }
