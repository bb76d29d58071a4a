use Rattle.std.proofs.Common.{◌≡◌, ◌==◌, ℕ, [], length, true, false, Some, ap, sym, ◌∙◌, rules}
use Rattle.pdo_plan.specs.declared.outcome.Outcome.TheVariants.{Planned}
use Rattle.pdo_choices.specs.Identifiers.{identifier_for}
use Rattle.pdo_choices.specs.Taken.{devices_known, had_in}
use Rattle.pdo_plan.proofs.CleanLemmas.{planned_is, faulty_is, carried_few, none_of, some_of}
use Rattle.pdo_choices.proofs.IdentifierLemmas.{sought_same}
use Rattle.pdo_plan.proofs.LimitLemmas.{limits_of}
use Rattle.pdo_plan.proofs.judging.judge.Goals.{in_default-via-in-Some+else-is_empty, in_default-via-in_default}
use Rattle.pdo_plan.proofs.judging.judge.Goals as goal

pub identifiers_of-identifiers-requires : goal.identifiers_of-identifiers-requires
identifiers_of-identifiers-requires c = (limits_of c.args.linked.now c.requires).tpdo.1

pub faults-requires-clause-number : goal.faults-requires-clause-number
faults-requires-clause-number c = (limits_of c.args.linked.now c.requires).tpdo.1

pub faults-requires-clause-few : goal.faults-requires-clause-few
faults-requires-clause-few c =
    carried_few (devices_known c.args.taken.now) c.args.linked.now c.as_slice.result.now c.requires
    (c.as_slice.ensures.value ∙ c.in_ok-carried.ensures)

pub clean-requires-clause-few : goal.clean-requires-clause-few
clean-requires-clause-few c =
    carried_few (devices_known c.args.taken.now) c.args.linked.now c.as_slice.result.now c.requires
    (c.as_slice.ensures.value ∙ c.in_ok-carried.ensures)

pub clean-requires-clause-identifier : goal.clean-requires-clause-identifier
clean-requires-clause-identifier c =
    let had = had_in c.args.taken.now in
    let devices = devices_known c.args.taken.now in
    let m = c.args.linked.now.message in
    let found : identifier_for had devices m ≡ Some c.in-Some.identifier =
    sym c.identifiers_of-identifiers.ensures.own ∙ c.in-Some.is in
    c.identifiers_of-identifiers.ensures.sought ∙ sought_same had devices m c.in-Some.identifier found

pub returns-in-Some : goal.returns-in-Some
returns-in-Some c =
    let had = had_in c.args.taken.now in
    let devices = devices_known c.args.taken.now in
    let m = c.args.linked.now in
    let found : identifier_for had devices m.message ≡ Some c.in-Some.identifier =
    sym c.identifiers_of-identifiers.ensures.own ∙ c.in-Some.is in
    let empty : (length c.in_ok-faults.faults == 0) ≡ true = search rules in
    ap Planned c.in_ok-clean-in-Some.ensures
    ∙ planned_is had devices m c.as_slice.result.now c.as_slice-nodes.result.now c.in-Some.identifier
    c.in_ok-faults.faults (c.as_slice.ensures.value ∙ c.in_ok-carried.ensures)
    (c.as_slice-nodes.ensures.value ∙ c.in_ok-named.ensures) found c.in_ok-faults.ensures
    (none_of c.in_ok-faults.faults empty)

pub returns : goal.returns
returns c =
    let had = had_in c.args.taken.now in
    let devices = devices_known c.args.taken.now in
    let m = c.args.linked.now in
    let not_clean : (id : ℕ) → identifier_for had devices m.message ≡ Some id → c.in_ok-faults.faults ≡ [] → ⊥ =
    λ id found none. elim c.in_default.branch [
      | in_default-via-in-Some+else-is_empty w ↦ let full : (length c.in_ok-faults.faults == 0)
          ≡ false = search rules in some_of c.in_ok-faults.faults full none
      | in_default-via-in_default w ↦ w.in_default.not-Some id (c.identifiers_of-identifiers.ensures.own ∙ found)
    ] in
    faulty_is had devices m c.in_ok-faults.faults c.in_ok-faults.ensures not_clean
