-- In version 3 the PDOs of a clean message serve it.
use Rattle.std.proofs.Common.{◌≡◌, ℕ, not, Bool, true, false, List, length, Option, Some, None, option_and_then}
use Rattle.std.proofs.Common.{sym, ap, subst, ◌∙◌}
use Rattle.std.specs.List.{All}
use Rattle.std.specs.Option.{option_map_or}
use Rattle.std.proofs.lemmas.List.Elements.{All-from_recursion}
use Rattle.project_messages.specs.declared.linked.Linked.{Linked}
use Rattle.pdo_stations.specs.Carried.{carried_of}
use Rattle.pdo_stations.specs.Devices.{Devices}
use Rattle.pdo_stations.specs.declared.as_made.AsMade.{AsMade}
use Rattle.pdo_stations.specs.declared.carried.Carried.{Carried}
use Rattle.vendor_pdos.specs.Choices.{taken_choices}
use Rattle.vendor_pdos.specs.Serving.{takes}
use Rattle.pdo_choices.specs.declared.clean.Clean.{Clean}
use Rattle.pdo_choices.specs.declared.consumer.Consumer.{Consumer}
use Rattle.pdo_plan.specs.declared.outcome.Outcome.TheVariants.{Planned}
use Rattle.pdo_choices.specs.Least.{least_free}
use Rattle.pdo_choices.specs.Had.{Had}
use Rattle.pdo_plan.specs.Plan.{consumer_of, has_named_objects, judged_message}
use Rattle.pdo_choices.specs.Consumers.{consumers_of}
use Rattle.pdo_choices.specs.Rpdos.{is_free_rpdo, rpdo_by, rpdo_for, vendor_rpdo}
use Rattle.pdo_plan.specs.Plan.{planned_consumers, serves_message}
use Rattle.pdo_choices.specs.Identifiers.{sought_identifier}
use Rattle.pdo_plan.specs.Plan.{IsServed}
use Rattle.pdo_plan.proofs.FreeLemmas.{faultless}
use Rattle.pdo_plan.proofs.JudgedLemmas.{judged_clean, each_given, consumer_is}
use Rattle.pdo_choices.proofs.IdentifierLemmas.{sought_same}
use Rattle.pdo_choices.proofs.RpdoLemmas.{right_true, vendor_found}

module _ (had : Had) (devices : Devices) (made : ℕ → Option AsMade) (m : Linked) (vendor : devices.vendor ≡ Some made) where
  abbrev sources : List Carried
  sources = carried_of devices m.message.node m.sources

  -- a node takes the message by an RPDO and an identifier
  abbrev taken_at : Option ℕ → ℕ → ℕ → AsMade → Bool
  taken_at identifier node number device =
      takes device number identifier m.message.transmission (taken_choices device m.sinks node sources)

  found : (identifier : Option ℕ) (node number : ℕ) → rpdo_by had devices m sources identifier node ≡ Some number
      → option_map_or (taken_at identifier node number) (made node) false ≡ true
  found identifier node number e = by (made node) (sym here ∙ e)
    where
      here : rpdo_by had devices m sources identifier node
          ≡ option_and_then (λ device. vendor_rpdo had device m sources identifier node) (made node)
      here = ap (λ (o : Option (ℕ → Option AsMade)). option_map_or
          (λ made. option_and_then (λ device. vendor_rpdo had device m sources identifier node) (made node)) o
          (least_free (is_free_rpdo had devices node (length sources)) 1 512)) vendor

      by : (o : Option AsMade) → option_and_then (λ device. vendor_rpdo had device m sources identifier node) o ≡ Some number
          → option_map_or (taken_at identifier node number) o false ≡ true
      by None e = cc
      by (Some device) e = right_true (not (had.rpdo node number)) (taken_at identifier node number device)
          (vendor_found had device m sources identifier node number e).0

  abbrev IsTaken : ℕ → Consumer → Type 0
  IsTaken id k = option_map_or (taken_at (Some id) k.node k.rpdo) (made k.node) false ≡ true

  consumer_taken : (id : ℕ) → sought_identifier had devices m.message ≡ Some id → (node : ℕ) (k : Consumer)
      → consumer_of had devices m node ≡ Some k → IsTaken id k
  unfolding rpdo_for
  consumer_taken id own node k e =
      let is = consumer_is had devices m node k e in
      let by_own : rpdo_by had devices m sources (Some id) node ≡ Some k.rpdo =
      ap (λ (o : Option ℕ). rpdo_by had devices m sources o node) (sym own) ∙ is.rpdo in
      subst (λ (n : ℕ). option_map_or (taken_at (Some id) n k.rpdo) (made n) false ≡ true) (sym is.at)
      (found (Some id) node k.rpdo by_own)

  all_taken : (id : ℕ) → sought_identifier had devices m.message ≡ Some id
      → All (IsTaken id) (planned_consumers had devices m)
  unfolding planned_consumers
  all_taken id own = All-from_recursion (IsTaken id) (planned_consumers had devices m)
      (each_given (consumer_of had devices m) (IsTaken id) (consumer_taken id own) (consumers_of m.sinks))

pub served : (had : Had) (devices : Devices) (made : ℕ → Option AsMade) (m : Linked) (c : Clean)
    → devices.vendor ≡ Some made → judged_message had devices m ≡ Planned c → IsServed devices made m c
served had devices made m c vendor e =
    let is = judged_clean had devices m c e in
    let cs = carried_of devices m.message.node m.sources in
    let objects = (faultless had devices m is.faultless).objects in
    let here = ap (λ (o : Option (ℕ → Option AsMade)). option_map_or
    (λ made. option_map_or (serves_message m cs) (made m.message.node) false) o
    (has_named_objects devices m (length m.sources))) vendor in
    record {
      sent = sym here ∙ objects;
      taken = subst (λ (ks : List Consumer). All (IsTaken had devices made m vendor c.identifier) ks) is.consumers
          (all_taken had devices made m vendor c.identifier (sought_same had devices m.message c.identifier is.identifier));
    }
