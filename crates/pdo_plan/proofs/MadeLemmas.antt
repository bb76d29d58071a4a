-- Each PDO of the plan is one that its node's device has, and no identifier is restricted.
use Rattle.std.proofs.Common.{◌≡◌, ℕ, ◌+◌, ◌<◌, ◌≤◌, ◌==◌, ◌&&◌, Bool, true, false, cond, List, [], ◌∷◌, length, Option, Some, None}
use Rattle.std.proofs.Common.{option_and_then, refl, sym, ap, subst, ◌∙◌, arith, IsFalse}
use Rattle.std.specs.List.{list_all, range_with_len, All, Contains}
use Rattle.std.specs.Map.{lookup}
use Rattle.std.proofs.lemmas.Bool.Decides.{nat_tests}
use Rattle.std.proofs.lemmas.List.Elements.{All-contains, All-from_recursion}
use Rattle.co_values.specs.declared.form.Width.TheVariants.{Bits8, Bits32}
use Rattle.cia301.specs.CobIds.{is_restricted}
use Rattle.eds_device.specs.Entries.{entry_at}
use Rattle.eds_device.specs.Sheets.{Sheet}
use Rattle.project_messages.specs.declared.linked.Linked.{Linked}
use Rattle.project_messages.specs.declared.message.Message.{Message}
use Rattle.project_messages.specs.Messages.{IsLinked}
use Rattle.pdo_choices.specs.declared.clean.Clean.{Clean}
use Rattle.pdo_choices.specs.declared.consumer.Consumer.{Consumer}
use Rattle.pdo_plan.specs.declared.outcome.Outcome.TheVariants.{Planned}
use Rattle.pdo_choices.specs.Least.{IsLeastFree}
use Rattle.pdo_stations.specs.Carried.{carried_by, carried_of}
use Rattle.std.proofs.lemmas.List.{length-map}
use Rattle.pdo_stations.specs.Devices.{Devices, devices_of, has_unsigned, has_mapping, has_pdo}
use Rattle.cia301.specs.PdoObjects.{mapping_object, tpdo_object, rpdo_object}
use Rattle.pdo_choices.specs.Had.{Had, Withheld, had_by}
use Rattle.pdo_choices.specs.Rpdos.{is_free_rpdo, rpdo_for}
use Rattle.pdo_plan.specs.Plan.{judged_message, consumer_of, planned_consumers, clean}
use Rattle.pdo_choices.specs.Consumers.{consumers_of}
use Rattle.pdo_plan.specs.Plan.{plan_of, HasPdo, IsMadeFor}
use Rattle.pdo_plan.proofs.ChainLemmas.{each_clean, each_within, all_clean}
use Rattle.pdo_plan.proofs.FreeLemmas.{faultless}
use Rattle.pdo_plan.proofs.JudgedLemmas.{judged_clean, each_given, consumer_is, sent_count, taken_few}
use Rattle.pdo_choices.proofs.IdentifierLemmas.{identifier_fine}
use Rattle.pdo_choices.proofs.LeastLemmas.{least_free_is}
use Rattle.pdo_plan.proofs.LimitLemmas.{limits_of}
use Rattle.pdo_stations.proofs.RoomLemmas.{all_pass, one_fails}
use Rattle.pdo_stations.proofs.AlikeLemmas.{pdo_alike}

-- ---- identifiers

not_restricted : (devices : Devices) (withheld : Withheld) (before : List Clean) (m : Linked) (c : Clean) → IsLinked m
    → judged_message (had_by withheld before) devices m ≡ Planned c → IsFalse (is_restricted c.identifier)
not_restricted devices withheld before m c kept e =
    let is = judged_clean (had_by withheld before) devices m c e in
    let limits = limits_of m kept in
    (identifier_fine (had_by withheld before) devices m.message c.identifier is.identifier).allowed limits.tpdo.0 limits.node.0
    limits.node.1

pub none_restricted : (devices : Devices) (ms : List (List ℕ × Linked)) → All (λ e. IsLinked e.1) ms
    → All (λ (c : Clean). IsFalse (is_restricted c.identifier)) (clean (plan_of devices ms))
none_restricted devices ms kept =
    all_clean (λ (c : Clean). IsFalse (is_restricted c.identifier)) (clean (plan_of devices ms))
    (each_within devices (λ before c. IsFalse (is_restricted c.identifier)) (not_restricted devices) ms kept)

-- ---- devices

and_left : (a b : Bool) → (a && b) ≡ true → a ≡ true
and_left true b e = refl
and_left false b e = e

and_right : (a b : Bool) → (a && b) ≡ true → b ≡ true
and_right true b e = e
and_right false b e = cc

and_both : (a b : Bool) → a ≡ true → b ≡ true → (a && b) ≡ true
and_both true b e f = f
and_both false b e f = cc

-- what all of some pass the first of them pass
front_passes : (test : ℕ → Bool) (few count : ℕ) → few ≤ count → list_all test (range_with_len 1 count) ≡ true
    → list_all test (range_with_len 1 few) ≡ true
front_passes test few count up all = all_pass test 1 few (λ k low below. passes k low (omega arith) (test k) refl)
  where
    passes : (k : ℕ) → 1 ≤ k → k < 1 + count → (b : Bool) → test k ≡ b → test k ≡ true
    passes k low below true e = e
    passes k low below false e = let none = one_fails test 1 count k low below e in cc

-- a PDO with room for so many entries has room for fewer
fewer : (d : Devices) (node object few count : ℕ) → few ≤ count → has_pdo d node object count ≡ true
    → has_pdo d node object few ≡ true
unfolding has_mapping
fewer d node object few count up has =
    let cob = has_unsigned d node Bits32 (object, 1) in
    let kind = has_unsigned d node Bits8 (object, 2) in
    let first = has_unsigned d node Bits8 (mapping_object object, 0) in
    let test : ℕ → Bool = λ sub. has_unsigned d node Bits32 (mapping_object object, sub) in
    let mapping : (first && list_all test (range_with_len 1 count)) ≡ true = and_right (cob && kind) _ has in
    and_both (cob && kind) _ (and_left (cob && kind) _ has)
    (and_both first _ (and_left first _ mapping) (front_passes test few count up (and_right first _ mapping)))

itself : (n : ℕ) → (n == n) ≡ true
itself n = grind (arith, nat_tests)

-- in versions 1 and 2 an RPDO that is found has what its writes name
two_has : (had : Had) (controller : Option ℕ) (nodes : List (ℕ × Sheet)) (m : Linked) (node number : ℕ)
    → rpdo_for had (devices_of false controller nodes) m node ≡ Some number
    → has_pdo (devices_of false controller nodes) node (rpdo_object number) (length m.sources) ≡ true
unfolding rpdo_for
two_has had controller nodes m node number e =
    let devices : Devices = devices_of false controller nodes in
    let cs = carried_of devices m.message.node m.sources in
    let is : IsLeastFree (is_free_rpdo had devices node (length cs)) 1 512 (Some number) =
    least_free_is (is_free_rpdo had devices node (length cs)) 1 512 (Some number) (sym e) in
    subst (λ n. has_pdo devices node (rpdo_object number) n ≡ true)
    (length-map m.sources (carried_by devices m.message.node)) (and_right _ _ is.2)

module _ (controller : Option ℕ) (nodes : List (ℕ × Sheet)) (node : ℕ) (sheet : Sheet)
    (there : lookup (λ n. n == node) nodes ≡ Some sheet) where
  -- the plan's device of the node is this device
  entries_same : (devices_of false controller nodes).entry node ≡ (devices_of false None ((node, sheet) ∷ [])).entry node
  entries_same =
      let one : lookup (λ n. n == node) ((node, sheet) ∷ [])
      ≡ Some sheet = ap (λ b. cond b (Some sheet) (lookup (λ n. n == node) [])) (itself node) in
      λ i place. option_and_then (λ s. entry_at s node place.0 place.1) ((there ∙ sym one) i)

  has_here : (number object few count : ℕ) → number ≡ node → few ≤ count
      → has_pdo (devices_of false controller nodes) number object count ≡ true → HasPdo sheet node object few
  has_here number object few count is up has =
      let here : has_pdo (devices_of false controller nodes) node object count
      ≡ true = subst (λ n. has_pdo (devices_of false controller nodes) n object count ≡ true) is has in
      sym (pdo_alike (devices_of false controller nodes) (devices_of false None ((node, sheet) ∷ [])) node node object few entries_same)
      ∙ fewer (devices_of false controller nodes) node object few count up here

  abbrev Made : Clean → Type 0
  Made c = (c.message.node ≡ node → HasPdo sheet node (tpdo_object c.message.tpdo) (length c.mapping))
      × ((k : Consumer) → Contains c.consumers k → k.node ≡ node
      → HasPdo sheet node (rpdo_object k.rpdo) (length k.mapping))

  abbrev MadeTaker : Consumer → Type 0
  MadeTaker k = k.node ≡ node → HasPdo sheet node (rpdo_object k.rpdo) (length k.mapping)

  taker_made : (had : Had) (m : Linked) (n : ℕ) (k : Consumer) → consumer_of had (devices_of false controller nodes) m n ≡ Some k
      → MadeTaker k
  taker_made had m n k e same =
      let is = consumer_is had (devices_of false controller nodes) m n k e in
      let count : length k.mapping ≤ length m.sources = let f = taken_few (devices_of false controller nodes) m n
      in let g = ap length is.mapping in omega (arith, f, g) in
      has_here n (rpdo_object k.rpdo) (length k.mapping) (length m.sources)
      (sym is.at ∙ same) count (two_has had controller nodes m n k.rpdo is.rpdo)

  takers_made : (had : Had) (m : Linked) → All MadeTaker (planned_consumers had (devices_of false controller nodes) m)
  unfolding planned_consumers
  takers_made had m =
      All-from_recursion MadeTaker (planned_consumers had (devices_of false controller nodes) m)
      (each_given (consumer_of had (devices_of false controller nodes) m) MadeTaker (taker_made had m) (consumers_of m.sinks))

  clean_made : (withheld : Withheld) (before : List Clean) (m : Linked) (c : Clean)
      → judged_message (had_by withheld before) (devices_of false controller nodes) m ≡ Planned c → Made c
  clean_made withheld before m c e =
      let is = judged_clean (had_by withheld before) (devices_of false controller nodes) m c e in
      let objects = (faultless (had_by withheld before) (devices_of false controller nodes) m is.faultless).objects in
      let has : has_pdo (devices_of false controller nodes) m.message.node (tpdo_object m.message.tpdo) (length m.sources)
      ≡ true = and_left _ _ (and_left _ _ objects) in
      let same : has_pdo (devices_of false controller nodes) c.message.node (tpdo_object c.message.tpdo) (length m.sources) ≡ true =
      subst (λ (x : Message). has_pdo (devices_of false controller nodes) x.node (tpdo_object x.tpdo) (length m.sources)
      ≡ true) is.message has in
      let count : length c.mapping ≤ length m.sources = let f = ap length (sym is.mapping)
      in let g = sent_count (devices_of false controller nodes) m in omega (arith, f, g) in
      let takers : All MadeTaker c.consumers = subst (All MadeTaker) is.consumers (takers_made (had_by withheld before) m) in (
        (λ at. has_here c.message.node (tpdo_object c.message.tpdo) (length c.mapping) (length m.sources)
            at count same),
        λ k among. All-contains MadeTaker c.consumers k takers among,
      )

  pub made_for : (ms : List (List ℕ × Linked)) → IsMadeFor (plan_of (devices_of false controller nodes) ms) sheet node
  made_for ms c among =
      All-contains Made (clean (plan_of (devices_of false controller nodes) ms)) c
      (all_clean Made (clean (plan_of (devices_of false controller nodes) ms))
      (each_clean (devices_of false controller nodes) (λ before d. Made d) clean_made ms)) among
