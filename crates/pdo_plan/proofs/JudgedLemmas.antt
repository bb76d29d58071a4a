-- What is said of one message.
use Rattle.std.proofs.Common.{◌≡◌, ℕ, zero, suc, ◌≤◌, ◌==◌, Bool, true, false, not, cond, ◌&&◌, nat_lt}
use Rattle.std.proofs.Common.{List, [], ◌∷◌, length, map, filter, filter_map, Option, Some, None, is_some}
use Rattle.std.proofs.Common.{option_map, refl, sym, ap, subst, ◌∙◌, arith}
use Rattle.std.specs.List.{All, AllByRecursion, slice_get, cons_option}
use Rattle.std.specs.Option.{IfSome}
use Rattle.std.proofs.lemmas.List.{length-map}
use Rattle.std.proofs.lemmas.List.Elements.{All-from_recursion}
use Rattle.base.specs.Ranges.{is_between}
use Rattle.cia301.specs.TransmissionTypes.{is_reserved, type_of_byte}
use Rattle.project_messages.specs.declared.linked.Linked.{Linked}
use Rattle.project_messages.specs.declared.message.Message.{Message}
use Rattle.project_messages.specs.Messages.{IsLinked}
use Rattle.pdo_plan.specs.declared.message_fault.MessageFault.{MessageFault}
use Rattle.pdo_plan.specs.declared.message_fault.MessageFault.TheVariants.{NoObjects, TpdoTaken, TooManyBits}
use Rattle.pdo_plan.specs.declared.message_fault.MessageFault.TheVariants.{NotMappable, Mismatched, NoRpdo, NoDummy}
use Rattle.pdo_plan.specs.declared.message_fault.MessageFault.TheVariants.{BadIdentifier, NoIdentifier, ReservedType}
use Rattle.pdo_choices.specs.declared.clean.Clean.{Clean}
use Rattle.pdo_choices.specs.declared.consumer.Consumer.{Consumer}
use Rattle.pdo_plan.specs.declared.outcome.Outcome.{Outcome}
use Rattle.pdo_plan.specs.declared.outcome.Outcome.TheVariants.{Planned, Faulty}
use Rattle.pdo_stations.specs.Devices.{Devices}
use Rattle.pdo_stations.specs.Dummies.{mapped_to}
use Rattle.pdo_plan.specs.Mapping.{bits_of, source_bits, sent_mapping, taken_at, taken_mapping}
use Rattle.pdo_choices.specs.Had.{Had}
use Rattle.pdo_choices.specs.Identifiers.{automatic, identifier_for}
use Rattle.pdo_choices.specs.Receives.{event_named}
use Rattle.pdo_choices.specs.Rpdos.{rpdo_for}
use Rattle.pdo_plan.specs.Plan.{consumer_of, planned_consumers, has_objects, has_unmappable, has_mismatch}
use Rattle.pdo_choices.specs.Consumers.{consumers_of}
use Rattle.pdo_plan.specs.Plan.{lacks_rpdo, lacks_dummy, faults_that_hold, faults, message_outcome, judged_message}
use Rattle.pdo_plan.specs.Plan.{clean_of}
use Rattle.pdo_choices.specs.Limits.{IsNumbered, IsWithin}
use Rattle.pdo_plan.proofs.LimitLemmas.{limits_of}
use Rattle.pdo_choices.proofs.RangeLemmas.{is_within}
use Rattle.pdo_choices.proofs.RpdoLemmas.{rpdo_within}
use Rattle.pdo_choices.proofs.IdentifierLemmas.{identifier_fine}

-- ---- clean or faulty

-- what a clean message is
pub record IsCleanAs (had : Had) (devices : Devices) (m : Linked) (c : Clean) : Type 0 where
  pub message : m.message ≡ c.message
  pub start : m.start ≡ c.start
  pub identifier : identifier_for had devices m.message ≡ Some c.identifier
  pub mapping : sent_mapping devices m.message.node m.sources ≡ c.mapping
  pub consumers : planned_consumers had devices m ≡ c.consumers
  pub faultless : faults had devices m ≡ []

pub judged_clean : (had : Had) (devices : Devices) (m : Linked) (c : Clean) → judged_message had devices m ≡ Planned c
    → IsCleanAs had devices m c
unfolding judged_message
judged_clean had devices m c e = by (identifier_for had devices m.message) (faults had devices m) refl refl e
  where
    by : (o : Option ℕ) (fs : List MessageFault) → identifier_for had devices m.message ≡ o → faults had devices m ≡ fs
        → message_outcome had devices m o fs ≡ Planned c → IsCleanAs had devices m c
    by None fs io fo e = cc
    by (Some id) (f ∷ fs) io fo e = cc
    by (Some id) [] io fo e =
        let made : Clean = record {
          message = m.message;
          start = m.start;
          identifier = id;
          mapping = sent_mapping devices m.message.node m.sources;
          consumers = planned_consumers had devices m;
        } in
        let same : made ≡ c = cc in
        record {
          message = ap (λ (x : Clean). x.message) same;
          start = ap (λ (x : Clean). x.start) same;
          identifier = io ∙ ap (λ (x : Clean). Some x.identifier) same;
          mapping = ap (λ (x : Clean). x.mapping) same;
          consumers = ap (λ (x : Clean). x.consumers) same;
          faultless = fo;
        }

-- a test that holds gives a fault
pub noted_some : (tests : List (Bool × MessageFault)) (k : ℕ) (f : MessageFault) → slice_get tests k ≡ Some (true, f)
    → 1 ≤ length (faults_that_hold tests)
noted_some [] k f e = cc
noted_some (t ∷ ts) zero f e =
    let first : Bool × MessageFault = (true, f) in
    let same : t ≡ first = cc in
    rw (ap (λ (x : Bool × MessageFault). x.0) same) (omega arith)
noted_some (t ∷ ts) (suc k) f e = by t.0 (noted_some ts k f e)
  where
    by : (b : Bool) → 1 ≤ length (faults_that_hold ts)
        → 1 ≤ length (map (λ (x : Bool × MessageFault). x.1)
        (cond b (t ∷ filter (λ (x : Bool × MessageFault). x.0) ts) (filter (λ (x : Bool × MessageFault). x.0) ts)))
    by true h = omega arith
    by false h = h

-- the tests of a message, where this is said of its identifier
abbrev pub tests_with : Had → Devices → Linked → Bool → Bool → List (Bool × MessageFault)
tests_with had devices m automatic has =
    (not (has_objects devices m), NoObjects) ∷ (had.tpdo m.message.node m.message.tpdo, TpdoTaken)
    ∷ (nat_lt 64 (bits_of devices m.message.node m.sources), TooManyBits)
    ∷ (has_unmappable devices m, NotMappable) ∷ (has_mismatch devices m, Mismatched)
    ∷ (lacks_rpdo had devices m, NoRpdo) ∷ (lacks_dummy devices m, NoDummy)
    ∷ (not automatic && not has, BadIdentifier) ∷ (automatic && not has, NoIdentifier)
    ∷ (is_reserved (type_of_byte m.message.transmission), ReservedType) ∷ []

some_fault : (had : Had) (devices : Devices) (m : Linked) (automatic : Bool)
    → 1 ≤ length (faults_that_hold (tests_with had devices m automatic false))
some_fault had devices m true = noted_some (tests_with had devices m true false) 8 NoIdentifier refl
some_fault had devices m false = noted_some (tests_with had devices m false false) 7 BadIdentifier refl

-- a message that can have no identifier has a fault
faulty_without : (had : Had) (devices : Devices) (m : Linked) → identifier_for had devices m.message ≡ None
    → 1 ≤ length (faults had devices m)
unfolding faults
faulty_without had devices m e =
    subst (λ (o : Option ℕ). 1 ≤ length (faults_that_hold (tests_with had devices m (m.message.cob == 0) (is_some o))))
    (sym e) (some_fault had devices m (m.message.cob == 0))

pub judged_faulty : (had : Had) (devices : Devices) (m : Linked) (fs : List MessageFault)
    → judged_message had devices m ≡ Faulty fs → (fs ≡ faults had devices m) × (1 ≤ length fs)
unfolding judged_message
judged_faulty had devices m fs e = by (identifier_for had devices m.message) (faults had devices m) refl refl e
  where
    by : (o : Option ℕ) (gs : List MessageFault) → identifier_for had devices m.message ≡ o → faults had devices m ≡ gs
        → message_outcome had devices m o gs ≡ Faulty fs → (fs ≡ faults had devices m) × (1 ≤ length fs)
    by None gs io fo e =
        let same : gs ≡ fs = cc in
        let is : fs ≡ faults had devices m = sym same ∙ sym fo in
        (is, subst (λ (xs : List MessageFault). 1 ≤ length xs) (sym is) (faulty_without had devices m io))
    by (Some id) [] io fo e = cc
    by (Some id) (g ∷ gs) io fo e =
        let same : g ∷ gs ≡ fs = cc in
        (sym same ∙ sym fo, subst (λ (xs : List MessageFault). 1 ≤ length xs) same (omega arith))

-- ---- its consumers

module _ {X Y : Type 0} (h : X → Option Y) where
  -- what is given is so, where each that is given is
  pub each_given : (P : Y → Type 0) → ((x : X) (y : Y) → h x ≡ Some y → P y) → (xs : List X)
      → AllByRecursion P (filter_map h xs)
  each_given P holds [] = tt
  each_given P holds (x ∷ xs) = by (h x) refl (each_given P holds xs)
    where
      by : (o : Option Y) → h x ≡ o → AllByRecursion P (filter_map h xs)
          → AllByRecursion P (cons_option o (filter_map h xs))
      by None e rest = rest
      by (Some y) e rest = (holds x y e, rest)

  pub given_few : (xs : List X) → length (filter_map h xs) ≤ length xs
  given_few [] = omega arith
  given_few (x ∷ xs) = by (h x) (given_few xs)
    where
      by : (o : Option Y) → length (filter_map h xs) ≤ length xs
          → length (cons_option o (filter_map h xs)) ≤ suc (length xs)
      by None rest = omega arith
      by (Some y) rest = omega arith

-- a planned consumer has the RPDO that is found for its node
pub record IsConsumer (had : Had) (devices : Devices) (m : Linked) (node : ℕ) (k : Consumer) : Type 0 where
  pub at : k.node ≡ node
  pub mapping : taken_mapping devices m.message.node m.sources m.sinks node ≡ k.mapping
  pub rpdo : rpdo_for had devices m node ≡ Some k.rpdo

pub consumer_is : (had : Had) (devices : Devices) (m : Linked) (node : ℕ) (k : Consumer)
    → consumer_of had devices m node ≡ Some k → IsConsumer had devices m node k
consumer_is had devices m node k e = by (rpdo_for had devices m node) refl e
  where
    by : (o : Option ℕ) → rpdo_for had devices m node ≡ o
        → option_map (λ number. let made : Consumer = record {
          node = node;
          rpdo = number;
          mapping = taken_mapping devices m.message.node m.sources m.sinks node;
          event = event_named m node;
        } in made) o ≡ Some k → IsConsumer had devices m node k
    by None f e = cc
    by (Some number) f e =
        let made : Consumer = record {
          node = node;
          rpdo = number;
          mapping = taken_mapping devices m.message.node m.sources m.sinks node;
          event = event_named m node;
        } in
        let same : made ≡ k = cc in
        record {
          at = sym (ap (λ (x : Consumer). x.node) same);
          mapping = ap (λ (x : Consumer). x.mapping) same;
          rpdo = f ∙ ap (λ (x : Consumer). Some x.rpdo) same;
        }

pub taken_few : (devices : Devices) (m : Linked) (node : ℕ)
    → length (taken_mapping devices m.message.node m.sources m.sinks node) ≤ length m.sources
unfolding taken_mapping
taken_few devices m node = given_few (taken_at devices m.message.node m.sinks node) m.sources

consumer_within : (had : Had) (devices : Devices) (m : Linked) → IsLinked m → (node : ℕ) (k : Consumer)
    → consumer_of had devices m node ≡ Some k → IsNumbered k.rpdo k.mapping
consumer_within had devices m kept node k e =
    let is = consumer_is had devices m node k e in
    let few = (limits_of m kept).sources in
    let number = rpdo_within had devices m kept node k.rpdo is.rpdo in
    let count : length k.mapping ≡ length (taken_mapping devices m.message.node m.sources m.sinks node) =
    ap length (sym is.mapping) in
    (is_within 1 512 k.rpdo number.0 number.1, omega (arith, count, few, taken_few devices m node))

consumers_within : (had : Had) (devices : Devices) (m : Linked) → IsLinked m
    → All (λ (k : Consumer). IsNumbered k.rpdo k.mapping) (planned_consumers had devices m)
unfolding planned_consumers
consumers_within had devices m kept =
    All-from_recursion (λ (k : Consumer). IsNumbered k.rpdo k.mapping) (planned_consumers had devices m)
    (each_given (consumer_of had devices m) (λ (k : Consumer). IsNumbered k.rpdo k.mapping)
    (consumer_within had devices m kept) (consumers_of m.sinks))

pub sent_count : (devices : Devices) (m : Linked)
    → length (sent_mapping devices m.message.node m.sources) ≡ length m.sources
unfolding sent_mapping
sent_count devices m = length-map m.sources (λ s. mapped_to s.1 (source_bits devices m.message.node s))

-- a clean message is within its limits
pub clean_within : (had : Had) (devices : Devices) (m : Linked) (c : Clean) → IsLinked m
    → judged_message had devices m ≡ Planned c → IsWithin c
clean_within had devices m c kept e =
    let is = judged_clean had devices m c e in
    let limits = limits_of m kept in
    let fine = identifier_fine had devices m.message c.identifier is.identifier in
    let tpdo : m.message.tpdo ≡ c.message.tpdo = ap (λ (x : Message). x.tpdo) is.message in
    let count : length c.mapping ≡ length m.sources = ap length (sym is.mapping) ∙ sent_count devices m in
    record {
      sent = (
        subst (λ n. is_between 1 512 n ≡ true) tpdo (is_within 1 512 m.message.tpdo limits.tpdo.0 limits.tpdo.1),
        omega (arith, count, limits.sources),
      );
      identifier = fine.below limits.node.1 limits.cob;
      taken = subst (λ (ks : List Consumer). All (λ (k : Consumer). IsNumbered k.rpdo k.mapping) ks) is.consumers
          (consumers_within had devices m kept);
    }

pub judged_within : (had : Had) (devices : Devices) (m : Linked) → IsLinked m
    → IfSome (clean_of (judged_message had devices m)) IsWithin
judged_within had devices m kept = by (judged_message had devices m) refl
  where
    by : (o : Outcome) → judged_message had devices m ≡ o → IfSome (clean_of o) IsWithin
    by (Planned c) e = clean_within had devices m c kept e
    by (Faulty fs) e = tt
