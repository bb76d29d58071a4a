-- What a clean message has no other has.
use Rattle.std.proofs.Common.{◌≡◌, ℕ, zero, suc, ◌<◌, ◌≤◌, ◌==◌, ◌&&◌, ◌||◌, not, nat_lt, Bool, true, false, cond, List}
use Rattle.std.proofs.Common.{[], ◌∷◌, take, length, map, filter, filter_map, Option, Some, None, is_some, refl, sym}
use Rattle.std.proofs.Common.{ap, subst, ◌∙◌, arith}
use Rattle.std.specs.List.{list_any, slice_get, cons_option}
use Rattle.std.specs.List.Sorted.{IsStrictlySortedBy}
use Rattle.std.specs.declared.cmp.Ordering.{Ordering}
use Rattle.std.specs.declared.cmp.Ordering.TheVariants.{Less, Equal, Greater}
use Rattle.std.specs.Ordering.{nat_cmp}
use Rattle.std.proofs.lemmas.Bool.{false≢true}
use Rattle.std.proofs.lemmas.Bool.Decides.{nat_tests}
use Rattle.std.proofs.lemmas.Cmp.{ranked}
use Rattle.std.proofs.lemmas.List.Kept.{IsStrictlySortedBy-filter}
use Rattle.project_messages.specs.declared.linked.Linked.{Linked}
use Rattle.project_messages.specs.declared.message.Message.{Message}
use Rattle.pdo_choices.specs.declared.clean.Clean.{Clean}
use Rattle.pdo_choices.specs.declared.consumer.Consumer.{Consumer}
use Rattle.pdo_plan.specs.declared.message_fault.MessageFault.{MessageFault}
use Rattle.pdo_plan.specs.declared.message_fault.MessageFault.TheVariants.{NoObjects, TpdoTaken, TooManyBits}
use Rattle.pdo_plan.specs.declared.outcome.Outcome.TheVariants.{Planned}
use Rattle.pdo_stations.specs.Devices.{Devices}
use Rattle.pdo_plan.specs.Mapping.{bits_of}
use Rattle.pdo_choices.specs.Had.{Had, Withheld, had_by, is_at_node}
use Rattle.pdo_plan.specs.Plan.{judged_message, faults, faults_that_hold}
use Rattle.pdo_choices.specs.Identifiers.{identifier_for}
use Rattle.pdo_plan.specs.Plan.{has_objects, consumer_of, planned_consumers, clean, plan_of}
use Rattle.pdo_choices.specs.Consumers.{consumers_of}
use Rattle.pdo_plan.proofs.ChainLemmas.{each_clean, at_place, had_earlier}
use Rattle.pdo_plan.proofs.JudgedLemmas.{judged_clean, tests_with, noted_some, consumer_is}
use Rattle.pdo_choices.proofs.IdentifierLemmas.{identifier_fine}
use Rattle.pdo_choices.proofs.OrderLemmas.{consumers_sorted, once, get_map}
use Rattle.pdo_choices.proofs.RpdoLemmas.{rpdo_free}

-- ---- tests that didn't hold

no_test : (tests : List (Bool × MessageFault)) (k : ℕ) (b : Bool) (f : MessageFault) → slice_get tests k ≡ Some (b, f)
    → faults_that_hold tests ≡ [] → b ≡ false
no_test tests k true f at none =
    let some : 1 ≤ length (faults_that_hold tests) = noted_some tests k f at in
    let count : length (faults_that_hold tests) ≡ 0 = ap length none in
    absurd (omega (arith, some, count))
no_test tests k false f at none = refl

not_true : (b : Bool) → not b ≡ false → b ≡ true
not_true true e = refl
not_true false e = sym e

pub record Faultless (had : Had) (devices : Devices) (m : Linked) : Type 0 where
  pub objects : has_objects devices m ≡ true
  pub tpdo : had.tpdo m.message.node m.message.tpdo ≡ false
  pub bits : bits_of devices m.message.node m.sources ≤ 64

few_bits : (n : ℕ) → nat_lt 64 n ≡ false → n ≤ 64
few_bits n e = grind (arith, nat_tests)

pub faultless : (had : Had) (devices : Devices) (m : Linked) → faults had devices m ≡ [] → Faultless had devices m
unfolding faults
faultless had devices m none =
    let tests = tests_with had devices m (m.message.cob == 0) (is_some (identifier_for had devices m.message)) in
    record {
      objects = not_true (has_objects devices m) (no_test tests 0 (not (has_objects devices m)) NoObjects refl none);
      tpdo = no_test tests 1 (had.tpdo m.message.node m.message.tpdo) TpdoTaken refl none;
      bits = few_bits (bits_of devices m.message.node m.sources)
          (no_test tests 2 (nat_lt 64 (bits_of devices m.message.node m.sources)) TooManyBits refl none);
    }

-- ---- free before

abbrev FreeIdentifier : List Clean → Clean → Type 0
FreeIdentifier before c = list_any (λ (d : Clean). d.identifier == c.identifier) before ≡ false

abbrev FreeTpdo : List Clean → Clean → Type 0
FreeTpdo before c =
    list_any (λ (d : Clean). (d.message.node == c.message.node) && (d.message.tpdo == c.message.tpdo)) before ≡ false

module _ {X Y : Type 0} (h : X → Option Y) where
  -- what stands in a list of what is given is given
  pub given : (xs : List X) (k : ℕ) (y : Y) → slice_get (filter_map h xs) k ≡ Some y → (x : X) × (h x ≡ Some y)
  given [] k y e = cc
  given (x ∷ xs) k y e = by (h x) refl k e (λ j r. given xs j y r)
    where
      by : (o : Option Y) → h x ≡ o → (k : ℕ) → slice_get (cons_option o (filter_map h xs)) k ≡ Some y
          → ((j : ℕ) → slice_get (filter_map h xs) j ≡ Some y → (z : X) × (h z ≡ Some y)) → (z : X) × (h z ≡ Some y)
      by None is k e rest = rest k e
      by (Some w) is zero e rest = (x, is ∙ e)
      by (Some w) is (suc k) e rest = rest k e

  -- what names its place: the places of what is given are those at which something is given
  pub places_given : (place_of : Y → X) → ((x : X) (y : Y) → h x ≡ Some y → place_of y ≡ x) → (xs : List X)
      → map place_of (filter_map h xs) ≡ filter (λ x. is_some (h x)) xs
  places_given place_of names [] = refl
  places_given place_of names (x ∷ xs) = by (h x) refl (places_given place_of names xs)
    where
      by : (o : Option Y) → h x ≡ o → map place_of (filter_map h xs) ≡ filter (λ x. is_some (h x)) xs
          → map place_of (cons_option o (filter_map h xs)) ≡ cond (is_some o) (x ∷ filter (λ x. is_some (h x)) xs)
          (filter (λ x. is_some (h x)) xs)
      by None e same = same
      by (Some y) e same = rw (names x y e, same) refl

abbrev node_of : Consumer → ℕ
node_of k = k.node

-- the consumers of a clean message: each has an RPDO that was free, and no node stands twice
pub record Apart (before : List Clean) (c : Clean) : Type 0 where
  pub free : (a : ℕ) (k : Consumer) → slice_get c.consumers a ≡ Some k
      → list_any (λ (d : Clean). list_any (is_at_node k.node k.rpdo) d.consumers) before ≡ false
  pub once : (a b : ℕ) (k l : Consumer) → slice_get c.consumers a ≡ Some k → slice_get c.consumers b ≡ Some l
      → k.node ≡ l.node → a ≡ b

module _ (devices : Devices) where
  free_identifier : (withheld : Withheld) (before : List Clean) (m : Linked) (c : Clean)
      → judged_message (had_by withheld before) devices m ≡ Planned c → FreeIdentifier before c
  free_identifier withheld before m c e =
      (identifier_fine (had_by withheld before) devices m.message c.identifier
      (judged_clean (had_by withheld before) devices m c e).identifier).free

  free_tpdo : (withheld : Withheld) (before : List Clean) (m : Linked) (c : Clean) → judged_message (had_by withheld before) devices m ≡ Planned c
      → FreeTpdo before c
  free_tpdo withheld before m c e =
      let is = judged_clean (had_by withheld before) devices m c e in
      subst (λ (x : Message). (had_by withheld before).tpdo x.node x.tpdo
      ≡ false) is.message (faultless (had_by withheld before) devices m is.faultless).tpdo

  consumer_free : (withheld : Withheld) (before : List Clean) (m : Linked) (a : ℕ) (k : Consumer)
      → slice_get (planned_consumers (had_by withheld before) devices m) a ≡ Some k → (had_by withheld before).rpdo k.node k.rpdo ≡ false
  unfolding planned_consumers
  consumer_free withheld before m a k e =
      let there = given (consumer_of (had_by withheld before) devices m) (consumers_of m.sinks) a k e in
      let is = consumer_is (had_by withheld before) devices m there.0 k there.1 in
      let free : (had_by withheld before).rpdo there.0 k.rpdo ≡ false =
      rpdo_free (had_by withheld before) devices m there.0 k.rpdo is.rpdo in
      subst (λ (n : ℕ). (had_by withheld before).rpdo n k.rpdo ≡ false) (sym is.at) free

  consumers_once : (had : Had) (m : Linked) (a b : ℕ) (k l : Consumer)
      → slice_get (planned_consumers had devices m) a ≡ Some k → slice_get (planned_consumers had devices m) b ≡ Some l
      → k.node ≡ l.node → a ≡ b
  unfolding planned_consumers
  consumers_once had m a b k l ea eb same =
      let nodes : map node_of (planned_consumers had devices m) ≡ filter (λ n. is_some (consumer_of had devices m n))
      (consumers_of m.sinks) =
      places_given (consumer_of had devices m) node_of (λ n k e. (consumer_is had devices m n k e).at)
      (consumers_of m.sinks) in
      let in_order : IsStrictlySortedBy nat_cmp (map node_of (planned_consumers had devices m)) =
      subst (IsStrictlySortedBy nat_cmp) (sym nodes)
      (IsStrictlySortedBy-filter nat_cmp (λ n. is_some (consumer_of had devices m n)) (consumers_of m.sinks)
      (consumers_sorted m.sinks)) in
      let at_b = get_map node_of (planned_consumers had devices m) b l eb in
      once (map node_of (planned_consumers had devices m)) a b k.node in_order
      (get_map node_of (planned_consumers had devices m) a k ea) (at_b ∙ ap Some (sym same))

  consumers_apart : (withheld : Withheld) (before : List Clean) (m : Linked) (c : Clean)
      → judged_message (had_by withheld before) devices m ≡ Planned c → Apart before c
  consumers_apart withheld before m c e =
      let is = judged_clean (had_by withheld before) devices m c e in
      record {
        free = λ a k at. consumer_free withheld before m a k (ap (λ (ks : List Consumer). slice_get ks a) is.consumers ∙ at);
        once = λ a b k l ea eb same. consumers_once (had_by withheld before) m a b k l
            (ap (λ (ks : List Consumer). slice_get ks a) is.consumers ∙ ea)
            (ap (λ (ks : List Consumer). slice_get ks b) is.consumers ∙ eb) same;
      }

-- ---- no two have the same

same_number : (a b : ℕ) → a ≡ b → (a == b) ≡ true
same_number a b e = grind (arith, nat_tests)

same_pair : (a b m n : ℕ) → a ≡ m → b ≡ n → ((a == m) && (b == n)) ≡ true
same_pair a b m n e f = grind (arith, nat_tests)

-- two places are one, where neither stands before the other
one_place : (i j : ℕ) → (i < j → ⊥) → (j < i → ⊥) → i ≡ j
one_place i j below above = by (nat_cmp i j) refl
  where
    by : (o : Ordering) → o ≡ nat_cmp i j → i ≡ j
    by Less e = absurd (below (ranked i j Less e))
    by Equal e = ranked i j Equal e
    by Greater e = absurd (above (ranked i j Greater e))

abbrev pub clean_plan : Devices → List (List ℕ × Linked) → List Clean
clean_plan devices ms = clean (plan_of devices ms)

module _ (devices : Devices) (ms : List (List ℕ × Linked)) where
  later_identifier : (i j : ℕ) (c d : Clean) → slice_get (clean_plan devices ms) i ≡ Some c
      → slice_get (clean_plan devices ms) j ≡ Some d → c.identifier ≡ d.identifier → i < j → ⊥
  later_identifier i j c d ec ed same lt =
      let free : FreeIdentifier (take j (clean_plan devices ms)) d =
      at_place devices FreeIdentifier (clean_plan devices ms) j d
      (each_clean devices FreeIdentifier (free_identifier devices) ms) ed in
      let had = had_earlier (λ x. x.identifier == d.identifier)
      (clean_plan devices ms) i j c lt ec (same_number c.identifier d.identifier same) in
      false≢true (sym free ∙ had)

  pub identifiers_apart : (i j : ℕ) (c d : Clean) → slice_get (clean_plan devices ms) i ≡ Some c
      → slice_get (clean_plan devices ms) j ≡ Some d → c.identifier ≡ d.identifier → i ≡ j
  identifiers_apart i j c d ec ed same = one_place i j (later_identifier i j c d ec ed same)
      (later_identifier j i d c ed ec (sym same))

  later_tpdo : (i j : ℕ) (c d : Clean) → slice_get (clean_plan devices ms) i ≡ Some c
      → slice_get (clean_plan devices ms) j ≡ Some d
      → c.message.node ≡ d.message.node → c.message.tpdo ≡ d.message.tpdo → i < j → ⊥
  later_tpdo i j c d ec ed node tpdo lt =
      let free : FreeTpdo (take j (clean_plan devices ms)) d =
      at_place devices FreeTpdo (clean_plan devices ms) j d (each_clean devices FreeTpdo (free_tpdo devices) ms) ed
      in
      let had = had_earlier (λ x. (x.message.node == d.message.node) && (x.message.tpdo == d.message.tpdo))
      (clean_plan devices ms) i j c lt ec (same_pair c.message.node c.message.tpdo d.message.node d.message.tpdo
      node tpdo) in
      false≢true (sym free ∙ had)

  pub tpdos_apart : (i j : ℕ) (c d : Clean) → slice_get (clean_plan devices ms) i ≡ Some c
      → slice_get (clean_plan devices ms) j ≡ Some d
      → c.message.node ≡ d.message.node → c.message.tpdo ≡ d.message.tpdo → i ≡ j
  tpdos_apart i j c d ec ed node tpdo = one_place i j (later_tpdo i j c d ec ed node tpdo)
      (later_tpdo j i d c ed ec (sym node) (sym tpdo))

  pub apart_at : (k : ℕ) (c : Clean) → slice_get (clean_plan devices ms) k ≡ Some c
      → Apart (take k (clean_plan devices ms)) c
  apart_at k c e =
      at_place devices Apart (clean_plan devices ms) k c (each_clean devices Apart (consumers_apart devices) ms) e

  has_consumer : (ks : List Consumer) (a node number : ℕ) (k : Consumer) → slice_get ks a ≡ Some k → k.node ≡ node
      → k.rpdo ≡ number → list_any (is_at_node node number) ks ≡ true
  has_consumer [] a node number k e n r = cc
  has_consumer (l ∷ ks) zero node number k e n r =
      let same : l ≡ k = cc in
      ap (λ b. b || list_any (is_at_node node number) ks)
      (ap (is_at_node node number) same ∙ same_pair k.node k.rpdo node number n r)
  has_consumer (l ∷ ks) (suc a) node number k e n r =
      or_true (is_at_node node number l) _ (has_consumer ks a node number k e n r)
    where
      or_true : (a b : Bool) → b ≡ true → a || b ≡ true
      or_true true b e = refl
      or_true false b e = e

  later_rpdo : (i j a b : ℕ) (c d : Clean) (k l : Consumer) → slice_get (clean_plan devices ms) i ≡ Some c
      → slice_get (clean_plan devices ms) j ≡ Some d
      → slice_get c.consumers a ≡ Some k → slice_get d.consumers b ≡ Some l → k.node ≡ l.node → k.rpdo ≡ l.rpdo → i < j
      → ⊥
  later_rpdo i j a b c d k l ec ed ek el node number lt =
      let free = (apart_at j d ed).free b l el in
      let had = had_earlier (λ x. list_any (is_at_node l.node l.rpdo) x.consumers)
      (clean_plan devices ms) i j c lt ec (has_consumer c.consumers a l.node l.rpdo k ek node number) in
      false≢true (sym free ∙ had)

  pub rpdos_apart : (i j a b : ℕ) (c d : Clean) (k l : Consumer) → slice_get (clean_plan devices ms) i ≡ Some c
      → slice_get (clean_plan devices ms) j ≡ Some d
      → slice_get c.consumers a ≡ Some k → slice_get d.consumers b ≡ Some l → k.node ≡ l.node → k.rpdo ≡ l.rpdo
      → (i ≡ j) × (a ≡ b)
  rpdos_apart i j a b c d k l ec ed ek el node number =
      let same : i ≡ j = one_place i j (later_rpdo i j a b c d k l ec ed ek el node number)
      (later_rpdo j i b a d c l k ed ec el ek (sym node) (sym number)) in
      let again : slice_get (clean_plan devices ms) i ≡ Some d = ap (slice_get (clean_plan devices ms)) same ∙ ed in
      let one : c ≡ d = cc in
      (same, (apart_at i c ec).once a b k l ek (ap (λ (x : Clean). slice_get x.consumers b) one ∙ el) node)
