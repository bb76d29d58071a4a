-- In version 3 a TPDO that is on is of a message, or is found to send beside the plan.
use Rattle.std.proofs.Common.{◌≡◌, ◌∙◌, ◌⊎◌, inl, inr, ⊎_elim, ℕ, zero, suc, ◌+◌, ◌≤◌, ◌<◌, Bool, true, false, ◌&&◌, ◌||◌}
use Rattle.std.proofs.Common.{List, [], ◌∷◌, All, Contains, filter, Option, Some, None, refl, sym, ap, subst, arith}
use Rattle.std.specs.Prelude.{◌==◌, not, if◌then◌else◌}
use Rattle.std.specs.FinMap.{get}
use Rattle.std.specs.List.{flat_map, list_any, range_with_len}
use Rattle.std.specs.Option.{option_map_or, unwrap_or}
use Rattle.std.proofs.lemmas.Bool.{eqb-true}
use Rattle.std.proofs.lemmas.Bool.Decides.{nat_tests}
use Rattle.std.proofs.lemmas.List.Elements.{All-contains, All-contains_itself, All-weaker}
use Rattle.byteorder.specs.Endian.{little_bytes, little_number}
use Rattle.base.specs.Ranges.{is_between}
use Rattle.cia301.specs.Limits.{is_pdo_number}
use Rattle.cia301.specs.CobIds.{is_valid, off_bit}
use Rattle.cia301.specs.PdoObjects.{is_of_pdos, mapping_object, rpdo_object, tpdo_object}
use Rattle.concise_dcf.specs.declared.write.Write.{Write}
use Rattle.concise_dcf.specs.Writes.{place_of}
use Rattle.co_dict.specs.Shapes.{Shaped}
use Rattle.co_dict.specs.Values.{Values, number_at}
use Rattle.eds_device.specs.Entries.{defaults_of, shape_of}
use Rattle.node_parameters.proofs.WrittenLemmas.{Contains-filter_map, from_filter_map}
use Rattle.pdo_rules.specs.Working.{cob_id_of, count_of, has_frames, has_mapping, is_pdo, works}
use Rattle.pdo_stations.specs.declared.as_made.AsMade.{AsMade}
use Rattle.pdo_stations.specs.Devices.{as_made}
use Rattle.pdo_choices.proofs.RangeLemmas.{between}
use Rattle.pdo_choices.specs.declared.clean.Clean.{Clean}
use Rattle.pdo_plan.specs.declared.planned_message.PlannedMessage.{PlannedMessage}
use Rattle.pdo_plan.specs.Plan.{clean, clean_of}
use Rattle.pdo_links.specs.Order.{IsUsedByNone, TurnsOff}
use Rattle.pdo_links.specs.PdoWrites.{tpdo_of}
use Rattle.pdo_links.specs.VendorWrites.{is_switched_off, unused_writes}
use Rattle.pdo_findings.specs.Findings.{lasting_identifier, of_clean, sends_on, unplanned_tpdo, unplanned_tpdos, uses_tpdo}
use Rattle.co_project.specs.Project.{Content}
use Rattle.project_edits.specs.Versions.{is_three}
use Rattle.project_plan.specs.Network.{Member, plan_of_project, writes_of}
use Rattle.project_plan.specs.Nodes.{IsSoundNode, Sends, Takes}
use Rattle.pdo_links.specs.Order.{IsSentAlone, IsTakenAlone}
use Rattle.pdo_choices.specs.declared.consumer.Consumer.{Consumer}
use Rattle.project_plan.specs.Pdos.{IsOfSent, IsOfTaken, IsOfUnused, is_to_pdo, sent_writes, taken_writes, to_pdo}
use Rattle.project_plan.specs.Values.{after_writes, values_after}
use Rattle.project_plan.proofs.WantedLemmas.{left_alone}
use Rattle.co_diag.specs.Holds.{IsMadeNode, SendsUnplanned}
use Rattle.co_diag.proofs.ListLemmas.{Contains-flat_map}
use Rattle.configured_laws.specs.Sending.{SendsBy, is_on}
use Rattle.configured_laws.proofs.AfterLemmas.{Same, stands}
use Rattle.std.specs.Prelude.{nat_lt}
use Rattle.std.proofs.lemmas.Bool.{cases_eq}
use Rattle.std.proofs.lemmas.List.Elements.{All-cons, All-nil}
use Rattle.cia301.specs.CobIds.{identifier_in, is_of_base_frames, is_restricted}
use Rattle.co_values.specs.declared.data_type.DataType.{DataType}
use Rattle.co_values.specs.declared.data_type.DataType.TheVariants.{Boolean, Integer8, Integer16, Integer24, Integer32}
use Rattle.co_values.specs.declared.data_type.DataType.TheVariants.{Integer40, Integer48, Integer56, Integer64, Unsigned8}
use Rattle.co_values.specs.declared.data_type.DataType.TheVariants.{Unsigned16, Unsigned24, Unsigned32, Unsigned40}
use Rattle.co_values.specs.declared.data_type.DataType.TheVariants.{Unsigned48, Unsigned56, Unsigned64, Real32, Real64}
use Rattle.co_values.specs.declared.data_type.DataType.TheVariants.{VisibleString, OctetString, Domain, NotModelled}
use Rattle.co_values.specs.declared.form.Width.TheVariants.{Bits8, Bits32}
use Rattle.co_values.specs.Types.{form}
use Rattle.co_dict.specs.declared.entry.Entry.{Entry}
use Rattle.co_dict.specs.PdoChecks.{has_type, is_unsigned8, is_unsigned32}
use Rattle.diag_lines.proofs.ListLemmas.{Contains-nil, Contains-first, Contains-later, Contains-cases}
use Rattle.pdo_stations.specs.Devices.{is_unsigned}
use Rattle.vendor_pdos.specs.Parameters.{has_at, parameter_default}
use Rattle.pdo_links.specs.PdoWrites.{cob_write, rpdo_of}
use Rattle.pdo_links.specs.VendorWrites.{vendor_rpdo_writes, vendor_tpdo_writes}
use Rattle.pdo_links.specs.Writes.{node_writes, rpdo_writes, tpdo_writes}
use Rattle.pdo_links.proofs.Values.{first_of, second_of}
use Rattle.pdo_links.proofs.VendorOrder.{turned_off}
use Rattle.pdo_links.proofs.WhoseVendor.{unused_written}

-- ---- lists

module _ {X : Type 0} (test : X → Bool) where
  -- an element that passes a test, and one that does
  any_from : (xs : List X) (x : X) → Contains xs x → test x ≡ true → list_any test xs ≡ true
  any_from [] x has passes = absurd (Contains-nil x has)
  any_from (y ∷ ys) x has passes = by (Contains-cases y ys x has) (λ later. any_from ys x later passes)
    where
      or_true : (a b : Bool) → b ≡ true → a || b ≡ true
      or_true true b is = refl
      or_true false b is = is

      by : (y ≡ x) ⊎ Contains ys x → (Contains ys x → list_any test ys ≡ true) → test y || list_any test ys ≡ true
      by (inl here) rest = rw here (rw passes refl)
      by (inr later) rest = or_true (test y) (list_any test ys) (rest later)

  some_passes : (xs : List X) → list_any test xs ≡ true → (x : X) × Contains xs x × (test x ≡ true)
  some_passes [] is = cc
  some_passes (y ∷ ys) is = by (test y) refl is (some_passes ys)
    where
      further : (x : X) × Contains ys x × (test x ≡ true) → (x : X) × Contains (y ∷ ys) x × (test x ≡ true)
      further (x, has, passes) = (x, Contains-later y ys x has, passes)

      by : (b : Bool) → test y ≡ b → b || list_any test ys ≡ true
          → (list_any test ys ≡ true → (x : X) × Contains ys x × (test x ≡ true))
          → (x : X) × Contains (y ∷ ys) x × (test x ≡ true)
      by true passes is rest = (y, Contains-first y ys, passes)
      by false fails is rest = further (rest is)

in_range : (n first count : ℕ) → first ≤ n → n < first + count → Contains (range_with_len first count) n
in_range n first zero low high = absurd (omega (arith, low, high))
in_range n first (suc count) low high = by (cases_eq first n) (λ low. in_range n (first + 1) count low (omega (arith, high)))
  where
    past : (a b : ℕ) → a ≤ b → (a ≡ b → ⊥) → a + 1 ≤ b
    past a b le other = omega (arith, other)

    by : (first ≡ n) ⊎ (first ≡ n → ⊥) → (first + 1 ≤ n → Contains (range_with_len (first + 1) count) n)
        → Contains (first ∷ range_with_len (first + 1) count) n
    by (inl same) rest = subst (λ (k : ℕ). Contains (first ∷ range_with_len (first + 1) count) k) same
        (Contains-first first (range_with_len (first + 1) count))
    by (inr other) rest = Contains-later first (range_with_len (first + 1) count) n (rest (past first n low other))

-- ---- types

is_thirty_two : (kind : DataType) → is_unsigned32 (form kind) ≡ true → is_unsigned kind Bits32 ≡ true
is_thirty_two Unsigned32 is = refl
is_thirty_two Boolean is = cc
is_thirty_two Integer8 is = cc
is_thirty_two Integer16 is = cc
is_thirty_two Integer24 is = cc
is_thirty_two Integer32 is = cc
is_thirty_two Integer40 is = cc
is_thirty_two Integer48 is = cc
is_thirty_two Integer56 is = cc
is_thirty_two Integer64 is = cc
is_thirty_two Unsigned8 is = cc
is_thirty_two Unsigned16 is = cc
is_thirty_two Unsigned24 is = cc
is_thirty_two Unsigned40 is = cc
is_thirty_two Unsigned48 is = cc
is_thirty_two Unsigned56 is = cc
is_thirty_two Unsigned64 is = cc
is_thirty_two Real32 is = cc
is_thirty_two Real64 is = cc
is_thirty_two VisibleString is = cc
is_thirty_two OctetString is = cc
is_thirty_two Domain is = cc
is_thirty_two NotModelled is = cc

is_eight : (kind : DataType) → is_unsigned8 (form kind) ≡ true → is_unsigned kind Bits8 ≡ true
is_eight Unsigned8 is = refl
is_eight Boolean is = cc
is_eight Integer8 is = cc
is_eight Integer16 is = cc
is_eight Integer24 is = cc
is_eight Integer32 is = cc
is_eight Integer40 is = cc
is_eight Integer48 is = cc
is_eight Integer56 is = cc
is_eight Integer64 is = cc
is_eight Unsigned16 is = cc
is_eight Unsigned24 is = cc
is_eight Unsigned40 is = cc
is_eight Unsigned48 is = cc
is_eight Unsigned56 is = cc
is_eight Unsigned32 is = cc
is_eight Unsigned64 is = cc
is_eight Real32 is = cc
is_eight Real64 is = cc
is_eight VisibleString is = cc
is_eight OctetString is = cc
is_eight Domain is = cc
is_eight NotModelled is = cc

module _ (device : AsMade) (place : ℕ × ℕ) where
  has_thirty_two : has_type is_unsigned32 device.shape place ≡ true → has_at device Bits32 place ≡ true
  has_thirty_two is = by (get device.shape.entries place) is
    where
      by : (o : Option Entry) → option_map_or (λ (e : Entry). is_unsigned32 (form e.kind)) o false ≡ true
          → option_map_or (λ (e : Entry). is_unsigned e.kind Bits32) o false ≡ true
      by None is = cc
      by (Some e) is = is_thirty_two e.kind is

  has_eight : has_type is_unsigned8 device.shape place ≡ true → has_at device Bits8 place ≡ true
  has_eight is = by (get device.shape.entries place) is
    where
      by : (o : Option Entry) → option_map_or (λ (e : Entry). is_unsigned8 (form e.kind)) o false ≡ true
          → option_map_or (λ (e : Entry). is_unsigned e.kind Bits8) o false ≡ true
      by None is = cc
      by (Some e) is = is_eight e.kind is

-- ---- what stands at a place that holds the same

same_number : (count : ℕ) (values others : Values) (place : ℕ × ℕ) → get values place ≡ get others place
    → number_at count values place ≡ number_at count others place
same_number count values others place is = ap (λ (o : Option (List ℕ)). little_number count (unwrap_or o [])) is

-- ---- a node of a project of version 3

-- what the laws of the writes of a node say of one
pub record ArePlanned (project : Content) (id : ℕ) (m : Member) : Type 0 where
  pub sent_alone : (c : Clean) → Sends project id c → IsSentAlone (clean (plan_of_project project)) id c
  pub taken_alone : (c : Clean) (k : Consumer) → Takes project id c k → IsTakenAlone (clean (plan_of_project project)) id c k
  pub sent : (c : Clean) → Sends project id c
      → to_pdo (tpdo_object c.message.tpdo) (writes_of project m id) ≡ sent_writes project m id c
  pub taken : (c : Clean) (k : Consumer) → Takes project id c k
      → to_pdo (rpdo_object k.rpdo) (writes_of project m id) ≡ taken_writes project m id c k
  pub whose : (w : Write) → Contains (writes_of project m id) w → is_of_pdos w.index ≡ true
      → IsOfSent project m id w ⊎ (IsOfTaken project m id w ⊎ IsOfUnused project m id w)

-- a write that a test takes passes it
passed : (test : Write → Bool) (ws : List Write) (w : Write) → Contains (filter test ws) w → test w ≡ true
passed test [] w has = absurd (Contains-nil w has)
passed test (x ∷ ws) w has = by (test x) refl has (passed test ws w)
  where
    by : (b : Bool) → test x ≡ b → Contains (if b then x ∷ filter test ws else filter test ws) w
        → (Contains (filter test ws) w → test w ≡ true) → test w ≡ true
    by true is has rest = ⊎_elim (λ (here : x ≡ w). subst (λ (v : Write). test v ≡ true) here is) rest
        (Contains-cases x (filter test ws) w has)
    by false is has rest = rest has

-- a write is to the objects of a PDO
its_index : (object : ℕ) (w : Write) → is_to_pdo object w ≡ true → (w.index ≡ object) ⊎ (w.index ≡ mapping_object object)
its_index object w is = by (w.index == object) refl is
  where
    by : (b : Bool) → (w.index == object) ≡ b → b || w.index == mapping_object object ≡ true
        → (w.index ≡ object) ⊎ (w.index ≡ mapping_object object)
    by true same is = inl (eqb-true w.index object same)
    by false other is = inr (eqb-true w.index (mapping_object object) is)

module _ (project : Content) (id : ℕ) (m : Member) (three : is_three project.version ≡ true)
    (planned : ArePlanned project id m) where
  abbrev plan : List PlannedMessage
  plan = plan_of_project project

  abbrev device : AsMade
  device = as_made m.sheet id

  abbrev writes : List Write
  writes = writes_of project m id

  -- the test by which a TPDO is used
  abbrev sends_by : ℕ → Clean → Bool
  sends_by number c = (c.message.node == id) && (c.message.tpdo == number)

  both : (a b c d : ℕ) → a ≡ b → c ≡ d → (a == b) && (c == d) ≡ true
  both a b c d is also = grind (arith, nat_tests, is, also)

  used : (number : ℕ) (c : Clean) → Contains (clean plan) c → c.message.node ≡ id → c.message.tpdo ≡ number
      → uses_tpdo plan id number ≡ true
  used number c has sender tpdo =
      let at = from_filter_map (λ (p : PlannedMessage). clean_of p.outcome) plan c has in
      any_from (of_clean (sends_by number)) plan at.0 at.1
      (ap (λ (o : Option Clean). option_map_or (sends_by number) o false) at.2
      ∙ both c.message.node id c.message.tpdo number sender tpdo)

  user : (number : ℕ) → uses_tpdo plan id number ≡ true → SendsBy project id number
  user number is =
      let at = some_passes (of_clean (sends_by number)) plan is in by at.0 at.1 (clean_of at.0.outcome) refl at.2
    where
      by : (p : PlannedMessage) → Contains plan p → (o : Option Clean) → clean_of p.outcome ≡ o
          → option_map_or (sends_by number) o false ≡ true → SendsBy project id number
      by p has None is test = cc
      by p has (Some c) is test = (
        c,
        record {
          planned = Contains-filter_map (λ (p : PlannedMessage). clean_of p.outcome) plan p c has is;
          sender = eqb-true c.message.node id (first_of (c.message.node == id) (c.message.tpdo == number) test);
        },
        eqb-true c.message.tpdo number (second_of (c.message.node == id) (c.message.tpdo == number) test),
      )

  -- ---- a TPDO that no message uses

  module _ (number : ℕ) (numbered : is_pdo_number number ≡ true) (unused : uses_tpdo plan id number ≡ false) where
    abbrev object : ℕ
    object = tpdo_object number

    low : 1 ≤ number
    low = (between 1 512 number numbered).0

    high : number ≤ 512
    high = (between 1 512 number numbered).1

    -- a write to its objects is one that switches it off
    abbrev IsToIt : Write → Type 0
    IsToIt w = (w.index ≡ object) ⊎ (w.index ≡ mapping_object object)

    of_sent : (w : Write) → IsToIt w → IsOfSent project m id w → ⊥
    unfolding to_pdo
    of_sent w to (c, has, sender, writes) =
        let sends : Sends project id c = record { planned = has; sender = sender } in
        let bounds = between 1 512 c.message.tpdo (planned.sent_alone c sends).numbered in
        let index : (w.index ≡ tpdo_object c.message.tpdo) ⊎ (w.index ≡ mapping_object (tpdo_object c.message.tpdo)) =
        its_index (tpdo_object c.message.tpdo) w (passed (is_to_pdo (tpdo_object c.message.tpdo)) (writes_of project m id) w
        (in_filter c.message.tpdo (subst (λ (ws : List Write). Contains ws w) (sym (planned.sent c sends)) writes))) in
        let same : c.message.tpdo ≡ number = tie w.index c.message.tpdo bounds.0 bounds.1 to index in
        let contrary : true ≡ false = sym (used number c has sender same) ∙ unused in
        cc
      where
        in_filter : (tpdo : ℕ) → Contains (to_pdo (tpdo_object tpdo) (writes_of project m id)) w
            → Contains (filter (is_to_pdo (tpdo_object tpdo)) (writes_of project m id)) w
        in_filter tpdo has = has

        tie : (index other : ℕ) → 1 ≤ other → other ≤ 512 → (index ≡ object) ⊎ (index ≡ mapping_object object)
            → (index ≡ tpdo_object other) ⊎ (index ≡ mapping_object (tpdo_object other)) → other ≡ number
        tie index other from below (inl a) (inl b) = omega (arith, a, b)
        tie index other from below (inl a) (inr b) = absurd (omega (arith, a, b, low, high, from, below))
        tie index other from below (inr a) (inl b) = absurd (omega (arith, a, b, low, high, from, below))
        tie index other from below (inr a) (inr b) = omega (arith, a, b)

    of_taken : (w : Write) → IsToIt w → IsOfTaken project m id w → ⊥
    unfolding to_pdo
    of_taken w to (c, has, (k, consumer, taker, writes)) =
        let takes : Takes project id c k = record { planned = has; consumer = consumer; taker = taker } in
        let bounds = between 1 512 k.rpdo (planned.taken_alone c k takes).numbered in
        let index : (w.index ≡ rpdo_object k.rpdo) ⊎ (w.index ≡ mapping_object (rpdo_object k.rpdo)) =
        its_index (rpdo_object k.rpdo) w (passed (is_to_pdo (rpdo_object k.rpdo)) (writes_of project m id) w
        (in_filter k.rpdo (subst (λ (ws : List Write). Contains ws w) (sym (planned.taken c k takes)) writes))) in
        apart w.index k.rpdo bounds.1 to index
      where
        in_filter : (rpdo : ℕ) → Contains (to_pdo (rpdo_object rpdo) (writes_of project m id)) w
            → Contains (filter (is_to_pdo (rpdo_object rpdo)) (writes_of project m id)) w
        in_filter rpdo has = has

        apart : (index other : ℕ) → other ≤ 512 → (index ≡ object) ⊎ (index ≡ mapping_object object)
            → (index ≡ rpdo_object other) ⊎ (index ≡ mapping_object (rpdo_object other)) → ⊥
        apart index other below (inl a) (inl b) = omega (arith, a, b, low, below)
        apart index other below (inl a) (inr b) = omega (arith, a, b, low, below)
        apart index other below (inr a) (inl b) = omega (arith, a, b, low, below)
        apart index other below (inr a) (inr b) = omega (arith, a, b, low, below)

    -- an unused PDO's write is to its communication object
    off_index : (other : ℕ) (w : Write) → Contains (unused_writes device other) w → w.index ≡ other
    off_index other w has =
        let off : TurnsOff device other w =
        All-contains (TurnsOff device other) (unused_writes device other) w (turned_off device other).1 has in
        eqb-true w.index other (second_of (w.sub == 1) (w.index == other) off.0)

    of_unused : (w : Write) → IsToIt w → IsOfUnused project m id w → Contains (unused_writes device object) w
    of_unused w to (new, (other, is_number, inl (none, has))) =
        let bounds = between 1 512 other is_number in
        let same : other ≡ number = tie w.index other bounds.0 bounds.1 to (off_index (tpdo_object other) w has) in
        subst (λ (k : ℕ). Contains (unused_writes device (tpdo_object k)) w) same has
      where
        tie : (index other : ℕ) → 1 ≤ other → other ≤ 512 → (index ≡ object) ⊎ (index ≡ mapping_object object)
            → index ≡ tpdo_object other → other ≡ number
        tie index other from below (inl a) b = omega (arith, a, b)
        tie index other from below (inr a) b = absurd (omega (arith, a, b, low, below))
    of_unused w to (new, (other, is_number, inr (none, has))) =
        let bounds = between 1 512 other is_number in
        absurd (apart w.index other bounds.1 to (off_index (rpdo_object other) w has))
      where
        apart : (index other : ℕ) → other ≤ 512 → (index ≡ object) ⊎ (index ≡ mapping_object object)
            → index ≡ rpdo_object other → ⊥
        apart index other below (inl a) b = omega (arith, a, b, low, below)
        apart index other below (inr a) b = omega (arith, a, b, low, below)

    of_pdos : (index : ℕ) → 0x1400 ≤ index → index ≤ 0x1BFF → is_of_pdos index ≡ true
    of_pdos index from to = grind (arith, nat_tests)

    pdo_index : (index : ℕ) → (index ≡ object) ⊎ (index ≡ mapping_object object) → is_of_pdos index ≡ true
    pdo_index index (inl a) = of_pdos index (omega (arith, a, low)) (omega (arith, a, high))
    pdo_index index (inr a) = of_pdos index (omega (arith, a, low)) (omega (arith, a, high))

    to_it : (w : Write) → Contains writes w → IsToIt w → Contains (unused_writes device object) w
    to_it w has to =
        ⊎_elim (λ s. absurd (of_sent w to s))
        (⊎_elim (λ t. absurd (of_taken w to t)) (of_unused w to))
        (planned.whose w has (pdo_index w.index to))

    -- so what is mapped stays
    mapping_stays : (place : ℕ × ℕ) → place.0 ≡ mapping_object object
        → get (values_after project m id) place ≡ get (defaults_of m.sheet id) place
    unfolding values_after
    mapping_stays place at =
        left_alone (defaults_of m.sheet id) place writes
        (All-weaker (Contains writes) (λ (w : Write). w.index ≡ place.0 → ⊥)
        (λ w has is. apart w (is ∙ at) (off_index object w (to_it w has (inr (is ∙ at))))) writes
        (All-contains_itself writes))
      where
        apart : (w : Write) → w.index ≡ mapping_object object → w.index ≡ object → ⊥
        apart w a b = omega (arith, a, b)

    -- a TPDO that isn't switched off keeps its COB-ID
    cob_stays : is_switched_off device object ≡ false
        → get (values_after project m id) (object, 1) ≡ get (defaults_of m.sheet id) (object, 1)
    unfolding values_after unused_writes
    cob_stays stays =
        left_alone (defaults_of m.sheet id) (object, 1) writes
        (All-weaker (Contains writes) (λ (w : Write). w.index ≡ object → ⊥)
        (λ w has is. nothing w (to_it w has (inl is))) writes (All-contains_itself writes))
      where
        nothing : (w : Write) → Contains (unused_writes device object) w → ⊥
        nothing w has = Contains-nil w
            (subst (λ (b : Bool). Contains (if b then cob_write object (off_bit + parameter_default device object 1) ∷ []
            else []) w) stays has)

    -- none of the messages has it
    by_none : IsUsedByNone (tpdo_of id) (clean plan) number
    by_none c x has given = by (c.message.node == id) refl given
      where
        by : (b : Bool) → (c.message.node == id) ≡ b
            → (let of : Option (ℕ × Clean) = if b then Some (c.message.tpdo, c) else None in of ≡ Some (number, x)) → ⊥
        by true is given =
            let same : c.message.tpdo ≡ number =
            ap (λ (o : Option (ℕ × Clean)). option_map_or (λ (p : ℕ × Clean). p.0) o 0) given in
            let contrary : true ≡ false =
            sym (used number c has (eqb-true c.message.node id is) same) ∙ unused in
            cc
        by false is given = cc

    -- one that is switched off is off
    abbrev off : Write
    off = cob_write object (off_bit + parameter_default device object 1)

    off_there : is_switched_off device object ≡ true → Contains (unused_writes device object) off
    unfolding unused_writes
    off_there is = subst (λ (b : Bool). Contains (if b then off ∷ [] else []) off) (sym is) (Contains-first off [])

    off_alone : (w : Write) → Contains (unused_writes device object) w → w.bytes ≡ off.bytes
    unfolding unused_writes
    off_alone w has =
        All-contains (λ (w : Write). w.bytes ≡ off.bytes) (unused_writes device object) w
        (by (is_switched_off device object)) has
      where
        by : (b : Bool) → (let ws : List Write = if b then off ∷ [] else [] in All (λ (w : Write). w.bytes ≡ off.bytes) ws)
        by true = All-cons (λ (w : Write). w.bytes ≡ off.bytes) off [] refl (All-nil (λ (w : Write). w.bytes ≡ off.bytes))
        by false = All-nil (λ (w : Write). w.bytes ≡ off.bytes)

    cob_off : is_switched_off device object ≡ true → get (values_after project m id) (object, 1) ≡ Some off.bytes
    unfolding values_after writes_of
    cob_off is =
        stands (object, 1) off.bytes (defaults_of m.sheet id) writes off
        (All-weaker (Contains writes) (Same (object, 1) off.bytes)
        (λ w has at. off_alone w (to_it w has (inl (ap (λ (p : ℕ × ℕ). p.0) at)))) writes (All-contains_itself writes))
        (subst (λ (b : Bool). Contains (node_writes b plan m.node.params m.sheet id) off) (sym three)
        (unused_written plan m.node.params m.sheet id off (number, numbered, inl (by_none, off_there is))))
        refl

    not_valid : is_switched_off device object ≡ true
        → is_valid (number_at 4 (values_after project m id) (object, 1)) ≡ false
    not_valid is =
        ap (λ (o : Option (List ℕ)). is_valid (little_number 4 (unwrap_or o []))) (cob_off is)
        ∙ flipped (is_valid (little_number 4 off.bytes))
        (All-contains (TurnsOff device object) (unused_writes device object) off (turned_off device object).1
        (off_there is)).1
      where
        flipped : (b : Bool) → not b ≡ true → b ≡ false
        flipped true is = cc
        flipped false is = refl

    -- ---- what it needs to send

    valid_of : (cob : ℕ) → has_frames cob ≡ true → is_valid cob ≡ true
    unfolding has_frames
    valid_of cob is = first_of (is_valid cob) _ (first_of (is_valid cob && is_of_base_frames cob) _ is)

    not_zero : (n : ℕ) → nat_lt 0 n ≡ true → not (n == 0) ≡ true
    not_zero n is = grind (arith, nat_tests)

    cob_there : (shape : Shaped) → is_pdo shape object ≡ true → has_type is_unsigned32 shape (object, 1) ≡ true
    unfolding is_pdo
    cob_there shape is = first_of (has_type is_unsigned32 shape (object, 1)) _ is

    count_there : (shape : Shaped) → is_pdo shape object ≡ true
        → has_type is_unsigned8 shape (mapping_object object, 0) ≡ true
    unfolding is_pdo
    count_there shape is = second_of (has_type is_unsigned32 shape (object, 1)) _ is

    counted : (shape : Shaped) (values : Values) → has_mapping shape values object ≡ true
        → nat_lt 0 (count_of values object) ≡ true
    unfolding has_mapping
    counted shape values is = first_of (nat_lt 0 (count_of values object)) _ is

    sends : has_at device Bits32 (object, 1) ≡ true → has_at device Bits8 (mapping_object object, 0) ≡ true
        → has_frames (number_at 4 device.defaults (object, 1)) ≡ true
        → nat_lt 0 (number_at 1 device.defaults (mapping_object object, 0)) ≡ true
        → is_switched_off device object ≡ false → sends_on device object ≡ true
    unfolding sends_on lasting_identifier has_frames
    sends there count frames some stays =
        let cob : ℕ = number_at 4 device.defaults (object, 1) in
        let front : is_valid cob && is_of_base_frames cob ≡ true = first_of (is_valid cob && is_of_base_frames cob) _ frames
        in
        let valid : is_valid cob ≡ true = first_of (is_valid cob) (is_of_base_frames cob) front in
        let base : is_of_base_frames cob ≡ true = second_of (is_valid cob) (is_of_base_frames cob) front in
        let free : not (is_restricted (identifier_in cob)) ≡ true =
        second_of (is_valid cob && is_of_base_frames cob) _ frames in
        let last : not (number_at 1 device.defaults (mapping_object object, 0) == 0) ≡ true = not_zero _ some in
        rw stays (rw there (rw valid (rw base (rw free (rw count last)))))

    listed : sends_on device object ≡ true → Contains (unplanned_tpdos plan device id) number
    unfolding unplanned_tpdos
    listed is =
        Contains-flat_map (unplanned_tpdo plan device id) (range_with_len 1 512) number number
        (in_range number 1 512 low (omega (arith, high)))
        (subst (λ (b : Bool). Contains (if b then number ∷ [] else []) number) (sym holds) (Contains-first number []))
      where
        holds : not (uses_tpdo plan id number) && sends_on device object ≡ true
        holds = rw unused (rw is refl)

    -- ---- so one that is on sends beside the plan

    found : is_on project m id number ≡ true → Contains (unplanned_tpdos plan device id) number
    unfolding works
    found on = by (is_switched_off device object) refl
      where
        shape : Shaped
        shape = shape_of m.sheet id

        values : Values
        values = values_after project m id

        first : is_pdo shape object && has_frames (cob_id_of values object) ≡ true
        first = first_of _ (has_mapping shape values object) on

        mapped : has_mapping shape values object ≡ true
        mapped = second_of (is_pdo shape object && has_frames (cob_id_of values object)) _ on

        objects : is_pdo shape object ≡ true
        objects = first_of (is_pdo shape object) (has_frames (cob_id_of values object)) first

        frames : has_frames (cob_id_of values object) ≡ true
        frames = second_of (is_pdo shape object) (has_frames (cob_id_of values object)) first

        by : (b : Bool) → is_switched_off device object ≡ b → Contains (unplanned_tpdos plan device id) number
        by true is =
            let contrary : true ≡ false = sym (valid_of (cob_id_of values object) frames) ∙ not_valid is in cc
        by false is =
            listed (sends (has_thirty_two device (object, 1) (cob_there shape objects))
            (has_eight device (mapping_object object, 0) (count_there shape objects))
            (subst (λ (n : ℕ). has_frames n ≡ true)
            (same_number 4 values (defaults_of m.sheet id) (object, 1) (cob_stays is)) frames)
            (subst (λ (n : ℕ). nat_lt 0 n ≡ true)
            (same_number 1 values (defaults_of m.sheet id) (mapping_object object, 0)
            (mapping_stays (mapping_object object, 0) refl)) (counted shape values mapped)) is)

pub sends_or_told : (project : Content) (id : ℕ) (m : Member) (number : ℕ) → is_three project.version ≡ true
    → IsSoundNode project id m → ArePlanned project id m → is_pdo_number number ≡ true
    → is_on project m id number ≡ true → SendsBy project id number ⊎ SendsUnplanned project id number
sends_or_told project id m number three node planned numbered on =
    by (uses_tpdo (plan_of_project project) id number) refl
  where
    by : (b : Bool) → uses_tpdo (plan_of_project project) id number ≡ b
        → SendsBy project id number ⊎ SendsUnplanned project id number
    by true is = inl (user project id m three planned number is)
    by false is = inr (record {
      device = as_made m.sheet id;
      made = record { member = m; rules = three; is = node.there; made = refl };
      found = found project id m three planned number numbered is on;
    })
