-- In which order a PDO is configured as its vendor made it.
use Rattle.std.proofs.Common.{◌≡◌, ◌⊎◌, inl, inr, ℕ, ◌+◌, ◌%◌, ◌<◌, ◌≤◌, Bool, true, false, not, ◌&&◌, List, []}
use Rattle.std.proofs.Common.{◌∷◌, ◌++◌, length, filter, All, refl, sym, ap, subst, ◌∙◌, arith}
use Rattle.std.specs.Prelude.{◌==◌, ◌||◌, if◌then◌else◌}
use Rattle.std.proofs.lemmas.List.Elements.{filter-append, All-nil, All-cons, All-head, All-tail, All-append, All-weaker}
use Rattle.byteorder.specs.Endian.{little_bytes, little_number}
use Rattle.co_values.specs.Types.{octets}
use Rattle.cia301.specs.CobIds.{is_valid, no_rtr_bit, off_bit}
use Rattle.cia301.specs.PdoObjects.{mapping_object, rpdo_object, tpdo_object}
use Rattle.concise_dcf.specs.declared.write.Write.{Write}
use Rattle.pdo_choices.specs.declared.clean.Clean.{Clean}
use Rattle.pdo_choices.specs.declared.consumer.Consumer.{Consumer}
use Rattle.pdo_choices.specs.Limits.{IsWithin}
use Rattle.pdo_stations.specs.declared.as_made.AsMade.{AsMade}
use Rattle.pdo_stations.specs.declared.mapped.Mapped.{Mapped}
use Rattle.vendor_pdos.specs.Mappings.{writes_mapping}
use Rattle.vendor_pdos.specs.Parameters.{can_be_set, is_open, parameter_default, parameter_width}
use Rattle.pdo_links.specs.Order.{is_to, to_object, IsConfiguredAsMade, IsOfTiming}
use Rattle.pdo_links.specs.Order.{IsSwitched, TurnsOff}
use Rattle.pdo_links.specs.PdoWrites.{cob_write, mapping_writes, taken_type, write_at}
use Rattle.pdo_links.specs.VendorWrites.{allows, configured, parameter_write, pdo_writes, unused_writes}
use Rattle.pdo_links.specs.VendorWrites.{vendor_rpdo_writes, vendor_tpdo_writes}
use Rattle.pdo_links.proofs.OrderLemmas.{all_mapping, append_none, between, mapped_so, no_cobs, number_other, other_number}
use Rattle.pdo_links.proofs.OrderLemmas.{same_number, switched}
use Rattle.pdo_links.proofs.Values.{first_of, second_of}
use Rattle.pdo_links.proofs.VendorValues.{opened}

-- ---- settings

-- a write of a parameter of a PDO but its COB-ID; of a closed PDO of its type or its event timer
pub record IsSetting (device : AsMade) (object : ℕ) (w : Write) : Type 0 where
  pub index : w.index ≡ object
  pub sub : (w.sub == 1) ≡ false
  pub timing : is_open device object ≡ false → (w.sub ≡ 2) ⊎ (w.sub ≡ 5)

timing_of : (a : Bool) (sub : ℕ) → (a || sub == 2 || sub == 5) ≡ true → a ≡ false → (sub ≡ 2) ⊎ (sub ≡ 5)
timing_of true sub e is = cc
timing_of false sub e is = by (sub == 2) (sub == 5) refl refl e
  where
    equal : (m n : ℕ) → (m == n) ≡ true → m ≡ n
    equal m n e = grind arith

    by : (b c : Bool) → (sub == 2) ≡ b → (sub == 5) ≡ c → (b || c) ≡ true → (sub ≡ 2) ⊎ (sub ≡ 5)
    by true c two five e = inl (equal sub 2 two)
    by false true two five e = inr (equal sub 5 five)
    by false false two five e = cc

parameter_set : (device : AsMade) (object sub number : ℕ) → (sub == 1) ≡ false
    → All (IsSetting device object) (parameter_write device object sub number)
parameter_set device object sub number other =
    by (can_be_set device object sub && (sub == 2 || not (number == 0) || allows device object sub 0)) refl
  where
    by : (b : Bool)
        → can_be_set device object sub && (sub == 2 || not (number == 0) || allows device object sub 0) ≡ b
        → let ws : List Write = if b then write_at object sub (little_bytes (octets (parameter_width sub)) number) ∷ []
        else [] in All (IsSetting device object) ws
    by true set =
        All-cons (IsSetting device object) (write_at object sub (little_bytes (octets (parameter_width sub)) number)) []
        (record {
          index = refl;
          sub = other;
          timing = timing_of (is_open device object) sub (second_of _ _ (first_of _ _ set));
        })
        (All-nil (IsSetting device object))
    by false set = All-nil (IsSetting device object)

event_set : (device : AsMade) (object event : ℕ)
    → (let ws : List Write = if event == 0 then [] else parameter_write device object 5 event
    in All (IsSetting device object) ws)
event_set device object event = by (event == 0)
  where
    by : (b : Bool) → let ws : List Write = if b then [] else parameter_write device object 5 event
        in All (IsSetting device object) ws
    by true = All-nil (IsSetting device object)
    by false = parameter_set device object 5 event refl

-- ---- a PDO

module _ (device : AsMade) (object identifier cob : ℕ) (settings : List Write) (mapping : List Mapped)
    (set : All (IsSetting device object) settings) (low : cob < off_bit) (has : cob % 0x800 ≡ identifier) where
  abbrev index : ℕ
  index = mapping_object object

  apart : (index == object) ≡ false
  apart = other_number object (mapping_object object) (omega arith)

  before : (object == index) ≡ false
  before = number_other object (mapping_object object) (omega arith)

  no_set_cobs : (ws : List Write) → All (IsSetting device object) ws → filter (is_to object 1) ws ≡ []
  no_set_cobs [] all = refl
  no_set_cobs (w ∷ ws) all = rw (All-head (IsSetting device object) w ws all).sub
      (no_set_cobs ws (All-tail (IsSetting device object) w ws all))

  no_set_mapping : (ws : List Write) → All (IsSetting device object) ws → to_object index ws ≡ []
  no_set_mapping [] all = refl
  no_set_mapping (w ∷ ws) all =
      let e : (w.index == index) ≡ false = ap (λ (n : ℕ). n == index) (All-head (IsSetting device object) w ws all).index
      ∙ before in
      rw e (no_set_mapping ws (All-tail (IsSetting device object) w ws all))

  abbrev items : List Write
  items = if writes_mapping device object (length mapping) then mapping_writes index mapping else []

  no_item_cobs : filter (is_to object 1) items ≡ []
  no_item_cobs = by (writes_mapping device object (length mapping))
    where
      by : (b : Bool) → let ws : List Write = if b then mapping_writes index mapping else []
          in filter (is_to object 1) ws ≡ []
      by true = no_cobs object index apart mapping
      by false = refl

  item_mapping : to_object index items ≡ items
  item_mapping = by (writes_mapping device object (length mapping))
    where
      by : (b : Bool) → let ws : List Write = if b then mapping_writes index mapping else [] in to_object index ws ≡ ws
      by true = all_mapping index mapping
      by false = refl

  abbrev all_open : List Write
  all_open = configured object cob settings items

  open_switched : IsSwitched object identifier all_open
  open_switched =
      switched object (off_bit + cob) cob identifier all_open
      (between (is_to object 1) (cob_write object cob) (same_number object) (cob_write object (off_bit + cob))
      (settings ++ items) (same_number object)
      (filter-append (is_to object 1) settings items
      ∙ ap (λ (ws : List Write). ws ++ filter (is_to object 1) items) (no_set_cobs settings set) ∙ no_item_cobs))
      (omega arith) (omega (arith, low)) low has

  open_mapping : to_object index all_open ≡ items
  open_mapping =
      rw (
        before,
        filter-append (λ (w : Write). w.index == index) (settings ++ items) (cob_write object cob ∷ []),
        filter-append (λ (w : Write). w.index == index) settings items,
        no_set_mapping settings set,
        item_mapping,
        before,
      )
      (append_none items)

  all_timing : is_open device object ≡ false → All (IsOfTiming object) settings
  all_timing closed = All-weaker (IsSetting device object) (IsOfTiming object) (λ w s. (s.index, s.timing closed)) settings set

  written_items : writes_mapping device object (length mapping) ≡ true → items ≡ mapping_writes index mapping
  written_items written = ap (λ (b : Bool). let ws : List Write = if b then mapping_writes index mapping else [] in ws) written

  no_items : writes_mapping device object (length mapping) ≡ false → items ≡ []
  no_items stands = ap (λ (b : Bool). let ws : List Write = if b then mapping_writes index mapping else [] in ws) stands

  when_open : is_open device object ≡ true → pdo_writes device object cob settings mapping ≡ all_open
  unfolding pdo_writes
  when_open is = ap (λ (b : Bool). let ws : List Write = if b then all_open else settings in ws) is

  when_closed : is_open device object ≡ false → pdo_writes device object cob settings mapping ≡ settings
  unfolding pdo_writes
  when_closed is = ap (λ (b : Bool). let ws : List Write = if b then all_open else settings in ws) is

  standing : writes_mapping device object (length mapping) ≡ false → (b : Bool) → is_open device object ≡ b
      → to_object index (pdo_writes device object cob settings mapping) ≡ []
  standing stands true is = ap (to_object index) (when_open is) ∙ open_mapping ∙ no_items stands
  standing stands false is = ap (to_object index) (when_closed is) ∙ no_set_mapping settings set

  pub pdo_configured : IsConfiguredAsMade device object identifier mapping
      (pdo_writes device object cob settings mapping)
  pdo_configured = record {
    when_open = λ is. subst (IsSwitched object identifier) (sym (when_open is)) open_switched;
    when_closed = λ is. subst (All (IsOfTiming object)) (sym (when_closed is)) (all_timing is);
    when_mapped = λ written. mapped_so object mapping (pdo_writes device object cob settings mapping)
        (ap (to_object index) (when_open (opened device object (length mapping) written)) ∙ open_mapping ∙ written_items written);
    when_it_stands = λ stands. standing stands (is_open device object) refl;
  }

pub vendor_tpdo_configured : (device : AsMade) (c : Clean) → IsWithin c
    → IsConfiguredAsMade device (tpdo_object c.message.tpdo) c.identifier c.mapping (vendor_tpdo_writes device c)
unfolding vendor_tpdo_writes
vendor_tpdo_configured device c within =
    let object : ℕ = tpdo_object c.message.tpdo in
    let id : c.identifier < 0x800 = within.identifier in
    let type : List Write = parameter_write device object 2 c.message.transmission in
    let inhibit : List Write = parameter_write device object 3 c.message.inhibit in
    let event : List Write = parameter_write device object 5 c.message.event in
    let start : List Write = parameter_write device object 6 c.start in
    pdo_configured device object c.identifier (no_rtr_bit + c.identifier) (type ++ inhibit ++ event ++ start) c.mapping
    (All-append (IsSetting device object) (type ++ inhibit ++ event) start
    (All-append (IsSetting device object) (type ++ inhibit) event
    (All-append (IsSetting device object) type inhibit (parameter_set device object 2 c.message.transmission refl)
    (parameter_set device object 3 c.message.inhibit refl)) (parameter_set device object 5 c.message.event refl))
    (parameter_set device object 6 c.start refl)) (omega arith) (omega arith)

pub vendor_rpdo_configured : (device : AsMade) (c : Clean) (k : Consumer) → IsWithin c
    → IsConfiguredAsMade device (rpdo_object k.rpdo) c.identifier k.mapping (vendor_rpdo_writes device c k)
unfolding vendor_rpdo_writes
vendor_rpdo_configured device c k within =
    let object : ℕ = rpdo_object k.rpdo in
    let id : c.identifier < 0x800 = within.identifier in
    let type : List Write = parameter_write device object 2 (taken_type c.message.transmission) in
    let event : List Write = if k.event == 0 then [] else parameter_write device object 5 k.event in
    pdo_configured device object c.identifier c.identifier (type ++ event) k.mapping
    (All-append (IsSetting device object) type event
    (parameter_set device object 2 (taken_type c.message.transmission) refl) (event_set device object k.event))
    (omega arith) (omega arith)

-- ---- a PDO that none uses

reads_back : (n : ℕ) → n < 4294967296 → little_number 4 (little_bytes 4 n) ≡ n
reads_back n lt = omega arith

off_of : (n : ℕ) → off_bit ≤ n → not (is_valid n) ≡ true
off_of n le = grind arith

below : (n : ℕ) → is_valid n ≡ true → n < off_bit
below n e = grind arith

pub turned_off : (device : AsMade) (object : ℕ) → (length (unused_writes device object) ≤ 1)
    × All (TurnsOff device object) (unused_writes device object)
unfolding unused_writes
turned_off device object =
    by (is_open device object && is_valid cob && allows device object 1 (off_bit + cob)) refl
  where
    cob : ℕ
    cob = parameter_default device object 1

    by : (b : Bool) → is_open device object && is_valid cob && allows device object 1 (off_bit + cob) ≡ b
        → let ws : List Write = if b then cob_write object (off_bit + cob) ∷ [] else []
        in (length ws ≤ 1) × All (TurnsOff device object) ws
    by true set =
        let lt : cob < off_bit = below cob (second_of _ _ (first_of _ _ set)) in
        let back : little_number 4 (little_bytes 4 (off_bit + cob)) ≡ off_bit + cob = reads_back (off_bit + cob) (omega (arith, lt)) in (
          omega arith,
          All-cons (TurnsOff device object) (cob_write object (off_bit + cob)) []
              (same_number object, ap (λ (n : ℕ). not (is_valid n)) back ∙ off_of (off_bit + cob) (omega arith), back)
              (All-nil (TurnsOff device object)),
        )
    by false set = (omega arith, All-nil (TurnsOff device object))
