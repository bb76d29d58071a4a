-- The order of the writes of a PDO.
use Rattle.std.proofs.Common.{◌≡◌, ℕ, ◌+◌, ◌%◌, ◌<◌, ◌≤◌, Bool, true, false, not, ◌&&◌, cond, List, [], ◌∷◌, ◌++◌}
use Rattle.std.proofs.Common.{length, filter, refl, sym, ap, subst, ◌∙◌, arith}
use Rattle.std.specs.Prelude.{◌==◌, if◌then◌else◌}
use Rattle.std.specs.Option.{option_map_or}
use Rattle.std.proofs.lemmas.List.Elements.{filter-append}
use Rattle.byteorder.specs.Endian.{little_bytes, little_number}
use Rattle.co_values.specs.declared.form.Width.TheVariants.{Bits8, Bits16}
use Rattle.cia301.specs.CobIds.{is_valid, no_rtr_bit, off_bit}
use Rattle.concise_dcf.specs.declared.write.Write.{Write}
use Rattle.eds_device.specs.Entries.{entry_at}
use Rattle.eds_device.specs.Sheets.{Sheet}
use Rattle.pdo_choices.specs.declared.clean.Clean.{Clean}
use Rattle.pdo_choices.specs.declared.consumer.Consumer.{Consumer}
use Rattle.pdo_stations.specs.declared.mapped.Mapped.{Mapped}
use Rattle.pdo_stations.specs.Devices.{takes_unsigned}
use Rattle.cia301.specs.PdoObjects.{mapping_object, rpdo_object, tpdo_object}
use Rattle.pdo_choices.specs.Limits.{IsWithin}
use Rattle.pdo_links.specs.Order.{is_to, to_object, AreBetween, IsConfigured, IsMapped, IsSwitched}
use Rattle.pdo_links.specs.PdoWrites.{write_at, cob_write, mapped_writes, mapping_writes, taken_type}
use Rattle.pdo_links.specs.Writes.{start_write, time_write}
use Rattle.pdo_links.specs.Writes.{tpdo_writes, rpdo_writes}

-- ---- lists

module _ (p : Write → Bool) (last : Write) (marks : p last ≡ true) where
  alone : filter p (last ∷ []) ≡ last ∷ []
  alone = ap (λ b. cond b (last ∷ []) []) marks

  none_first : (b : Bool) (x : Write) (xs : List Write) → cond b (x ∷ filter p xs) (filter p xs) ≡ []
      → (b ≡ false) × (filter p xs ≡ [])
  none_first true x xs e = cc
  none_first false x xs e = (refl, e)

  inner : (middle before after : List Write) (w : Write) → filter p middle ≡ []
      → middle ++ last ∷ [] ≡ before ++ w ∷ after → p w ≡ false
      → (filter p before ≡ []) × (filter p after ≡ last ∷ [])
  inner [] [] after w none split other = let same : last ≡ w = cc in let e : p w ≡ true = ap p (sym same) ∙ marks in cc
  inner [] (x ∷ []) after w none split other = cc
  inner [] (x ∷ y ∷ before) after w none split other = cc
  inner (m ∷ middle) [] after w none split other =
      let n : (p m ≡ false) × (filter p middle ≡ []) = none_first (p m) m middle none in
      let rest : middle ++ last ∷ [] ≡ after = cc in (
        refl,
        ap (filter p) (sym rest) ∙ filter-append p middle (last ∷ [])
            ∙ ap (λ (zs : List Write). zs ++ filter p (last ∷ [])) n.1 ∙ alone,
      )
  inner (m ∷ middle) (x ∷ before) after w none split other =
      let n : (p m ≡ false) × (filter p middle ≡ []) = none_first (p m) m middle none in
      let same : m ≡ x = cc in
      let rest : middle ++ last ∷ [] ≡ before ++ w ∷ after = cc in
      let r : (filter p before ≡ []) × (filter p after ≡ last ∷ []) = inner middle before after w n.1 rest other in
      let e : p x ≡ false = ap p (sym same) ∙ n.0 in
      (ap (λ b. cond b (x ∷ filter p before) (filter p before)) e ∙ r.0, r.1)

  pub between : (first : Write) (middle : List Write) → p first ≡ true → filter p middle ≡ []
      → AreBetween p first last (first ∷ (middle ++ last ∷ []))
  between first middle mark none [] after w split other = let same : first ≡ w = cc
      in let e : p w ≡ true = ap p (sym same) ∙ mark in cc
  between first middle mark none (x ∷ before) after w split other =
      let same : first ≡ x = cc in
      let rest : middle ++ last ∷ [] ≡ before ++ w ∷ after = cc in
      let r : (filter p before ≡ []) × (filter p after ≡ last ∷ []) = inner middle before after w none rest other in
      let e : p x ≡ true = ap p (sym same) ∙ mark in (
        ap (λ b. cond b (x ∷ filter p before) (filter p before)) e ∙ ap (λ (zs : List Write). x ∷ zs) r.0
            ∙ ap (λ (y : Write). y ∷ []) (sym same),
        r.1,
      )

pub append_none : (ws : List Write) → ws ++ [] ≡ ws
append_none [] = refl
append_none (w ∷ ws) = ap (λ (zs : List Write). w ∷ zs) (append_none ws)

-- ---- numbers

pub same_number : (n : ℕ) → (n == n) ≡ true
same_number n = grind arith

pub other_number : (m n : ℕ) → m < n → (n == m) ≡ false
other_number m n lt = grind arith

pub number_other : (m n : ℕ) → m < n → (m == n) ≡ false
number_other m n lt = grind arith

and_false : (b : Bool) → b && false ≡ false
and_false true = refl
and_false false = refl

reads_back : (n : ℕ) → n < 4294967296 → little_number 4 (little_bytes 4 n) ≡ n
reads_back n lt = omega arith

-- ---- writes to another object

module _ (object index : ℕ) (apart : (index == object) ≡ false) where
  no_entries : (first : ℕ) (mapping : List Mapped) → to_object object (mapped_writes index first mapping) ≡ []
  no_entries first [] = refl
  no_entries first (m ∷ ms) = rw apart (no_entries (first + 1) ms)

  no_mapping : (mapping : List Mapped) → to_object object (mapping_writes index mapping) ≡ []
  no_mapping mapping = rw (
    apart,
    filter-append (λ (w : Write). w.index == object) (mapped_writes index 1 mapping)
        (write_at index 0 (length mapping ∷ []) ∷ []),
    no_entries 1 mapping,
    apart,
  ) refl

  no_entry_cobs : (first : ℕ) (mapping : List Mapped) → filter (is_to object 1) (mapped_writes index first mapping) ≡ []
  no_entry_cobs first [] = refl
  no_entry_cobs first (m ∷ ms) = rw (apart, and_false (first == 1)) (no_entry_cobs (first + 1) ms)

  pub no_cobs : (mapping : List Mapped) → filter (is_to object 1) (mapping_writes index mapping) ≡ []
  no_cobs mapping = rw (
    filter-append (is_to object 1) (mapped_writes index 1 mapping)
        (write_at index 0 (length mapping ∷ []) ∷ []),
    no_entry_cobs 1 mapping,
  ) refl

  no_times : (sheet : Sheet) (node sub time : ℕ) → to_object object (time_write sheet node index sub time) ≡ []
  no_times sheet node sub time = by (option_map_or (takes_unsigned Bits16) (entry_at sheet node index sub) false)
    where
      by : (b : Bool) → let ws : List Write = if b then write_at index sub (little_bytes 2 time) ∷ [] else []
          in to_object object ws ≡ []
      by true = rw apart refl
      by false = refl

  no_start : (sheet : Sheet) (node start : ℕ) → to_object object (start_write sheet node index start) ≡ []
  no_start sheet node start = by (option_map_or (takes_unsigned Bits8) (entry_at sheet node index 6) false)
    where
      by : (b : Bool) → let ws : List Write = if b then write_at index 6 (start ∷ []) ∷ [] else []
          in to_object object ws ≡ []
      by true = rw apart refl
      by false = refl

-- ---- writes to the mapping object itself

module _ (object : ℕ) where
  all_entries : (first : ℕ) (mapping : List Mapped)
      → to_object object (mapped_writes object first mapping) ≡ mapped_writes object first mapping
  all_entries first [] = refl
  all_entries first (m ∷ ms) = rw (same_number object, all_entries (first + 1) ms) refl

  pub all_mapping : (mapping : List Mapped) → to_object object (mapping_writes object mapping)
      ≡ mapping_writes object mapping
  all_mapping mapping = rw (
    same_number object,
    filter-append (λ (w : Write). w.index == object)
        (mapped_writes object 1 mapping) (write_at object 0 (length mapping ∷ []) ∷ []),
    all_entries 1 mapping,
    same_number object,
  ) refl

  no_counts : (first : ℕ) (mapping : List Mapped) → 1 ≤ first
      → filter (is_to object 0) (mapped_writes object first mapping) ≡ []
  no_counts first [] low = refl
  no_counts first (m ∷ ms) low = rw (other_number 0 first low) (no_counts (first + 1) ms (omega arith))

  all_but_counts : (first : ℕ) (mapping : List Mapped) → 1 ≤ first
      → filter (λ w. not (is_to object 0 w)) (mapped_writes object first mapping) ≡ mapped_writes object first mapping
  all_but_counts first [] low = refl
  all_but_counts first (m ∷ ms) low = rw (other_number 0 first low, all_but_counts (first + 1) ms (omega arith)) refl

  counts_around : (mapping : List Mapped) → AreBetween (is_to object 0) (write_at object 0 (0 ∷ []))
      (write_at object 0 (length mapping ∷ [])) (mapping_writes object mapping)
  counts_around mapping = between (is_to object 0) (write_at object 0 (length mapping ∷ [])) (same_number object)
      (write_at object 0 (0 ∷ [])) (mapped_writes object 1 mapping) (same_number object)
      (no_counts 1 mapping (omega arith))

  entries_left : (mapping : List Mapped) → filter (λ w. not (is_to object 0 w)) (mapping_writes object mapping)
      ≡ mapped_writes object 1 mapping
  entries_left mapping = rw (
    same_number object,
    filter-append (λ (w : Write). not (is_to object 0 w))
        (mapped_writes object 1 mapping) (write_at object 0 (length mapping ∷ []) ∷ []),
    all_but_counts 1 mapping (omega arith),
    same_number object,
  ) (append_none (mapped_writes object 1 mapping))

-- ---- a PDO

module _ (object index : ℕ) (mapping_apart : (object == index) ≡ false) (apart : (index == object) ≡ false) where
  no_time_cobs : (sheet : Sheet) (node sub time : ℕ) → (sub == 1) ≡ false
      → filter (is_to object 1) (time_write sheet node object sub time) ≡ []
  no_time_cobs sheet node sub time other = by (option_map_or (takes_unsigned Bits16) (entry_at sheet node object sub) false)
    where
      by : (b : Bool) → let ws : List Write = if b then write_at object sub (little_bytes 2 time) ∷ [] else []
          in filter (is_to object 1) ws ≡ []
      by true = rw other refl
      by false = refl

  no_start_cobs : (sheet : Sheet) (node start : ℕ) → filter (is_to object 1) (start_write sheet node object start) ≡ []
  no_start_cobs sheet node start = by (option_map_or (takes_unsigned Bits8) (entry_at sheet node object 6) false)
    where
      by : (b : Bool) → let ws : List Write = if b then write_at object 6 (start ∷ []) ∷ [] else []
          in filter (is_to object 1) ws ≡ []
      by true = refl
      by false = refl

  -- the times and the SYNC start value of a TPDO
  abbrev timing : Sheet → ℕ → ℕ → ℕ → ℕ → List Write
  timing sheet node inhibit event start =
      time_write sheet node object 3 inhibit ++ time_write sheet node object 5 event ++ start_write sheet node object start

  no_timing : (sheet : Sheet) (node inhibit event start : ℕ)
      → to_object index (timing sheet node inhibit event start) ≡ []
  no_timing sheet node inhibit event start = rw (
    filter-append (λ (w : Write). w.index == index)
        (time_write sheet node object 3 inhibit ++ time_write sheet node object 5 event) (start_write sheet node object start),
    filter-append (λ (w : Write). w.index == index) (time_write sheet node object 3 inhibit)
        (time_write sheet node object 5 event),
    no_times index object mapping_apart sheet node 3 inhibit,
    no_times index object mapping_apart sheet node 5 event,
    no_start index object mapping_apart sheet node start,
  ) refl

  no_timing_cobs : (sheet : Sheet) (node inhibit event start : ℕ)
      → filter (is_to object 1) (timing sheet node inhibit event start) ≡ []
  no_timing_cobs sheet node inhibit event start = rw (
    filter-append (is_to object 1) (time_write sheet node object 3 inhibit ++ time_write sheet node object 5 event)
        (start_write sheet node object start),
    filter-append (is_to object 1) (time_write sheet node object 3 inhibit) (time_write sheet node object 5 event),
    no_time_cobs sheet node 3 inhibit refl,
    no_time_cobs sheet node 5 event refl,
    no_start_cobs sheet node start,
  ) refl

  -- the writes to the mapping object of a TPDO
  tpdo_mapping : (sheet : Sheet) (node off type inhibit event start on : ℕ) (mapping : List Mapped)
      → to_object index (cob_write object off ∷ write_at object 2 (type ∷ [])
      ∷ (timing sheet node inhibit event start ++ mapping_writes index mapping
      ++ cob_write object on ∷ [])) ≡ mapping_writes index mapping
  tpdo_mapping sheet node off type inhibit event start on mapping =
      rw (
        mapping_apart,
        filter-append (λ (w : Write). w.index == index)
            (timing sheet node inhibit event start ++ mapping_writes index mapping) (cob_write object on ∷ []),
        filter-append (λ (w : Write). w.index == index) (timing sheet node inhibit event start)
            (mapping_writes index mapping),
        no_timing sheet node inhibit event start,
        all_mapping index mapping,
        mapping_apart,
      )
      (append_none (mapping_writes index mapping))

  tpdo_meanwhile : (sheet : Sheet) (node off type inhibit event start on : ℕ) (mapping : List Mapped)
      → AreBetween (is_to object 1) (cob_write object off) (cob_write object on)
      (cob_write object off ∷ write_at object 2 (type ∷ [])
      ∷ (timing sheet node inhibit event start ++ mapping_writes index mapping ++ cob_write object on ∷ []))
  tpdo_meanwhile sheet node off type inhibit event start on mapping =
      between (is_to object 1) (cob_write object on) (same_number object) (cob_write object off)
      (write_at object 2 (type ∷ []) ∷ (timing sheet node inhibit event start ++ mapping_writes index mapping))
      (same_number object)
      (rw (
        filter-append (is_to object 1) (timing sheet node inhibit event start) (mapping_writes index mapping),
        no_timing_cobs sheet node inhibit event start,
        no_cobs object index apart mapping,
      ) refl)

  -- and of an RPDO
  rpdo_mapping : (off type on : ℕ) (mapping : List Mapped)
      → to_object index (cob_write object off ∷ write_at object 2 (type ∷ [])
      ∷ (mapping_writes index mapping ++ cob_write object on ∷ [])) ≡ mapping_writes index mapping
  rpdo_mapping off type on mapping =
      rw (
        mapping_apart,
        filter-append (λ (w : Write). w.index == index) (mapping_writes index mapping)
            (cob_write object on ∷ []),
        all_mapping index mapping,
        mapping_apart,
      )
      (append_none (mapping_writes index mapping))

  rpdo_meanwhile : (off type on : ℕ) (mapping : List Mapped)
      → AreBetween (is_to object 1) (cob_write object off) (cob_write object on)
      (cob_write object off ∷ write_at object 2 (type ∷ [])
      ∷ (mapping_writes index mapping ++ cob_write object on ∷ []))
  rpdo_meanwhile off type on mapping =
      between (is_to object 1) (cob_write object on) (same_number object) (cob_write object off)
      (write_at object 2 (type ∷ []) ∷ mapping_writes index mapping) (same_number object)
      (no_cobs object index apart mapping)

high : (n : ℕ) → off_bit ≤ n → not (is_valid n) ≡ true
high n le = grind arith

low : (n : ℕ) → n < off_bit → not (is_valid n) ≡ false
low n lt = grind arith

-- a PDO that is switched off and on so
pub switched : (object off on identifier : ℕ) (ws : List Write)
    → AreBetween (is_to object 1) (cob_write object off) (cob_write object on) ws
    → off_bit ≤ off → off < 4294967296 → on < off_bit → on % 0x800 ≡ identifier → IsSwitched object identifier ws
switched object off on identifier ws meanwhile is_high fits is_low rest = record {
  off = cob_write object off;
  on = cob_write object on;
  meanwhile = meanwhile;
  is_switched_off = ap (λ (n : ℕ). not (is_valid n)) (reads_back off fits) ∙ high off is_high;
  is_switched_on = ap (λ (n : ℕ). not (is_valid n)) (reads_back on (omega arith)) ∙ low on is_low;
  has_identifier = ap (λ (n : ℕ). n % 0x800) (reads_back on (omega arith)) ∙ rest;
}

-- and mapped so
pub mapped_so : (object : ℕ) (mapping : List Mapped) (ws : List Write)
    → to_object (mapping_object object) ws ≡ mapping_writes (mapping_object object) mapping
    → IsMapped object mapping ws
mapped_so object mapping ws maps = record {
  counted = subst (AreBetween (is_to (mapping_object object) 0) (write_at (mapping_object object) 0 (0 ∷ []))
      (write_at (mapping_object object) 0 (length mapping ∷ []))) (sym maps) (counts_around (mapping_object object) mapping);
  entries = ap (filter (λ w. not (is_to (mapping_object object) 0 w))) maps ∙ entries_left (mapping_object object) mapping;
}

configured : (object off on identifier : ℕ) (mapping : List Mapped) (ws : List Write)
    → AreBetween (is_to object 1) (cob_write object off) (cob_write object on) ws
    → off_bit ≤ off → off < 4294967296 → on < off_bit → on % 0x800 ≡ identifier
    → to_object (mapping_object object) ws ≡ mapping_writes (mapping_object object) mapping
    → IsConfigured object identifier mapping ws
configured object off on identifier mapping ws meanwhile is_high fits is_low rest maps =
    (switched object off on identifier ws meanwhile is_high fits is_low rest, mapped_so object mapping ws maps)

pub tpdo_configured : (sheet : Sheet) (node : ℕ) (c : Clean) → IsWithin c
    → IsConfigured (tpdo_object c.message.tpdo) c.identifier c.mapping (tpdo_writes sheet node c)
unfolding tpdo_writes
tpdo_configured sheet node c within =
    let object : ℕ = tpdo_object c.message.tpdo in
    let id : c.identifier < 0x800 = within.identifier in
    let before : (object == mapping_object object) ≡ false = number_other object (mapping_object object) (omega arith) in
    let behind : (mapping_object object == object) ≡ false = other_number object (mapping_object object) (omega arith) in
    configured object (off_bit + (no_rtr_bit + c.identifier))
    (no_rtr_bit + c.identifier) c.identifier c.mapping (tpdo_writes sheet node c)
    (tpdo_meanwhile object (mapping_object object) before behind sheet node (off_bit + (no_rtr_bit + c.identifier))
    c.message.transmission c.message.inhibit c.message.event c.start (no_rtr_bit + c.identifier) c.mapping)
    (omega arith) (omega arith) (omega arith) (omega arith)
    (tpdo_mapping object (mapping_object object) before behind sheet node (off_bit + (no_rtr_bit + c.identifier))
    c.message.transmission c.message.inhibit c.message.event c.start (no_rtr_bit + c.identifier) c.mapping)

pub rpdo_configured : (c : Clean) (k : Consumer) → IsWithin c
    → IsConfigured (rpdo_object k.rpdo) c.identifier k.mapping (rpdo_writes c k)
unfolding rpdo_writes
rpdo_configured c k within =
    let object : ℕ = rpdo_object k.rpdo in
    let id : c.identifier < 0x800 = within.identifier in
    let before : (object == mapping_object object) ≡ false = number_other object (mapping_object object) (omega arith) in
    let behind : (mapping_object object == object) ≡ false = other_number object (mapping_object object) (omega arith) in
    configured object (off_bit + c.identifier) c.identifier c.identifier k.mapping (rpdo_writes c k)
    (rpdo_meanwhile object (mapping_object object) before behind (off_bit + c.identifier)
    (taken_type c.message.transmission) c.identifier k.mapping)
    (omega arith) (omega arith) (omega arith) (omega arith)
    (rpdo_mapping object (mapping_object object) before behind (off_bit + c.identifier)
    (taken_type c.message.transmission) c.identifier k.mapping)
