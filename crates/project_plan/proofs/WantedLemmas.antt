-- What is wanted of a node is as among all its values.
use Rattle.std.proofs.Common.{◌≡◌, ◌⊎◌, inl, inr, ℕ, zero, suc, ◌+◌, ◌-◌, ◌<◌, ◌≤◌, Bool, true, false, ◌&&◌, ◌||◌, cond}
use Rattle.std.proofs.Common.{List, [], ◌∷◌, ◌++◌, length, All, Option, Some, None, refl, sym, ap, subst, ◌∙◌, arith}
use Rattle.std.specs.Prelude.{◌==◌, if◌then◌else◌, filter_map, option_map, option_and_then}
use Rattle.std.specs.BTreeMap.{is_at}
use Rattle.std.specs.FinMap.{get, get-insert, insert}
use Rattle.std.specs.List.{cons_option, flat_map, range_with_len}
use Rattle.std.specs.Map.{lookup}
use Rattle.std.specs.Option.{option_map_or, option_or}
use Rattle.std.specs.Ordering.{nat_cmp, eq_by_cmp}
use Rattle.std.specs.Cmp.{eq_by_cmp_equiv}
use Rattle.std.proofs.lemmas.Bool.{cases_eq, eqb-true}
use Rattle.std.proofs.lemmas.List.Elements.{All-append, All-cons, All-head, All-nil, All-tail}
use Rattle.std.proofs.lemmas.Map.Lookups.{exact_unsigned}
use Rattle.std.proofs.lemmas.Map.Views.{tells_apart}
use Rattle.byteorder.specs.Endian.{little_bytes, little_number}
use Rattle.base.specs.Ranges.{is_between}
use Rattle.cia301.specs.CobIds.{no_rtr_bit, off_bit}
use Rattle.co_values.specs.declared.form.Width.{Width}
use Rattle.co_values.specs.Types.{octets}
use Rattle.concise_dcf.specs.declared.write.Write.{Write}
use Rattle.co_dict.specs.Places.{place_cmp}
use Rattle.co_dict.specs.Values.{Values}
use Rattle.co_dict.proofs.PlaceLemmas.{places_total}
use Rattle.node_parameters.specs.Params.{Texts}
use Rattle.node_parameters.specs.Parameters.{parameter_writes, write_to}
use Rattle.concise_dcf.specs.Writes.{place_of}
use Rattle.eds_device.specs.Described.{kind_at}
use Rattle.eds_device.specs.Entries.{default_at, defaults_of}
use Rattle.eds_device.specs.Places.{pairs_of}
use Rattle.eds_device.proofs.MapLemmas.{get_given}
use Rattle.eds_device.specs.Sheets.{Sheet}
use Rattle.eds_places.proofs.PlaceLemmas.{alike, has_place}
use Rattle.pdo_stations.specs.declared.mapped.Mapped.{Mapped}
use Rattle.pdo_stations.specs.Devices.{is_unsigned}
use Rattle.cia301.specs.PdoObjects.{is_communication_object, is_of_tpdos, mapping_object, rpdo_object, tpdo_object}
use Rattle.pdo_choices.specs.declared.clean.Clean.{Clean}
use Rattle.pdo_choices.specs.declared.consumer.Consumer.{Consumer}
use Rattle.pdo_plan.specs.declared.planned_message.PlannedMessage.{PlannedMessage}
use Rattle.pdo_plan.specs.Mapping.{mapped_bytes}
use Rattle.pdo_plan.specs.Plan.{clean, clean_of}
use Rattle.pdo_links.specs.PdoWrites.{cob_write, mapped_writes, mapping_writes}
use Rattle.pdo_links.specs.Writes.{at_number, by_number, link_writes, set_link_writes, node_writes}
use Rattle.pdo_links.specs.PdoWrites.{rpdo_of, taken_type, tpdo_of, write_at}
use Rattle.pdo_links.specs.Writes.{rpdo_writes, start_write, time_write, tpdo_writes}
use Rattle.pdo_links.proofs.Numbered.{Sends, Takes, sends, takes}
use Rattle.project_plan.specs.Values.{after_writes, number_among}
use Rattle.project_plan.specs.Wanted.{cob_id_of, is_wanted, parameter_value, value_given, values_given, wanted_value}
use Rattle.project_plan.specs.Wanted.{with_tpdo, with_tpdos}
use Rattle.project_plan.proofs.WrittenLemmas.{same_after, written-append}

-- ---- places

-- places of other indices are others
untied : (q p : ℕ × ℕ) → (p.0 ≡ q.0 → ⊥) → eq_by_cmp place_cmp q p ≡ false
untied q p apart = by (eq_by_cmp place_cmp q p) refl
  where
    by : (b : Bool) → eq_by_cmp place_cmp q p ≡ b → b ≡ false
    by true is = absurd (apart (ap (λ (x : ℕ × ℕ). x.0) (sym (alike q p is))))
    by false is = refl

itself : (q : ℕ × ℕ) → eq_by_cmp place_cmp q q ≡ true
itself q = (eq_by_cmp_equiv places_total).refl q

-- ---- writes to other objects

-- no write is to this object
abbrev pub IsApart : ℕ → List Write → Type 0
IsApart index ws = All (λ w. w.index ≡ index → ⊥) ws

-- they leave its values alone
pub left_alone : (values : Values) (q : ℕ × ℕ) (ws : List Write) → IsApart q.0 ws
    → get (after_writes values ws) q ≡ get values q
left_alone values q [] apart = refl
left_alone values q (w ∷ ws) apart =
    left_alone (insert values (place_of w) w.bytes) q ws (All-tail (λ (w : Write). w.index ≡ q.0 → ⊥) w ws apart)
    ∙ get-insert places_total values (place_of w) w.bytes q
    ∙ ap (λ (b : Bool). cond b (Some w.bytes) (get values q))
    (untied q (place_of w) (All-head (λ (w : Write). w.index ≡ q.0 → ⊥) w ws apart))

module _ (index object : ℕ) (apart : object ≡ index → ⊥) where
  abbrev Other : Write → Type 0
  Other w = w.index ≡ index → ⊥

  entries_apart : (first : ℕ) (mapping : List Mapped) → IsApart index (mapped_writes object first mapping)
  entries_apart first [] = All-nil Other
  entries_apart first (m ∷ ms) = All-cons Other (write_at object first (mapped_bytes m))
      (mapped_writes object (first + 1) ms) apart (entries_apart (first + 1) ms)

  one_apart : (sub : ℕ) (bytes : List ℕ) → IsApart index (write_at object sub bytes ∷ [])
  one_apart sub bytes = All-cons Other (write_at object sub bytes) [] apart (All-nil Other)

  if_apart : (b : Bool) (sub : ℕ) (bytes : List ℕ) → IsApart index (if b then write_at object sub bytes ∷ [] else [])
  if_apart true sub bytes = one_apart sub bytes
  if_apart false sub bytes = All-nil Other

  mapping_apart : (mapping : List Mapped) → IsApart index (mapping_writes object mapping)
  mapping_apart mapping = All-cons Other (write_at object 0 (0 ∷ []))
      (mapped_writes object 1 mapping ++ write_at object 0 (length mapping ∷ []) ∷ []) apart
      (All-append Other (mapped_writes object 1 mapping) (write_at object 0 (length mapping ∷ []) ∷ [])
      (entries_apart 1 mapping) (one_apart 0 (length mapping ∷ [])))

tpdo_apart : (index : ℕ) (sheet : Sheet) (node : ℕ) (c : Clean) → (tpdo_object c.message.tpdo ≡ index → ⊥)
    → (mapping_object (tpdo_object c.message.tpdo) ≡ index → ⊥) → IsApart index (tpdo_writes sheet node c)
unfolding tpdo_writes
tpdo_apart index sheet node c apart mapping =
    All-cons P (cob_write object (off_bit + (no_rtr_bit + c.identifier))) (write_at object 2 (c.message.transmission ∷ []) ∷ (four ++ on)) apart
    (All-cons P (write_at object 2 (c.message.transmission ∷ [])) (four ++ on) apart
    (All-append P four on
    (All-append P three maps
    (All-append P two (start_write sheet node object c.start)
    (All-append P (time_write sheet node object 3 c.message.inhibit) (time_write sheet node object 5 c.message.event)
    (if_apart index object apart _ 3 (little_bytes 2 c.message.inhibit))
    (if_apart index object apart _ 5 (little_bytes 2 c.message.event)))
    (if_apart index object apart _ 6 (c.start ∷ [])))
    (mapping_apart index (mapping_object object) mapping c.mapping))
    (one_apart index object apart 1 (cob_id_of c))))
  where
    object : ℕ
    object = tpdo_object c.message.tpdo

    P : Write → Type 0
    P w = w.index ≡ index → ⊥

    two : List Write
    two = time_write sheet node object 3 c.message.inhibit ++ time_write sheet node object 5 c.message.event

    three : List Write
    three = two ++ start_write sheet node object c.start

    maps : List Write
    maps = mapping_writes (mapping_object object) c.mapping

    four : List Write
    four = three ++ maps

    on : List Write
    on = write_at object 1 (cob_id_of c) ∷ []

rpdo_apart : (index : ℕ) (c : Clean) (k : Consumer) → (rpdo_object k.rpdo ≡ index → ⊥)
    → (mapping_object (rpdo_object k.rpdo) ≡ index → ⊥) → IsApart index (rpdo_writes c k)
unfolding rpdo_writes
rpdo_apart index c k apart mapping =
    All-cons P (cob_write object (off_bit + c.identifier)) (kind ∷ (maps ++ on)) apart
    (All-cons P kind (maps ++ on) apart
    (All-append P maps on
    (mapping_apart index (mapping_object object) mapping k.mapping)
    (one_apart index object apart 1 (little_bytes 4 c.identifier))))
  where
    object : ℕ
    object = rpdo_object k.rpdo

    P : Write → Type 0
    P w = w.index ≡ index → ⊥

    kind : Write
    kind = write_at object 2 (taken_type c.message.transmission ∷ [])

    maps : List Write
    maps = mapping_writes (mapping_object object) k.mapping

    on : List Write
    on = cob_write object c.identifier ∷ []

-- what is written last stays
on_last : (values : Values) (off type on : Write) (between : List Write)
    → get (after_writes values (off ∷ type ∷ (between ++ on ∷ []))) (place_of on) ≡ Some on.bytes
on_last values off type on between =
    let begun : Values = insert (insert values (place_of off) off.bytes) (place_of type) type.bytes in
    ap (λ (m : Values). get m (place_of on)) (written-append begun between (on ∷ []))
    ∙ get-insert places_total (after_writes begun between) (place_of on) on.bytes (place_of on)
    ∙ ap (λ (b : Bool). cond b (Some on.bytes) (get (after_writes begun between) (place_of on))) (itself (place_of on))

-- as the COB-ID of a TPDO does
switched_on : (values : Values) (sheet : Sheet) (node : ℕ) (c : Clean)
    → get (after_writes values (tpdo_writes sheet node c)) (tpdo_object c.message.tpdo, 1) ≡ Some (cob_id_of c)
unfolding tpdo_writes
switched_on values sheet node c =
    let object : ℕ = tpdo_object c.message.tpdo in
    on_last values (cob_write object (off_bit + (no_rtr_bit + c.identifier)))
    (write_at object 2 (c.message.transmission ∷ [])) (write_at object 1 (cob_id_of c))
    (time_write sheet node object 3 c.message.inhibit ++ time_write sheet node object 5 c.message.event
    ++ start_write sheet node object c.start ++ mapping_writes (mapping_object object) c.mapping)

-- ---- by number

module _ {Y : Type 0} (f : Y → List Write) (pdos : List (ℕ × Y)) (q : ℕ × ℕ) where
  abbrev behind : ℕ → ℕ → List Write
  behind first n = flat_map (at_number f pdos) (range_with_len first n)

  -- numbers whose PDOs write to other objects
  range_apart : (first n : ℕ) → ((k : ℕ) → first ≤ k → k < first + n → IsApart q.0 (at_number f pdos k))
      → (values : Values) → get (after_writes values (behind first n)) q ≡ get values q
  range_apart first zero apart values = refl
  range_apart first (suc n) apart values =
      ap (λ (m : Values). get m q) (written-append values (at_number f pdos first) (behind (first + 1) n))
      ∙ range_apart (first + 1) n (λ k low high. apart k (omega arith) (omega arith))
      (after_writes values (at_number f pdos first))
      ∙ left_alone values q (at_number f pdos first) (apart first (omega arith) (omega arith))

  -- all of them but one
  range_one : (number first n : ℕ) → first ≤ number → number < first + n
      → ((k : ℕ) → first ≤ k → k < first + n → (k ≡ number → ⊥) → IsApart q.0 (at_number f pdos k))
      → (values : Values)
      → get (after_writes values (behind first n)) q ≡ get (after_writes values (at_number f pdos number)) q
  range_one number first zero low high apart values = absurd (omega arith)
  range_one number first (suc n) low high apart values =
      ap (λ (m : Values). get m q) (written-append values (at_number f pdos first) (behind (first + 1) n))
      ∙ by (cases_eq first number) (λ low. range_one number (first + 1) n low (omega arith)
      (λ k low high. apart k (omega arith) (omega arith)) (after_writes values (at_number f pdos first)))
    where
      begun : Values
      begun = after_writes values (at_number f pdos first)

      after : (a b : ℕ) → a + 1 ≤ b → b ≡ a → ⊥
      after a b le is = absurd (omega (arith, is))

      before : (a b : ℕ) → a ≤ b → (a ≡ b → ⊥) → a + 1 ≤ b
      before a b le other = omega (arith, other)

      by : (first ≡ number) ⊎ (first ≡ number → ⊥)
          → (first + 1 ≤ number → get (after_writes begun (behind (first + 1) n)) q
          ≡ get (after_writes begun (at_number f pdos number)) q)
          → get (after_writes begun (behind (first + 1) n)) q ≡ get (after_writes values (at_number f pdos number)) q
      by (inl same) rest =
          range_apart (first + 1) n (λ k low high. apart k (omega arith) (omega arith)
          (λ is. after first k low (is ∙ sym same))) begun
          ∙ ap (λ (k : ℕ). get (after_writes values (at_number f pdos k)) q) same
      by (inr other) rest = rest (before first number low other)
          ∙ same_after begun values (at_number f pdos number) q
          (left_alone values q (at_number f pdos first) (apart first (omega arith) (omega arith) other))

-- ---- the TPDOs of a node

module _ (sheet : Sheet) (node : ℕ) (cs : List Clean) where
  abbrev sent : List (ℕ × Clean)
  sent = filter_map (tpdo_of node) cs

  -- the TPDO of a number writes to its own two objects
  number_apart : (index k : ℕ) → (tpdo_object k ≡ index → ⊥) → (mapping_object (tpdo_object k) ≡ index → ⊥)
      → IsApart index (at_number (tpdo_writes sheet node) sent k)
  number_apart index k apart mapping = by (lookup (is_at (nat_cmp k)) sent) refl
    where
      by : (o : Option Clean) → lookup (is_at (nat_cmp k)) sent ≡ o
          → IsApart index (option_map_or (tpdo_writes sheet node) o [])
      by None is = All-nil (λ (w : Write). w.index ≡ index → ⊥)
      by (Some c) is =
          let s : Sends cs node k c = sends cs node k c is in
          tpdo_apart index sheet node c (λ e. apart (ap tpdo_object (sym s.numbered) ∙ e))
          (λ e. mapping (ap (λ (n : ℕ). mapping_object (tpdo_object n)) (sym s.numbered) ∙ e))

  -- its COB-ID is the last thing that it writes there
  number_sets : (values : Values) (n : ℕ) → get (after_writes values (at_number (tpdo_writes sheet node) sent n))
      (tpdo_object n, 1)
      ≡ option_map_or (λ c. Some (cob_id_of c)) (lookup (is_at (nat_cmp n)) sent) (get values (tpdo_object n, 1))
  number_sets values n = by (lookup (is_at (nat_cmp n)) sent) refl
    where
      by : (o : Option Clean) → lookup (is_at (nat_cmp n)) sent ≡ o
          → get (after_writes values (option_map_or (tpdo_writes sheet node) o [])) (tpdo_object n, 1)
          ≡ option_map_or (λ c. Some (cob_id_of c)) o (get values (tpdo_object n, 1))
      by None is = refl
      by (Some c) is =
          let s : Sends cs node n c = sends cs node n c is in
          subst (λ (k : ℕ). get (after_writes values (tpdo_writes sheet node c)) (tpdo_object k, 1) ≡ Some (cob_id_of c))
          s.numbered (switched_on values sheet node c)

  -- what the writes of all TPDOs leave at a COB-ID
  sent_set : (values : Values) (n : ℕ) → 1 ≤ n → n ≤ 512
      → get (after_writes values (by_number (tpdo_writes sheet node) sent)) (tpdo_object n, 1)
      ≡ option_map_or (λ c. Some (cob_id_of c)) (lookup (is_at (nat_cmp n)) sent) (get values (tpdo_object n, 1))
  unfolding by_number
  sent_set values n low high =
      range_one (tpdo_writes sheet node) sent (tpdo_object n, 1) n 1 512 low (omega arith)
      (λ k above below other. number_apart (tpdo_object n) k (λ e. other (same k n e))
      (λ e. absurd (further k n above high e))) values
      ∙ number_sets values n
    where
      same : (k n : ℕ) → tpdo_object k ≡ tpdo_object n → k ≡ n
      same k n e = omega (arith, e)

      further : (k n : ℕ) → 1 ≤ k → n ≤ 512 → mapping_object (tpdo_object k) ≡ tpdo_object n → ⊥
      further k n low high e = absurd (omega (arith, e))

  -- and in the objects before all PDOs
  sent_apart : (values : Values) (q : ℕ × ℕ) → q.0 < 0x1100
      → get (after_writes values (by_number (tpdo_writes sheet node) sent)) q ≡ get values q
  unfolding by_number
  sent_apart values q low = range_apart (tpdo_writes sheet node) sent q 1 512
      (λ k above below. number_apart q.0 k (λ e. absurd (over k q.0 low e)) (λ e. absurd (far_over k q.0 low e))) values
    where
      over : (k index : ℕ) → index < 0x1100 → tpdo_object k ≡ index → ⊥
      over k index low e = absurd (omega (arith, e))

      far_over : (k index : ℕ) → index < 0x1100 → mapping_object (tpdo_object k) ≡ index → ⊥
      far_over k index low e = absurd (omega (arith, e))

-- ---- the RPDOs of a node

module _ (node : ℕ) (cs : List Clean) where
  abbrev taken : List (ℕ × (Clean × Consumer))
  taken = filter_map (rpdo_of node) cs

  abbrev taken_writes : Clean × Consumer → List Write
  taken_writes t = rpdo_writes t.0 t.1

  taken_at : (index k : ℕ) → (rpdo_object k ≡ index → ⊥) → (mapping_object (rpdo_object k) ≡ index → ⊥)
      → IsApart index (at_number taken_writes taken k)
  taken_at index k apart mapping = by (lookup (is_at (nat_cmp k)) taken) refl
    where
      by : (o : Option (Clean × Consumer)) → lookup (is_at (nat_cmp k)) taken ≡ o
          → IsApart index (option_map_or taken_writes o [])
      by None is = All-nil (λ (w : Write). w.index ≡ index → ⊥)
      by (Some t) is =
          let s : Takes cs node k t = takes cs node k t is in
          rpdo_apart index t.0 t.1 (λ e. apart (ap rpdo_object (sym s.numbered) ∙ e))
          (λ e. mapping (ap (λ (n : ℕ). mapping_object (rpdo_object n)) (sym s.numbered) ∙ e))

  -- they leave the objects of TPDOs alone, and those before all PDOs
  taken_apart : (values : Values) (q : ℕ × ℕ) → (q.0 < 0x1100) ⊎ (0x1800 ≤ q.0)
      → get (after_writes values (by_number (λ t. rpdo_writes t.0 t.1) taken)) q ≡ get values q
  unfolding by_number
  taken_apart values q where_to = range_apart taken_writes taken q 1 512
      (λ k above below. taken_at q.0 k (λ e. own k q.0 above below where_to e) (λ e. mapped k q.0 above below where_to e))
      values
    where
      own : (k index : ℕ) → 1 ≤ k → k < 1 + 512 → (index < 0x1100) ⊎ (0x1800 ≤ index) → rpdo_object k ≡ index → ⊥
      own k index above below (inl low) e = absurd (omega (arith, e))
      own k index above below (inr high) e = absurd (omega (arith, e))

      mapped : (k index : ℕ) → 1 ≤ k → k < 1 + 512 → (index < 0x1100) ⊎ (0x1800 ≤ index)
          → mapping_object (rpdo_object k) ≡ index → ⊥
      mapped k index above below (inl low) e = absurd (omega (arith, e))
      mapped k index above below (inr high) e = absurd (omega (arith, e))

-- ---- the COB-IDs alone

-- numbers of TPDOs
numbered : (k : ℕ) → is_between 1 512 k ≡ true → (1 ≤ k) × (k ≤ 512)
numbered k test = grind arith

unnumbered : (k n : ℕ) → is_between 1 512 k ≡ false → 1 ≤ n → n ≤ 512 → n ≡ k → ⊥
unnumbered k n test low high e = absurd (grind arith)

module _ (values : Values) (node : ℕ) where
  cob_ids_set : (n : ℕ) → 1 ≤ n → n ≤ 512 → (plan : List PlannedMessage)
      → get (with_tpdos values node plan) (tpdo_object n, 1)
      ≡ option_map_or (λ c. Some (cob_id_of c)) (lookup (is_at (nat_cmp n)) (filter_map (tpdo_of node) (clean plan)))
      (get values (tpdo_object n, 1))
  cob_ids_set n low high [] = refl
  cob_ids_set n low high (m ∷ ms) = by (clean_of m.outcome) (cob_ids_set n low high ms)
    where
      q : ℕ × ℕ
      q = (tpdo_object n, 1)

      rest : Values
      rest = with_tpdos values node ms

      others : List (ℕ × Clean)
      others = filter_map (tpdo_of node) (clean ms)

      set : Clean → Option (List ℕ)
      set c = Some (cob_id_of c)

      Set : Option (List ℕ) → List (ℕ × Clean) → Type 0
      Set now tpdos = now ≡ option_map_or set (lookup (is_at (nat_cmp n)) tpdos) (get values q)

      tied : (k : ℕ) (t : Bool) → is_at (nat_cmp n) k ≡ t → eq_by_cmp place_cmp q (tpdo_object k, 1) ≡ t
      tied k true is = let e : n ≡ k = tells_apart exact_unsigned n k is
          in subst (λ (j : ℕ). eq_by_cmp place_cmp q (tpdo_object j, 1) ≡ true) e (itself q)
      tied k false is = untied q (tpdo_object k, 1) (λ e. apart k is e)
        where
          apart : (k : ℕ) → is_at (nat_cmp n) k ≡ false → tpdo_object k ≡ tpdo_object n → ⊥
          apart k is e = let same : n ≡ k = omega (arith, e)
              in let there : is_at (nat_cmp n) n ≡ false = subst (λ (j : ℕ). is_at (nat_cmp n) j ≡ false) (sym same) is
              in absurd (grind arith)

      other : (k : ℕ) (t : Bool) → is_between 1 512 k ≡ false → is_at (nat_cmp n) k ≡ t → t ≡ false
      other k true test is = absurd (unnumbered k n test low high (tells_apart exact_unsigned n k is))
      other k false test is = refl

      of_number : (k : ℕ) (d : Clean) (b : Bool) → is_between 1 512 k ≡ b → Set (get rest q) others
          → Set (get (if b then insert rest (tpdo_object k, 1) (cob_id_of d) else rest) q) ((k, d) ∷ others)
      of_number k d true test ih = get-insert places_total rest (tpdo_object k, 1) (cob_id_of d) q
          ∙ ap (λ (b : Bool). cond b (Some (cob_id_of d)) (get rest q)) (tied k (is_at (nat_cmp n) k) refl)
          ∙ picked (is_at (nat_cmp n) k)
        where
          picked : (t : Bool) → cond t (Some (cob_id_of d)) (get rest q)
              ≡ option_map_or set (cond t (Some d) (lookup (is_at (nat_cmp n)) others)) (get values q)
          picked true = refl
          picked false = ih
      of_number k d false test ih = ih ∙ sym (ap (λ (t : Bool). option_map_or set (cond t (Some d)
          (lookup (is_at (nat_cmp n)) others)) (get values q)) (other k (is_at (nat_cmp n) k) test refl))

      of_tpdo : (o : Option (ℕ × Clean)) → Set (get rest q) others
          → Set (get (option_map_or (with_tpdo rest) o rest) q) (cons_option o others)
      of_tpdo None ih = ih
      of_tpdo (Some (k, d)) ih = of_number k d (is_between 1 512 k) refl ih

      by : (o : Option Clean) → Set (get rest q) others
          → Set (get (option_map_or (with_tpdo rest) (option_and_then (tpdo_of node) o) rest) q)
          (filter_map (tpdo_of node) (cons_option o (clean ms)))
      by None ih = ih
      by (Some c) ih = of_tpdo (tpdo_of node c) ih

  cob_ids_apart : (q : ℕ × ℕ) → q.0 < 0x1100 → (plan : List PlannedMessage)
      → get (with_tpdos values node plan) q ≡ get values q
  cob_ids_apart q low [] = refl
  cob_ids_apart q low (m ∷ ms) = by (option_and_then (tpdo_of node) (clean_of m.outcome)) (cob_ids_apart q low ms)
    where
      rest : Values
      rest = with_tpdos values node ms

      over : (k : ℕ) → tpdo_object k ≡ q.0 → ⊥
      over k e = absurd (omega (arith, e))

      of_number : (k : ℕ) (d : Clean) (b : Bool) → get rest q ≡ get values q
          → get (if b then insert rest (tpdo_object k, 1) (cob_id_of d) else rest) q ≡ get values q
      of_number k d true ih = get-insert places_total rest (tpdo_object k, 1) (cob_id_of d) q
          ∙ ap (λ (b : Bool). cond b (Some (cob_id_of d)) (get rest q)) (untied q (tpdo_object k, 1) (over k)) ∙ ih
      of_number k d false ih = ih

      by : (o : Option (ℕ × Clean)) → get rest q ≡ get values q
          → get (option_map_or (with_tpdo rest) o rest) q ≡ get values q
      by None ih = ih
      by (Some (k, d)) ih = of_number k d (is_between 1 512 k) ih

-- ---- parameters

module _ (v : ℕ × ℕ → Option (List ℕ)) where
  abbrev write_given : ℕ × ℕ → Option Write
  write_given place = option_map (write_to place) (v place)

  settled : (a : Bool) (o g : Option (List ℕ)) (bytes : List ℕ) → o ≡ Some bytes
      → (if a then option_or o (Some bytes) else Some bytes) ≡ option_or o g
  settled true None g bytes is = cc
  settled true (Some given) g bytes is = refl
  settled false None g bytes is = cc
  settled false (Some given) g bytes is = sym is

  unsaid : (a : Bool) (o g : Option (List ℕ)) → o ≡ None → (if a then option_or o g else g) ≡ option_or o g
  unsaid true o g is = refl
  unsaid false None g is = refl
  unsaid false (Some given) g is = cc

  -- what the writes of what is given to places leave at one of them
  given_over : (values : Values) (q : ℕ × ℕ) (ps : List (ℕ × ℕ))
      → get (after_writes values (filter_map write_given ps)) q
      ≡ (if has_place q ps then option_or (v q) (get values q) else get values q)
  given_over values q [] = refl
  given_over values q (p ∷ ps) = by (v p) refl (is_at (place_cmp q) p) refl (λ m. given_over m q ps)
    where
      more : List ℕ → Values
      more bytes = insert values p bytes

      chosen : Option (List ℕ) → Option (List ℕ)
      chosen now = if has_place q ps then option_or (v q) now else now

      by : (o : Option (List ℕ)) → v p ≡ o → (t : Bool) → is_at (place_cmp q) p ≡ t
          → ((m : Values) → get (after_writes m (filter_map write_given ps)) q
          ≡ (if has_place q ps then option_or (v q) (get m q) else get m q))
          → get (after_writes values (cons_option (option_map (write_to p) o) (filter_map write_given ps))) q
          ≡ (if t || has_place q ps then option_or (v q) (get values q) else get values q)
      by None is false at rest = rest values
      by None is true at rest = rest values
          ∙ unsaid (has_place q ps) (v q) (get values q) (ap v (alike q p at) ∙ is)
      by (Some bytes) is false at rest = rest (more bytes)
          ∙ ap chosen (get-insert places_total values p bytes q
          ∙ ap (λ (b : Bool). cond b (Some bytes) (get values q)) at)
      by (Some bytes) is true at rest = rest (more bytes)
          ∙ ap chosen (get-insert places_total values p bytes q
          ∙ ap (λ (b : Bool). cond b (Some bytes) (get values q)) at)
          ∙ settled (has_place q ps) (v q) (get values q) bytes (ap v (alike q p at) ∙ is)

-- ---- what is given

module _ (params : Texts) (sheet : Sheet) (node : ℕ) where
  -- the defaults, and over them the writes of the parameters
  abbrev pub set_up : Values
  set_up = after_writes (defaults_of sheet node) (parameter_writes sheet params node)

  pub given_is : (q : ℕ × ℕ) → is_wanted q ≡ true → get (values_given sheet params node) q ≡ get set_up q
  unfolding values_given defaults_of parameter_writes
  given_is q wanted =
      get_given (wanted_value sheet params node) (pairs_of sheet.sections) q
      ∙ ap (λ (b : Bool). if has_place q (pairs_of sheet.sections) then (if b then value_given sheet params node q else None) else None)
      wanted
      ∙ by (has_place q (pairs_of sheet.sections)) (get (defaults_of sheet node) q)
      (get_given (λ p. default_at sheet node p.0 p.1) (pairs_of sheet.sections) q)
      ∙ sym (given_over (parameter_value sheet params node) (defaults_of sheet node) q (pairs_of sheet.sections))
    where
      by : (a : Bool) (d : Option (List ℕ)) → d ≡ (if a then default_at sheet node q.0 q.1 else None)
          → (if a then option_or (parameter_value sheet params node q) (default_at sheet node q.0 q.1) else None)
          ≡ (if a then option_or (parameter_value sheet params node q) d else d)
      by true d is = ap (option_or (parameter_value sheet params node q)) (sym is)
      by false d is = sym is

-- ---- all writes

module _ (plan : List PlannedMessage) (params : Texts) (sheet : Sheet) (node : ℕ) where
  abbrev pub whole : Values
  whole = after_writes (defaults_of sheet node) (node_writes false plan params sheet node)

  abbrev pub wanted : Values
  wanted = with_tpdos (values_given sheet params node) node plan

  abbrev tpdos : List Write
  tpdos = by_number (tpdo_writes sheet node) (filter_map (tpdo_of node) (clean plan))

  abbrev rpdos : List Write
  rpdos = by_number (λ t. rpdo_writes t.0 t.1) (filter_map (rpdo_of node) (clean plan))

  in_turn : whole ≡ after_writes (after_writes (set_up params sheet node) tpdos) rpdos
  unfolding node_writes set_link_writes
  in_turn = written-append (defaults_of sheet node) (parameter_writes sheet params node) (tpdos ++ rpdos)
      ∙ written-append (set_up params sheet node) tpdos rpdos

  without_rpdos : (q : ℕ × ℕ) → (q.0 < 0x1100) ⊎ (0x1800 ≤ q.0)
      → get whole q ≡ get (after_writes (set_up params sheet node) tpdos) q
  without_rpdos q where_to = ap (λ (m : Values). get m q) in_turn
      ∙ taken_apart node (clean plan) (after_writes (set_up params sheet node) tpdos) q where_to

  before_pdos : (q : ℕ × ℕ) → is_wanted q ≡ true → q.0 < 0x1100 → get wanted q ≡ get whole q
  before_pdos q is low =
      cob_ids_apart (values_given sheet params node) node q low plan ∙ given_is params sheet node q is
      ∙ sym (without_rpdos q (inl low) ∙ sent_apart sheet node (clean plan) (set_up params sheet node) q low)

  of_tpdos : (n : ℕ) → 1 ≤ n → n ≤ 512 → is_wanted (tpdo_object n, 1) ≡ true
      → get wanted (tpdo_object n, 1) ≡ get whole (tpdo_object n, 1)
  of_tpdos n low high is =
      let q : ℕ × ℕ = (tpdo_object n, 1) in
      cob_ids_set (values_given sheet params node) node n low high plan
      ∙ ap (option_map_or (λ c. Some (cob_id_of c)) (lookup (is_at (nat_cmp n)) (filter_map (tpdo_of node) (clean plan))))
      (given_is params sheet node q is)
      ∙ sym (without_rpdos q (inr (omega arith)) ∙ sent_set sheet node (clean plan) (set_up params sheet node) n low high)

  wanted_is : (index sub : ℕ) → is_wanted (index, sub) ≡ true → get wanted (index, sub) ≡ get whole (index, sub)
  wanted_is index sub is = by of_object refl (sub == 1) refl
    where
      of_object : Bool
      of_object = is_of_tpdos index && is_communication_object index

      number : (a : ℕ) → (is_of_tpdos a && is_communication_object a) ≡ true
          → (1 ≤ a - 0x17FF) × ((a - 0x17FF ≤ 512) × (tpdo_object (a - 0x17FF) ≡ a))
      number a test = let low : 0x1800 ≤ a = grind arith in let high : a ≤ 0x19FF = grind arith
          in (omega arith, (omega arith, omega arith))

      low_one : (a : ℕ) (b t : Bool) → b && t ≡ false
          → (b && t) || (is_between 0x1016 0x1017 a || a == 0x1019) ≡ true → a < 0x1100
      low_one a true true none is = cc
      low_one a true false none is = grind arith
      low_one a false t none is = grind arith

      low_by : (b t : Bool) → of_object ≡ b → (sub == 1) ≡ t → b && t ≡ false → index < 0x1100
      low_by b t at of_sub none = low_one index of_object (sub == 1)
          (ap (λ (x : Bool). x && (sub == 1)) at ∙ ap (λ (x : Bool). b && x) of_sub ∙ none) is

      by : (b : Bool) → of_object ≡ b → (t : Bool) → (sub == 1) ≡ t
          → get wanted (index, sub) ≡ get whole (index, sub)
      by true at true of_sub =
          let n : (1 ≤ index - 0x17FF) × ((index - 0x17FF ≤ 512) × (tpdo_object (index - 0x17FF) ≡ index)) =
          number index at in
          let one : sub ≡ 1 = eqb-true sub 1 of_sub in
          let here : ◌≡◌ {A = ℕ × ℕ} (tpdo_object (index - 0x17FF), 1) (index, sub) = λ i. (n.1.1 i, sym one i) in
          subst (λ (q : ℕ × ℕ). get wanted q ≡ get whole q) here
          (of_tpdos (index - 0x17FF) n.0 n.1.0 (subst (λ (q : ℕ × ℕ). is_wanted q ≡ true) (sym here) is))
      by true at false of_sub = before_pdos (index, sub) is (low_by true false at of_sub refl)
      by false at t of_sub = before_pdos (index, sub) is (low_by false t at of_sub refl)

  -- a number is among what is wanted as it is among all
  pub number_wanted : (width : Width) (place : ℕ × ℕ) → is_wanted place ≡ true
      → number_among sheet wanted width place ≡ number_among sheet whole width place
  number_wanted width place is =
      ap (λ (o : Option (List ℕ)). if is_unsigned (kind_at sheet place) width
      then option_map (little_number (octets width)) o else None)
      (wanted_is place.0 place.1 is)
