-- Each write of a node has data of the length of its entry's type.
use Rattle.std.proofs.Common.{◌≡◌, ◌≤◌, ◌∙◌, ⊎_elim, ℕ, zero, suc, ◌+◌, Bool, true, false, ◌&&◌, cond, List, [], ◌∷◌, ◌++◌, length, All}
use Rattle.std.proofs.Common.{Contains, Option, Some, None, refl, sym, ap, subst, filter_map}
use Rattle.std.specs.Prelude.{◌==◌, ◌||◌, not, if◌then◌else◌, MatchOption, option_and_then}
use Rattle.std.specs.List.{list_all, range_with_len}
use Rattle.std.specs.Option.{option_map_or, unwrap_or}
use Rattle.std.proofs.lemmas.Bool.{eq-eqb}
use Rattle.std.proofs.lemmas.List.Elements.{All-append, All-cons, All-contains, All-contains_itself, All-nil, All-weaker}
use Rattle.std.proofs.lemmas.Option.{same_Some}
use Rattle.byteorder.specs.Endian.{little_bytes}
use Rattle.cia301.specs.CobIds.{is_valid, no_rtr_bit, off_bit}
use Rattle.cia301.specs.PdoObjects.{mapping_object, rpdo_object, tpdo_object}
use Rattle.co_dict.specs.Accesses.{is_writable}
use Rattle.co_dict.specs.Values.{HasLength}
use Rattle.co_dict.specs.declared.entry.Entry.{Entry}
use Rattle.co_values.specs.Types.{form, is_modelled, len_of_form, octets}
use Rattle.co_values.specs.Values.{longest_value, value, zero_value}
use Rattle.co_values.specs.declared.form.Form.{Form}
use Rattle.co_values.specs.declared.form.Width.{Width}
use Rattle.co_values.specs.declared.form.Width.TheVariants.{Bits8, Bits16, Bits24, Bits32, Bits40, Bits48, Bits56, Bits64}
use Rattle.concise_dcf.specs.declared.write.Write.{Write}
use Rattle.eds_device.specs.Entries.{entry_at}
use Rattle.eds_device.specs.Sheets.{Sheet}
use Rattle.eds_device.proofs.LawLemmas.{shape_at}
use Rattle.eds_device.proofs.LengthLemmas.{written_length}
use Rattle.node_parameters.specs.Params.{Texts}
use Rattle.node_parameters.specs.Parameters.{parameter_writes}
use Rattle.node_parameters.proofs.JudgedLemmas.{judged_entry}
use Rattle.node_parameters.proofs.ParameterLemmas.{nothing_else}
use Rattle.pdo_choices.specs.declared.clean.Clean.{Clean}
use Rattle.pdo_choices.specs.declared.consumer.Consumer.{Consumer}
use Rattle.pdo_plan.specs.Mapping.{mapped_bytes}
use Rattle.pdo_plan.specs.Plan.{clean, HasPdo, IsMadeFor}
use Rattle.pdo_plan.specs.declared.planned_message.PlannedMessage.{PlannedMessage}
use Rattle.pdo_stations.specs.Devices.{as_made, devices_of, has_mapping, has_unsigned, is_unsigned, takes_unsigned}
use Rattle.pdo_stations.specs.declared.mapped.Mapped.{Mapped}
use Rattle.pdo_stations.proofs.UnsignedLemmas.{unsigned_form}
use Rattle.vendor_pdos.specs.Mappings.{writes_mapping}
use Rattle.vendor_pdos.specs.Parameters.{can_be_set, is_open, parameter_default, parameter_width, takes_at}
use Rattle.pdo_links.specs.Order.{IsOfSent, IsOfTaken}
use Rattle.pdo_links.specs.PdoWrites.{cob_write, mapped_writes, mapping_writes, rpdo_of, taken_type, tpdo_of, write_at}
use Rattle.pdo_links.specs.VendorWrites.{allows, configured, each_by_number, parameter_write, pdo_writes, unused_writes}
use Rattle.pdo_links.specs.VendorWrites.{vendor_link_writes, vendor_rpdo_writes, vendor_tpdo_writes}
use Rattle.pdo_links.specs.Writes.{by_number, link_writes, node_writes, rpdo_writes, set_link_writes, start_write}
use Rattle.pdo_links.specs.Writes.{time_write, tpdo_writes}
use Rattle.pdo_links.proofs.Values.{first_of, second_of}
use Rattle.pdo_links.proofs.WhoseLemmas.{of_either, of_rpdos, of_tpdos}
use Rattle.pdo_links.proofs.WhoseVendor.{of_numbers, OfOther, OfUsed}

abbrev HasLengthIn : Form → List ℕ → Type 0
HasLengthIn f bytes = MatchOption (len_of_form f) (length bytes ≤ longest_value) (λ n. length bytes ≡ n)

both_true : (a b : Bool) → a ≡ true → b ≡ true → a && b ≡ true
both_true true b h k = k
both_true false b h k = h

module _ (sheet : Sheet) (node : ℕ) where
  -- a write has data of the length of its entry's type
  abbrev pub FitsEntry : Write → Type 0
  FitsEntry w = (entry : Entry) → entry_at sheet node w.index w.sub ≡ Some entry → is_modelled entry.kind ≡ true
      → HasLength entry.kind w.bytes

  abbrev AreLong : List Write → Type 0
  AreLong ws = All FitsEntry ws

  none : AreLong []
  none = All-nil FitsEntry

  one : (w : Write) (ws : List Write) → FitsEntry w → AreLong ws → AreLong (w ∷ ws)
  one w ws is rest = All-cons FitsEntry w ws is rest

  both : (xs ys : List Write) → AreLong xs → AreLong ys → AreLong (xs ++ ys)
  both xs ys a b = All-append FitsEntry xs ys a b

  -- a write, or none
  one_if : (b : Bool) (w : Write) → (b ≡ true → FitsEntry w) → (let ws : List Write = if b then w ∷ [] else [] in AreLong ws)
  one_if true w is = one w [] (is refl) none
  one_if false w is = none

  -- ---- a number

  abbrev takes : Width → ℕ × ℕ → Bool
  takes width place = option_map_or (takes_unsigned width) (entry_at sheet node place.0 place.1) false

  number : (index sub : ℕ) (width : Width) (bytes : List ℕ) → takes width (index, sub) ≡ true → length bytes ≡ octets width
      → FitsEntry (write_at index sub bytes)
  number index sub width bytes test long = λ entry there modelled.
      let taken : takes_unsigned width entry ≡ true =
      sym (ap (λ (o : Option Entry). option_map_or (takes_unsigned width) o false) there) ∙ test in
      let unsigned : is_unsigned entry.kind width ≡ true =
      first_of (is_unsigned entry.kind width) (is_writable entry.access) taken in
      subst (λ (f : Form). HasLengthIn f bytes) (sym (unsigned_form entry.kind width unsigned)) long

  -- ---- a mapping

  mapped : (object first : ℕ) (mapping : List Mapped)
      → list_all (λ sub. takes Bits32 (object, sub)) (range_with_len first (length mapping)) ≡ true
      → AreLong (mapped_writes object first mapping)
  mapped object first [] test = none
  mapped object first (m ∷ ms) test =
      one (write_at object first (mapped_bytes m)) (mapped_writes object (first + 1) ms)
      (number object first Bits32 (mapped_bytes m) (first_of _ _ test) refl)
      (mapped object (first + 1) ms (second_of _ _ test))

  whole_mapping : (object : ℕ) (mapping : List Mapped) → takes Bits8 (object, 0) ≡ true
      → list_all (λ sub. takes Bits32 (object, sub)) (range_with_len 1 (length mapping)) ≡ true
      → AreLong (mapping_writes object mapping)
  whole_mapping object mapping count entries =
      let last : List Write = write_at object 0 (length mapping ∷ []) ∷ [] in
      one (write_at object 0 (0 ∷ [])) (mapped_writes object 1 mapping ++ last)
      (number object 0 Bits8 (0 ∷ []) count refl)
      (both (mapped_writes object 1 mapping) last (mapped object 1 mapping entries)
      (one (write_at object 0 (length mapping ∷ [])) [] (number object 0 Bits8 (length mapping ∷ []) count refl) none))

  -- ---- the PDOs of versions 1 and 2

  has : (width : Width) (place : ℕ × ℕ)
      → has_unsigned (devices_of false None ((node, sheet) ∷ [])) node width place ≡ true → takes width place ≡ true
  has width place test = by (node == node) (eq-eqb node node refl) test
    where
      by : (b : Bool) → b ≡ true → option_map_or (takes_unsigned width)
          (option_and_then (λ (s : Sheet). entry_at s node place.0 place.1) (cond b (Some sheet) None)) false ≡ true
          → takes width place ≡ true
      by true is e = e
      by false is e = cc

  has_numbers : (object first n : ℕ)
      → list_all (λ sub. has_unsigned (devices_of false None ((node, sheet) ∷ [])) node Bits32 (object, sub))
      (range_with_len first n) ≡ true
      → list_all (λ sub. takes Bits32 (object, sub)) (range_with_len first n) ≡ true
  has_numbers object first zero test = refl
  has_numbers object first (suc n) test =
      both_true (takes Bits32 (object, first)) _ (has Bits32 (object, first) (first_of _ _ test))
      (has_numbers object (first + 1) n (second_of _ _ test))

  has_room : (object : ℕ) (mapping : List Mapped)
      → has_mapping (devices_of false None ((node, sheet) ∷ [])) node object (length mapping) ≡ true
      → AreLong (mapping_writes object mapping)
  unfolding has_mapping
  has_room object mapping test =
      whole_mapping object mapping (has Bits8 (object, 0) (first_of _ _ test))
      (has_numbers object 1 (length mapping) (second_of _ _ test))

  module _ (object count : ℕ) (there : HasPdo sheet node object count) where
    cob_there : takes Bits32 (object, 1) ≡ true
    cob_there = has Bits32 (object, 1) (first_of _ _ (first_of _ _ there))

    type_there : takes Bits8 (object, 2) ≡ true
    type_there = has Bits8 (object, 2) (second_of _ _ (first_of _ _ there))

  tpdo : (c : Clean) → HasPdo sheet node (tpdo_object c.message.tpdo) (length c.mapping) → AreLong (tpdo_writes sheet node c)
  unfolding tpdo_writes
  tpdo c there =
      let object : ℕ = tpdo_object c.message.tpdo in
      let cob : takes Bits32 (object, 1) ≡ true = cob_there object (length c.mapping) there in
      let inhibit : List Write = time_write sheet node object 3 c.message.inhibit in
      let event : List Write = time_write sheet node object 5 c.message.event in
      let start : List Write = start_write sheet node object c.start in
      let mapping : List Write = mapping_writes (mapping_object object) c.mapping in
      let on : List Write = cob_write object (no_rtr_bit + c.identifier) ∷ [] in
      one (cob_write object (off_bit + (no_rtr_bit + c.identifier)))
      (write_at object 2 (c.message.transmission ∷ []) ∷ (inhibit ++ event ++ start ++ mapping ++ on))
      (number object 1 Bits32 (little_bytes 4 (off_bit + (no_rtr_bit + c.identifier))) cob refl)
      (one (write_at object 2 (c.message.transmission ∷ [])) (inhibit ++ event ++ start ++ mapping ++ on)
      (number object 2 Bits8 (c.message.transmission ∷ []) (type_there object (length c.mapping) there) refl)
      (both (inhibit ++ event ++ start ++ mapping) on
      (both (inhibit ++ event ++ start) mapping
      (both (inhibit ++ event) start
      (both inhibit event
      (one_if (takes Bits16 (object, 3)) (write_at object 3 (little_bytes 2 c.message.inhibit))
      (λ is. number object 3 Bits16 (little_bytes 2 c.message.inhibit) is refl))
      (one_if (takes Bits16 (object, 5)) (write_at object 5 (little_bytes 2 c.message.event))
      (λ is. number object 5 Bits16 (little_bytes 2 c.message.event) is refl)))
      (one_if (takes Bits8 (object, 6)) (write_at object 6 (c.start ∷ []))
      (λ is. number object 6 Bits8 (c.start ∷ []) is refl)))
      (has_room (mapping_object object) c.mapping (second_of _ _ there)))
      (one (cob_write object (no_rtr_bit + c.identifier)) []
      (number object 1 Bits32 (little_bytes 4 (no_rtr_bit + c.identifier)) cob refl) none)))

  rpdo : (c : Clean) (k : Consumer) → HasPdo sheet node (rpdo_object k.rpdo) (length k.mapping) → AreLong (rpdo_writes c k)
  unfolding rpdo_writes
  rpdo c k there =
      let object : ℕ = rpdo_object k.rpdo in
      let cob : takes Bits32 (object, 1) ≡ true = cob_there object (length k.mapping) there in
      let type : List ℕ = taken_type c.message.transmission ∷ [] in
      let mapping : List Write = mapping_writes (mapping_object object) k.mapping in
      let on : List Write = cob_write object c.identifier ∷ [] in
      one (cob_write object (off_bit + c.identifier)) (write_at object 2 type ∷ (mapping ++ on))
      (number object 1 Bits32 (little_bytes 4 (off_bit + c.identifier)) cob refl)
      (one (write_at object 2 type) (mapping ++ on)
      (number object 2 Bits8 type (type_there object (length k.mapping) there) refl)
      (both mapping on (has_room (mapping_object object) k.mapping (second_of _ _ there))
      (one (cob_write object c.identifier) [] (number object 1 Bits32 (little_bytes 4 c.identifier) cob refl) none)))

  module _ (plan : List PlannedMessage) (made : IsMadeFor plan sheet node) where
    of_sent : (w : Write) → IsOfSent (clean plan) sheet node w → FitsEntry w
    of_sent w of =
        All-contains FitsEntry (tpdo_writes sheet node of.0) w (tpdo of.0 ((made of.0 of.1).0 of.2)) of.3

    of_taken : (w : Write) → IsOfTaken (clean plan) node w → FitsEntry w
    of_taken w of =
        All-contains FitsEntry (rpdo_writes of.0 of.2.0) w
        (rpdo of.0 of.2.0 ((made of.0 of.1).1 of.2.0 of.2.1 of.2.2)) of.2.3

    set_link : (w : Write) → Contains (set_link_writes plan sheet node) w → FitsEntry w
    unfolding set_link_writes
    set_link w there =
        ⊎_elim (λ there. of_sent w (of_tpdos (clean plan) sheet node w there))
        (λ there. of_taken w (of_rpdos (clean plan) node w there))
        (of_either (by_number (tpdo_writes sheet node) (filter_map (tpdo_of node) (clean plan)))
        (by_number (λ (t : Clean × Consumer). rpdo_writes t.0 t.1) (filter_map (rpdo_of node) (clean plan))) w there)

  -- ---- those of version 3

  made_takes : (width : Width) (place : ℕ × ℕ) → takes_at (as_made sheet node) width place ≡ true
      → takes width place ≡ true
  made_takes width (index, sub) test =
      ap (λ (o : Option Entry). option_map_or (takes_unsigned width) o false) (sym (shape_at sheet node index sub)) ∙ test

  made_numbers : (object first n : ℕ)
      → list_all (λ sub. takes_at (as_made sheet node) Bits32 (object, sub)) (range_with_len first n) ≡ true
      → list_all (λ sub. takes Bits32 (object, sub)) (range_with_len first n) ≡ true
  made_numbers object first zero test = refl
  made_numbers object first (suc n) test =
      both_true (takes Bits32 (object, first)) _ (made_takes Bits32 (object, first) (first_of _ _ test))
      (made_numbers object (first + 1) n (second_of _ _ test))

  width_long : (width : Width) (n : ℕ) → length (little_bytes (octets width) n) ≡ octets width
  width_long Bits8 n = refl
  width_long Bits16 n = refl
  width_long Bits24 n = refl
  width_long Bits32 n = refl
  width_long Bits40 n = refl
  width_long Bits48 n = refl
  width_long Bits56 n = refl
  width_long Bits64 n = refl

  parameter : (object sub n : ℕ) → AreLong (parameter_write (as_made sheet node) object sub n)
  parameter object sub n =
      one_if (can_be_set (as_made sheet node) object sub && (sub == 2 || not (n == 0) || allows (as_made sheet node) object sub 0))
      (write_at object sub (little_bytes (octets (parameter_width sub)) n))
      (λ set. number object sub (parameter_width sub) (little_bytes (octets (parameter_width sub)) n)
      (made_takes (parameter_width sub) (object, sub) (first_of _ _ (first_of _ _ set)))
      (width_long (parameter_width sub) n))

  cob : (object n : ℕ) → is_open (as_made sheet node) object ≡ true → FitsEntry (cob_write object n)
  cob object n open_one = number object 1 Bits32 (little_bytes 4 n) (made_takes Bits32 (object, 1) open_one) refl

  items : (object : ℕ) (mapping : List Mapped)
      → (let ws : List Write = if writes_mapping (as_made sheet node) object (length mapping)
      then mapping_writes (mapping_object object) mapping else [] in AreLong ws)
  unfolding writes_mapping
  items object mapping = by (writes_mapping (as_made sheet node) object (length mapping)) refl
    where
      by : (b : Bool) → writes_mapping (as_made sheet node) object (length mapping) ≡ b
          → (let ws : List Write = if b then mapping_writes (mapping_object object) mapping else [] in AreLong ws)
      by true written =
          whole_mapping (mapping_object object) mapping
          (made_takes Bits8 (mapping_object object, 0) (second_of _ _ (first_of _ _ written)))
          (made_numbers (mapping_object object) 1 (length mapping) (second_of _ _ written))
      by false written = none

  pdo : (object n : ℕ) (settings : List Write) (mapping : List Mapped) → AreLong settings
      → AreLong (pdo_writes (as_made sheet node) object n settings mapping)
  unfolding pdo_writes
  pdo object n settings mapping set = by (is_open (as_made sheet node) object) refl
    where
      mapped_items : List Write
      mapped_items = if writes_mapping (as_made sheet node) object (length mapping)
          then mapping_writes (mapping_object object) mapping else []

      by : (b : Bool) → is_open (as_made sheet node) object ≡ b
          → (let ws : List Write = if b then configured object n settings mapped_items else settings in AreLong ws)
      by true open_one =
          one (cob_write object (off_bit + n)) (settings ++ mapped_items ++ cob_write object n ∷ [])
          (cob object (off_bit + n) open_one)
          (both (settings ++ mapped_items) (cob_write object n ∷ []) (both settings mapped_items set (items object mapping))
          (one (cob_write object n) [] (cob object n open_one) none))
      by false open_one = set

  vendor_tpdo : (c : Clean) → AreLong (vendor_tpdo_writes (as_made sheet node) c)
  unfolding vendor_tpdo_writes
  vendor_tpdo c =
      let object : ℕ = tpdo_object c.message.tpdo in
      let type : List Write = parameter_write (as_made sheet node) object 2 c.message.transmission in
      let inhibit : List Write = parameter_write (as_made sheet node) object 3 c.message.inhibit in
      let event : List Write = parameter_write (as_made sheet node) object 5 c.message.event in
      let start : List Write = parameter_write (as_made sheet node) object 6 c.start in
      pdo object (no_rtr_bit + c.identifier) (type ++ inhibit ++ event ++ start) c.mapping
      (both (type ++ inhibit ++ event) start
      (both (type ++ inhibit) event
      (both type inhibit (parameter object 2 c.message.transmission) (parameter object 3 c.message.inhibit))
      (parameter object 5 c.message.event))
      (parameter object 6 c.start))

  event_or_none : (object n : ℕ)
      → (let ws : List Write = if n == 0 then [] else parameter_write (as_made sheet node) object 5 n in AreLong ws)
  event_or_none object n = by (n == 0)
    where
      by : (b : Bool)
          → (let ws : List Write = if b then [] else parameter_write (as_made sheet node) object 5 n in AreLong ws)
      by true = none
      by false = parameter object 5 n

  vendor_rpdo : (c : Clean) (k : Consumer) → AreLong (vendor_rpdo_writes (as_made sheet node) c k)
  unfolding vendor_rpdo_writes
  vendor_rpdo c k =
      let object : ℕ = rpdo_object k.rpdo in
      let type : List Write = parameter_write (as_made sheet node) object 2 (taken_type c.message.transmission) in
      let event : List Write = if k.event == 0 then [] else parameter_write (as_made sheet node) object 5 k.event in
      pdo object c.identifier (type ++ event) k.mapping
      (both type event (parameter object 2 (taken_type c.message.transmission)) (event_or_none object k.event))

  unused : (object : ℕ) → AreLong (unused_writes (as_made sheet node) object)
  unfolding unused_writes
  unused object =
      one_if (is_open (as_made sheet node) object && is_valid (parameter_default (as_made sheet node) object 1)
      && allows (as_made sheet node) object 1 (off_bit + parameter_default (as_made sheet node) object 1))
      (cob_write object (off_bit + parameter_default (as_made sheet node) object 1))
      (λ set. cob object (off_bit + parameter_default (as_made sheet node) object 1) (first_of _ _ (first_of _ _ set)))

  each_number : {Y : Type 0} (used : Y → List Write) (others : ℕ → List Write) (pdos : List (ℕ × Y))
      → ((y : Y) → AreLong (used y)) → ((n : ℕ) → AreLong (others n))
      → (w : Write) → Contains (each_by_number used others pdos) w → FitsEntry w
  each_number used others pdos are fit w there =
      ⊎_elim (λ (u : OfUsed used others pdos w). All-contains FitsEntry (used u.1.0) w (are u.1.0) u.1.2)
      (λ (o : OfOther used others pdos w). All-contains FitsEntry (others o.0) w (fit o.0) o.2.1)
      (of_numbers used others pdos w there)

  vendor_link : (plan : List PlannedMessage) (w : Write) → Contains (vendor_link_writes plan (as_made sheet node) node) w
      → FitsEntry w
  unfolding vendor_link_writes
  vendor_link plan w there =
      let tpdos : List (ℕ × Clean) = filter_map (tpdo_of node) (clean plan) in
      let rpdos : List (ℕ × (Clean × Consumer)) = filter_map (rpdo_of node) (clean plan) in
      let off_tpdo : ℕ → List Write = λ n. unused_writes (as_made sheet node) (tpdo_object n) in
      let off_rpdo : ℕ → List Write = λ n. unused_writes (as_made sheet node) (rpdo_object n) in
      let sent : Clean → List Write = vendor_tpdo_writes (as_made sheet node) in
      let taken : Clean × Consumer → List Write = λ t. vendor_rpdo_writes (as_made sheet node) t.0 t.1 in
      ⊎_elim (each_number sent off_tpdo tpdos vendor_tpdo (λ n. unused (tpdo_object n)) w)
      (each_number taken off_rpdo rpdos (λ t. vendor_rpdo t.0 t.1) (λ n. unused (rpdo_object n)) w)
      (of_either (each_by_number sent off_tpdo tpdos) (each_by_number taken off_rpdo rpdos) w there)

  -- ---- all of a node

  of_parameter : (params : Texts) (w : Write) → Contains (parameter_writes sheet params node) w → FitsEntry w
  of_parameter params w there =
      let behind = nothing_else sheet params node w there in
      let judged = judged_entry (entry_at sheet node w.index w.sub) behind.0 w.bytes node behind.2 in
      λ entry its modelled.
      let same : judged.0 ≡ entry = same_Some judged.0 entry (sym judged.1 ∙ its) in
      subst (λ (e : Entry). HasLength e.kind w.bytes) same
      (subst (HasLength judged.0.kind) (ap (λ o. unwrap_or o (zero_value judged.0.kind)) judged.2.spelled)
      (written_length judged.0.kind behind.0 node))

  of_link : (is : Bool) (plan : List PlannedMessage) → (is ≡ false → IsMadeFor plan sheet node) → (w : Write)
      → Contains (link_writes is plan sheet node) w → FitsEntry w
  of_link true plan made w there = vendor_link plan w there
  of_link false plan made w there = set_link plan (made refl) w there

  pub writes_have_lengths : (is : Bool) (plan : List PlannedMessage) (params : Texts)
      → (is ≡ false → IsMadeFor plan sheet node) → All FitsEntry (node_writes is plan params sheet node)
  unfolding node_writes
  writes_have_lengths is plan params made =
      All-weaker (Contains (node_writes is plan params sheet node)) FitsEntry
      (λ w there. ⊎_elim (of_parameter params w) (of_link is plan made w)
      (of_either (parameter_writes sheet params node) (link_writes is plan sheet node) w there))
      (node_writes is plan params sheet node) (All-contains_itself (node_writes is plan params sheet node))
