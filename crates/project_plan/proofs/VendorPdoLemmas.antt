-- In version 3 the writes of a node to one PDO are those of the message that it sends or takes by it.
use Rattle.std.proofs.Common.{◌≡◌, ◌∙◌, ℕ, zero, suc, ◌+◌, ◌<◌, ◌≤◌, Bool, true, false, ◌&&◌, List, [], ◌∷◌, ◌++◌, length, All}
use Rattle.std.proofs.Common.{Option, Some, None, filter, filter_map, refl, sym, ap, subst, arith}
use Rattle.std.specs.Prelude.{◌==◌, ◌||◌, not, if◌then◌else◌}
use Rattle.std.specs.BTreeMap.{is_at}
use Rattle.std.specs.FinMap.{get}
use Rattle.std.specs.List.{flat_map, range_with_len}
use Rattle.std.specs.Map.{lookup}
use Rattle.std.specs.Option.{option_map_or}
use Rattle.std.specs.Ordering.{nat_cmp}
use Rattle.std.proofs.lemmas.List.{append-nil}
use Rattle.std.proofs.lemmas.List.Elements.{All-append, All-cons, All-nil}
use Rattle.byteorder.specs.Endian.{little_bytes}
use Rattle.cia301.specs.PdoObjects.{is_of_pdos, mapping_object, rpdo_object, tpdo_object}
use Rattle.cia301.specs.CobIds.{is_valid, no_rtr_bit, off_bit}
use Rattle.co_values.specs.Types.{octets}
use Rattle.concise_dcf.specs.declared.write.Write.{Write}
use Rattle.node_parameters.specs.Params.{Texts}
use Rattle.node_parameters.specs.Parameters.{parameter_writes}
use Rattle.pdo_stations.specs.declared.as_made.AsMade.{AsMade}
use Rattle.pdo_stations.specs.declared.mapped.Mapped.{Mapped}
use Rattle.pdo_stations.specs.Devices.{as_made}
use Rattle.vendor_pdos.specs.Mappings.{writes_mapping}
use Rattle.vendor_pdos.specs.Parameters.{can_be_set, is_open, parameter_default, parameter_width}
use Rattle.pdo_choices.specs.declared.clean.Clean.{Clean}
use Rattle.pdo_choices.specs.declared.consumer.Consumer.{Consumer}
use Rattle.pdo_plan.specs.declared.planned_message.PlannedMessage.{PlannedMessage}
use Rattle.pdo_plan.specs.Plan.{clean}
use Rattle.pdo_choices.proofs.RangeLemmas.{between}
use Rattle.pdo_links.specs.Order.{IsSentAlone, IsTakenAlone}
use Rattle.pdo_links.specs.PdoWrites.{cob_write, mapping_writes, rpdo_of, taken_type, tpdo_of, write_at}
use Rattle.pdo_links.specs.VendorWrites.{allows, configured, each_by_number, parameter_write, pdo_writes, unused_writes}
use Rattle.pdo_links.specs.VendorWrites.{vendor_link_writes, vendor_rpdo_writes, vendor_tpdo_writes}
use Rattle.pdo_links.specs.Writes.{node_writes}
use Rattle.pdo_links.proofs.Numbered.{sends, takes}
use Rattle.pdo_links.proofs.WhoseLemmas.{sent_found, taken_found}
use Rattle.project_plan.specs.Pdos.{is_to_pdo, to_pdo}
use Rattle.project_plan.proofs.PdoLemmas.{IsApart, all_pass, apart, its_mapping, itself, mapping_all, no_parameters}
use Rattle.project_plan.proofs.PdoLemmas.{pdo_index}
use Rattle.project_plan.proofs.PdoLemmas.{none_of_numbers, none_pass, one_of_numbers, three}
use Rattle.eds_device.specs.Sheets.{Sheet}

-- ---- the objects of a PDO's writes

module _ (P : Write → Type 0) (device : AsMade) (object : ℕ)
    (each : (sub : ℕ) (bytes : List ℕ) → P (write_at object sub bytes)) where
  pub parameter_all : (sub number : ℕ) → All P (parameter_write device object sub number)
  parameter_all sub number =
      by (can_be_set device object sub && (sub == 2 || not (number == 0) || allows device object sub 0))
    where
      by : (b : Bool) → let ws : List Write = if b
          then write_at object sub (little_bytes (octets (parameter_width sub)) number) ∷ [] else [] in All P ws
      by true = All-cons P (write_at object sub (little_bytes (octets (parameter_width sub)) number)) []
          (each sub (little_bytes (octets (parameter_width sub)) number)) (All-nil P)
      by false = All-nil P

  pub unused_all : All P (unused_writes device object)
  unfolding unused_writes
  unused_all = by (is_open device object && is_valid (parameter_default device object 1)
      && allows device object 1 (off_bit + parameter_default device object 1))
    where
      by : (b : Bool) → let ws : List Write = if b
          then cob_write object (off_bit + parameter_default device object 1) ∷ [] else [] in All P ws
      by true = All-cons P (cob_write object (off_bit + parameter_default device object 1)) []
          (each 1 (little_bytes 4 (off_bit + parameter_default device object 1))) (All-nil P)
      by false = All-nil P

  module _ (mapped : (sub : ℕ) (bytes : List ℕ) → P (write_at (mapping_object object) sub bytes)) where
    items_all : (mapping : List Mapped) → (let ws : List Write = if writes_mapping device object (length mapping)
        then mapping_writes (mapping_object object) mapping else [] in All P ws)
    items_all mapping = by (writes_mapping device object (length mapping))
      where
        by : (b : Bool) → let ws : List Write = if b then mapping_writes (mapping_object object) mapping else []
            in All P ws
        by true = mapping_all P (mapping_object object) mapped mapping
        by false = All-nil P

    pub pdo_all : (cob : ℕ) (settings : List Write) (mapping : List Mapped) → All P settings
        → All P (pdo_writes device object cob settings mapping)
    unfolding pdo_writes
    pdo_all cob settings mapping set = by (is_open device object)
      where
        items : List Write
        items = if writes_mapping device object (length mapping) then mapping_writes (mapping_object object) mapping
            else []

        by : (b : Bool) → let ws : List Write = if b then configured object cob settings items else settings in All P ws
        by true = All-cons P (cob_write object (off_bit + cob)) (settings ++ items ++ cob_write object cob ∷ [])
            (each 1 (little_bytes 4 (off_bit + cob)))
            (All-append P (settings ++ items) (cob_write object cob ∷ [])
            (All-append P settings items set (items_all mapping))
            (All-cons P (cob_write object cob) [] (each 1 (little_bytes 4 cob)) (All-nil P)))
        by false = set

pub vendor_tpdo_all : (P : Write → Type 0) (device : AsMade) (c : Clean)
    → ((sub : ℕ) (bytes : List ℕ) → P (write_at (tpdo_object c.message.tpdo) sub bytes))
    → ((sub : ℕ) (bytes : List ℕ) → P (write_at (mapping_object (tpdo_object c.message.tpdo)) sub bytes))
    → All P (vendor_tpdo_writes device c)
unfolding vendor_tpdo_writes
vendor_tpdo_all P device c each mapped =
    let object : ℕ = tpdo_object c.message.tpdo in
    let kind : List Write = parameter_write device object 2 c.message.transmission in
    let inhibit : List Write = parameter_write device object 3 c.message.inhibit in
    let event : List Write = parameter_write device object 5 c.message.event in
    let start : List Write = parameter_write device object 6 c.start in
    pdo_all P device object each mapped (no_rtr_bit + c.identifier) (kind ++ inhibit ++ event ++ start) c.mapping
    (All-append P (kind ++ inhibit ++ event) start
    (All-append P (kind ++ inhibit) event
    (All-append P kind inhibit (parameter_all P device object each 2 c.message.transmission)
    (parameter_all P device object each 3 c.message.inhibit))
    (parameter_all P device object each 5 c.message.event))
    (parameter_all P device object each 6 c.start))

event_all : (P : Write → Type 0) (device : AsMade) (object event : ℕ)
    → ((sub : ℕ) (bytes : List ℕ) → P (write_at object sub bytes))
    → (let ws : List Write = if event == 0 then [] else parameter_write device object 5 event in All P ws)
event_all P device object event each = by (event == 0)
  where
    by : (b : Bool) → let ws : List Write = if b then [] else parameter_write device object 5 event in All P ws
    by true = All-nil P
    by false = parameter_all P device object each 5 event

pub vendor_rpdo_all : (P : Write → Type 0) (device : AsMade) (c : Clean) (k : Consumer)
    → ((sub : ℕ) (bytes : List ℕ) → P (write_at (rpdo_object k.rpdo) sub bytes))
    → ((sub : ℕ) (bytes : List ℕ) → P (write_at (mapping_object (rpdo_object k.rpdo)) sub bytes))
    → All P (vendor_rpdo_writes device c k)
unfolding vendor_rpdo_writes
vendor_rpdo_all P device c k each mapped =
    let object : ℕ = rpdo_object k.rpdo in
    let kind : List Write = parameter_write device object 2 (taken_type c.message.transmission) in
    let event : List Write = if k.event == 0 then [] else parameter_write device object 5 k.event in
    pdo_all P device object each mapped c.identifier (kind ++ event) k.mapping
    (All-append P kind event (parameter_all P device object each 2 (taken_type c.message.transmission))
    (event_all P device object k.event each))

-- ---- by number

module _ (cs : List Clean) (device : AsMade) (node object : ℕ) where
  abbrev pub sent : ℕ → List Write
  sent number = option_map_or (vendor_tpdo_writes device)
      (lookup (is_at (nat_cmp number)) (filter_map (tpdo_of node) cs)) (unused_writes device (tpdo_object number))

  abbrev pub taken : ℕ → List Write
  taken number = option_map_or (λ (t : Clean × Consumer). vendor_rpdo_writes device t.0 t.1)
      (lookup (is_at (nat_cmp number)) (filter_map (rpdo_of node) cs)) (unused_writes device (rpdo_object number))

  unused_outside : (own : ℕ) → IsApart object own → filter (is_to_pdo object) (unused_writes device own) ≡ []
  unused_outside own first = none_pass (is_to_pdo object) (unused_writes device own)
      (unused_all (λ w. is_to_pdo object w ≡ false) device own (λ sub bytes. first))

  sent_outside : (k : ℕ) → IsApart object (tpdo_object k) → IsApart object (mapping_object (tpdo_object k))
      → filter (is_to_pdo object) (sent k) ≡ []
  sent_outside k first second = by (lookup (is_at (nat_cmp k)) (filter_map (tpdo_of node) cs)) refl
    where
      by : (o : Option Clean) → lookup (is_at (nat_cmp k)) (filter_map (tpdo_of node) cs) ≡ o
          → filter (is_to_pdo object) (option_map_or (vendor_tpdo_writes device) o (unused_writes device (tpdo_object k)))
          ≡ []
      by None e = unused_outside (tpdo_object k) first
      by (Some c) e =
          let is : tpdo_object k ≡ tpdo_object c.message.tpdo = sym (ap tpdo_object (sends cs node k c e).numbered) in
          none_pass (is_to_pdo object) (vendor_tpdo_writes device c)
          (vendor_tpdo_all (λ w. is_to_pdo object w ≡ false) device c
          (λ sub bytes. subst (λ (o : ℕ). IsApart object o) is first)
          (λ sub bytes. subst (λ (o : ℕ). IsApart object (mapping_object o)) is second))

  taken_outside : (k : ℕ) → IsApart object (rpdo_object k) → IsApart object (mapping_object (rpdo_object k))
      → filter (is_to_pdo object) (taken k) ≡ []
  taken_outside k first second = by (lookup (is_at (nat_cmp k)) (filter_map (rpdo_of node) cs)) refl
    where
      by : (o : Option (Clean × Consumer)) → lookup (is_at (nat_cmp k)) (filter_map (rpdo_of node) cs) ≡ o
          → filter (is_to_pdo object) (option_map_or (λ (t : Clean × Consumer). vendor_rpdo_writes device t.0 t.1) o
          (unused_writes device (rpdo_object k))) ≡ []
      by None e = unused_outside (rpdo_object k) first
      by (Some t) e =
          let is : rpdo_object k ≡ rpdo_object t.1.rpdo = sym (ap rpdo_object (takes cs node k t e).numbered) in
          none_pass (is_to_pdo object) (vendor_rpdo_writes device t.0 t.1)
          (vendor_rpdo_all (λ w. is_to_pdo object w ≡ false) device t.0 t.1
          (λ sub bytes. subst (λ (o : ℕ). IsApart object o) is first)
          (λ sub bytes. subst (λ (o : ℕ). IsApart object (mapping_object o)) is second))

-- those to its own PDO pass
sent_inside : (device : AsMade) (c : Clean) → filter (is_to_pdo (tpdo_object c.message.tpdo)) (vendor_tpdo_writes device c)
    ≡ vendor_tpdo_writes device c
sent_inside device c =
    let object : ℕ = tpdo_object c.message.tpdo in
    all_pass (is_to_pdo object) (vendor_tpdo_writes device c)
    (vendor_tpdo_all (λ w. is_to_pdo object w ≡ true) device c (λ sub bytes. itself object)
    (λ sub bytes. its_mapping object))

taken_inside : (device : AsMade) (c : Clean) (k : Consumer)
    → filter (is_to_pdo (rpdo_object k.rpdo)) (vendor_rpdo_writes device c k) ≡ vendor_rpdo_writes device c k
taken_inside device c k =
    let object : ℕ = rpdo_object k.rpdo in
    all_pass (is_to_pdo object) (vendor_rpdo_writes device c k)
    (vendor_rpdo_all (λ w. is_to_pdo object w ≡ true) device c k (λ sub bytes. itself object)
    (λ sub bytes. its_mapping object))

-- ---- all writes of a node

module _ (plan : List PlannedMessage) (params : Texts) (sheet : Sheet) (node : ℕ)
    (none : (place : ℕ × ℕ) → is_of_pdos place.0 ≡ true → get params place ≡ None) where
  abbrev cs : List Clean
  cs = clean plan

  abbrev device : AsMade
  device = as_made sheet node

  abbrev tpdos : List Write
  tpdos = each_by_number (vendor_tpdo_writes device) (λ number. unused_writes device (tpdo_object number))
      (filter_map (tpdo_of node) cs)

  abbrev rpdos : List Write
  rpdos = each_by_number (λ (t : Clean × Consumer). vendor_rpdo_writes device t.0 t.1)
      (λ number. unused_writes device (rpdo_object number)) (filter_map (rpdo_of node) cs)

  pub to_vendor_tpdo : (c : Clean) → IsSentAlone (clean plan) node c
      → to_pdo (tpdo_object c.message.tpdo) (node_writes true plan params sheet node) ≡ vendor_tpdo_writes (as_made sheet node) c
  unfolding to_pdo node_writes vendor_link_writes each_by_number
  to_vendor_tpdo c alone =
      let n : ℕ = c.message.tpdo in
      let object : ℕ = tpdo_object n in
      let numbered : (1 ≤ n) × (n ≤ 512) = between 1 512 n alone.numbered in
      let low : 1 ≤ n = numbered.0 in
      let high : n ≤ 512 = numbered.1 in
      let p : Write → Bool = is_to_pdo object in
      let parameters : filter p (parameter_writes sheet params node)
      ≡ [] = no_parameters sheet params node object none (omega arith) (omega arith) in
      let own : filter p tpdos ≡ filter p (sent cs device node object n) =
      one_of_numbers p (sent cs device node object) n 1 512 low (omega arith)
      (λ k from to other. sent_outside cs device node object k (apart object (tpdo_object k)
      (λ is. other (omega (arith, is))) (λ is. omega (arith, is)))
      (apart object (mapping_object (tpdo_object k)) (λ is. omega (arith, is)) (λ is. other (omega (arith, is))))) in
      let others : filter p rpdos ≡ [] =
      none_of_numbers p (taken cs device node object) 1 512
      (λ k from to. taken_outside cs device node object k (apart object (rpdo_object k) (λ is. omega (arith, is))
      (λ is. omega (arith, is))) (apart object (mapping_object (rpdo_object k)) (λ is. omega (arith, is))
      (λ is. omega (arith, is)))) in
      let here : sent cs device node object n ≡ vendor_tpdo_writes device c =
      ap (λ (o : Option Clean). option_map_or (vendor_tpdo_writes device) o (unused_writes device object))
      (sent_found cs node c alone) in
      three p (parameter_writes sheet params node) tpdos rpdos
      ∙ ap (λ (ws : List Write). ws ++ (filter p tpdos ++ filter p rpdos)) parameters
      ∙ ap (λ (ws : List Write). filter p tpdos ++ ws) others
      ∙ append-nil (filter p tpdos) ∙ own ∙ ap (filter p) here ∙ sent_inside device c

  pub to_vendor_rpdo : (c : Clean) (k : Consumer) → IsTakenAlone (clean plan) node c k
      → to_pdo (rpdo_object k.rpdo) (node_writes true plan params sheet node) ≡ vendor_rpdo_writes (as_made sheet node) c k
  unfolding to_pdo node_writes vendor_link_writes each_by_number
  to_vendor_rpdo c k alone =
      let n : ℕ = k.rpdo in
      let object : ℕ = rpdo_object n in
      let numbered : (1 ≤ n) × (n ≤ 512) = between 1 512 n alone.numbered in
      let low : 1 ≤ n = numbered.0 in
      let high : n ≤ 512 = numbered.1 in
      let p : Write → Bool = is_to_pdo object in
      let parameters : filter p (parameter_writes sheet params node)
      ≡ [] = no_parameters sheet params node object none (omega arith) (omega arith) in
      let others : filter p tpdos ≡ [] =
      none_of_numbers p (sent cs device node object) 1 512
      (λ i from to. sent_outside cs device node object i (apart object (tpdo_object i) (λ is. omega (arith, is))
      (λ is. omega (arith, is))) (apart object (mapping_object (tpdo_object i)) (λ is. omega (arith, is))
      (λ is. omega (arith, is)))) in
      let own : filter p rpdos ≡ filter p (taken cs device node object n) =
      one_of_numbers p (taken cs device node object) n 1 512 low (omega arith)
      (λ i from to other. taken_outside cs device node object i (apart object (rpdo_object i)
      (λ is. other (omega (arith, is))) (λ is. omega (arith, is)))
      (apart object (mapping_object (rpdo_object i)) (λ is. omega (arith, is)) (λ is. other (omega (arith, is))))) in
      let here : taken cs device node object n ≡ vendor_rpdo_writes device c k =
      ap (λ (o : Option (Clean × Consumer)). option_map_or (λ (t : Clean × Consumer). vendor_rpdo_writes device t.0 t.1)
      o (unused_writes device object)) (taken_found cs node c k alone) in
      three p (parameter_writes sheet params node) tpdos rpdos
      ∙ ap (λ (ws : List Write). ws ++ (filter p tpdos ++ filter p rpdos)) parameters
      ∙ ap (λ (ws : List Write). ws ++ filter p rpdos) others
      ∙ own ∙ ap (filter p) here ∙ taken_inside device c k

-- ---- the writes of PDOs alone

module _ (P : Write → Type 0) (f : ℕ → List Write) where
  pub in_range : (first n : ℕ) → 1 ≤ first → first + n ≤ 513
      → ((number : ℕ) → 1 ≤ number → number ≤ 512 → All P (f number)) → All P (flat_map f (range_with_len first n))
  in_range first zero low high each = All-nil P
  in_range first (suc n) low high each =
      All-append P (f first) (flat_map f (range_with_len (first + 1) n)) (each first low (omega arith))
      (in_range (first + 1) n (omega arith) (omega arith) each)

abbrev IsOfPdos : Write → Type 0
IsOfPdos w = is_of_pdos w.index ≡ true

tpdo_indices : (number : ℕ) → 1 ≤ number → number ≤ 512
    → (is_of_pdos (tpdo_object number) ≡ true) × (is_of_pdos (mapping_object (tpdo_object number)) ≡ true)
tpdo_indices number low high = (
  pdo_index (tpdo_object number) (omega arith) (omega arith),
  pdo_index (mapping_object (tpdo_object number)) (omega arith) (omega arith),
)

rpdo_indices : (number : ℕ) → 1 ≤ number → number ≤ 512
    → (is_of_pdos (rpdo_object number) ≡ true) × (is_of_pdos (mapping_object (rpdo_object number)) ≡ true)
rpdo_indices number low high = (
  pdo_index (rpdo_object number) (omega arith) (omega arith),
  pdo_index (mapping_object (rpdo_object number)) (omega arith) (omega arith),
)

module _ (plan : List PlannedMessage) (device : AsMade) (node : ℕ) where
  sent_pdo : (number : ℕ) → 1 ≤ number → number ≤ 512 → All IsOfPdos (sent (clean plan) device node 0 number)
  sent_pdo number low high = by (lookup (is_at (nat_cmp number)) (filter_map (tpdo_of node) (clean plan))) refl
    where
      by : (o : Option Clean) → lookup (is_at (nat_cmp number)) (filter_map (tpdo_of node) (clean plan)) ≡ o
          → All IsOfPdos (option_map_or (vendor_tpdo_writes device) o (unused_writes device (tpdo_object number)))
      by None e = unused_all IsOfPdos device (tpdo_object number)
          (λ sub bytes. (tpdo_indices number low high).0)
      by (Some c) e =
          let is : number ≡ c.message.tpdo = sym (sends (clean plan) node number c e).numbered in
          vendor_tpdo_all IsOfPdos device c
          (λ sub bytes. subst (λ (n : ℕ). is_of_pdos (tpdo_object n) ≡ true) is (tpdo_indices number low high).0)
          (λ sub bytes. subst (λ (n : ℕ). is_of_pdos (mapping_object (tpdo_object n)) ≡ true) is
          (tpdo_indices number low high).1)

  taken_pdo : (number : ℕ) → 1 ≤ number → number ≤ 512 → All IsOfPdos (taken (clean plan) device node 0 number)
  taken_pdo number low high = by (lookup (is_at (nat_cmp number)) (filter_map (rpdo_of node) (clean plan))) refl
    where
      by : (o : Option (Clean × Consumer)) → lookup (is_at (nat_cmp number)) (filter_map (rpdo_of node) (clean plan)) ≡ o
          → All IsOfPdos (option_map_or (λ (t : Clean × Consumer). vendor_rpdo_writes device t.0 t.1) o
          (unused_writes device (rpdo_object number)))
      by None e = unused_all IsOfPdos device (rpdo_object number)
          (λ sub bytes. (rpdo_indices number low high).0)
      by (Some t) e =
          let is : number ≡ t.1.rpdo = sym (takes (clean plan) node number t e).numbered in
          vendor_rpdo_all IsOfPdos device t.0 t.1
          (λ sub bytes. subst (λ (n : ℕ). is_of_pdos (rpdo_object n) ≡ true) is (rpdo_indices number low high).0)
          (λ sub bytes. subst (λ (n : ℕ). is_of_pdos (mapping_object (rpdo_object n)) ≡ true) is
          (rpdo_indices number low high).1)

  pub vendor_links_pdo : All (λ (w : Write). is_of_pdos w.index ≡ true) (vendor_link_writes plan device node)
  unfolding vendor_link_writes each_by_number
  vendor_links_pdo =
      All-append IsOfPdos (flat_map (sent (clean plan) device node 0) (range_with_len 1 512))
      (flat_map (taken (clean plan) device node 0) (range_with_len 1 512))
      (in_range IsOfPdos (sent (clean plan) device node 0) 1 512 (omega arith) (omega arith) sent_pdo)
      (in_range IsOfPdos (taken (clean plan) device node 0) 1 512 (omega arith) (omega arith) taken_pdo)
