-- The writes of a node to one PDO are those of the message that it sends or takes by it.
use Rattle.std.proofs.Common.{◌≡◌, ◌∙◌, ℕ, zero, suc, ◌+◌, ◌<◌, ◌≤◌, ◌⊎◌, inl, inr, ⊎_elim, Bool, true, false, List, []}
use Rattle.std.proofs.Common.{◌∷◌, ◌++◌, length, All, Contains, Option, Some, None, filter, filter_map, refl, sym, ap}
use Rattle.std.proofs.Common.{subst, arith}
use Rattle.std.specs.Prelude.{◌==◌, ◌||◌, if◌then◌else◌}
use Rattle.std.specs.BTreeMap.{is_at}
use Rattle.std.specs.FinMap.{get}
use Rattle.std.specs.List.{flat_map, range_with_len}
use Rattle.std.specs.Map.{lookup}
use Rattle.std.specs.Option.{option_map_or}
use Rattle.std.specs.Ordering.{nat_cmp}
use Rattle.std.proofs.lemmas.Bool.{cases_eq}
use Rattle.std.proofs.lemmas.Bool.Decides.{nat_tests}
use Rattle.std.proofs.lemmas.List.{append-nil}
use Rattle.std.proofs.lemmas.List.Elements.{All-append, All-cons, All-contains, All-contains_itself, All-head, All-nil}
use Rattle.std.proofs.lemmas.List.Elements.{All-tail, All-weaker, filter-append}
use Rattle.byteorder.specs.Endian.{little_bytes}
use Rattle.base.specs.Ranges.{is_between}
use Rattle.cia301.specs.PdoObjects.{is_of_pdos, mapping_object, rpdo_object, tpdo_object}
use Rattle.co_values.specs.declared.form.Width.TheVariants.{Bits8, Bits16}
use Rattle.cia301.specs.CobIds.{no_rtr_bit, off_bit}
use Rattle.concise_dcf.specs.declared.write.Write.{Write}
use Rattle.node_parameters.specs.Params.{Texts}
use Rattle.node_parameters.specs.Parameters.{parameter_text, parameter_writes}
use Rattle.concise_dcf.specs.Writes.{place_of}
use Rattle.node_parameters.proofs.ParameterLemmas.{nothing_else, pdo_text}
use Rattle.eds_device.specs.Entries.{entry_at}
use Rattle.eds_device.specs.Sheets.{Sheet}
use Rattle.pdo_stations.specs.declared.mapped.Mapped.{Mapped}
use Rattle.pdo_stations.specs.Devices.{takes_unsigned}
use Rattle.pdo_choices.specs.declared.clean.Clean.{Clean}
use Rattle.pdo_choices.specs.declared.consumer.Consumer.{Consumer}
use Rattle.pdo_plan.specs.declared.planned_message.PlannedMessage.{PlannedMessage}
use Rattle.pdo_plan.specs.Mapping.{mapped_bytes}
use Rattle.pdo_plan.specs.Plan.{clean}
use Rattle.pdo_choices.specs.Limits.{IsNumbered, IsWithin}
use Rattle.pdo_choices.proofs.RangeLemmas.{between}
use Rattle.pdo_links.specs.Order.{IsOfSent, IsOfTaken, IsSentAlone, IsTakenAlone}
use Rattle.pdo_links.specs.PdoWrites.{write_at, cob_write, taken_type, mapped_writes, mapping_writes}
use Rattle.pdo_links.specs.Writes.{start_write}
use Rattle.pdo_links.specs.PdoWrites.{tpdo_of, rpdo_of}
use Rattle.pdo_links.specs.Writes.{time_write, tpdo_writes, rpdo_writes, at_number, by_number}
use Rattle.pdo_links.specs.Writes.{link_writes, set_link_writes, node_writes}
use Rattle.pdo_links.proofs.Numbered.{Sends, Takes, sends, takes}
use Rattle.pdo_links.proofs.WhoseLemmas.{of_either, of_rpdos, of_tpdos, sent_at, taken_at}
use Rattle.project_plan.specs.Pdos.{is_to_pdo, to_pdo}

-- ---- what a test takes

module _ (p : Write → Bool) where
  pub none_pass : (ws : List Write) → All (λ w. p w ≡ false) ws → filter p ws ≡ []
  none_pass [] all = refl
  none_pass (w ∷ ws) all = rw (All-head (λ w. p w ≡ false) w ws all)
      (none_pass ws (All-tail (λ w. p w ≡ false) w ws all))

  pub all_pass : (ws : List Write) → All (λ w. p w ≡ true) ws → filter p ws ≡ ws
  all_pass [] all = refl
  all_pass (w ∷ ws) all = rw (All-head (λ w. p w ≡ true) w ws all)
      (ap (λ (xs : List Write). w ∷ xs) (all_pass ws (All-tail (λ w. p w ≡ true) w ws all)))

  module _ (g : ℕ → List Write) where
    -- of none of the numbers
    pub none_of_numbers : (first count : ℕ) → ((k : ℕ) → first ≤ k → k < first + count → filter p (g k) ≡ [])
        → filter p (flat_map g (range_with_len first count)) ≡ []
    none_of_numbers first zero none = refl
    none_of_numbers first (suc count) none =
        filter-append p (g first) (flat_map g (range_with_len (first + 1) count))
        ∙ ap (λ (xs : List Write). xs ++ filter p (flat_map g (range_with_len (first + 1) count)))
        (none first (omega arith) (omega arith))
        ∙ none_of_numbers (first + 1) count (λ k low high. none k (omega arith) (omega arith))

    -- of one of them
    pub one_of_numbers : (n first count : ℕ) → first ≤ n → n < first + count
        → ((k : ℕ) → first ≤ k → k < first + count → (k ≡ n → ⊥) → filter p (g k) ≡ [])
        → filter p (flat_map g (range_with_len first count)) ≡ filter p (g n)
    one_of_numbers n first zero low high others = absurd (omega arith)
    one_of_numbers n first (suc count) low high others =
        filter-append p (g first) (flat_map g (range_with_len (first + 1) count))
        ∙ by (cases_eq first n) (λ later. one_of_numbers n (first + 1) count later (omega arith)
        (λ k low high apart. others k (omega arith) (omega arith) apart))
      where
        past : (a b : ℕ) → a ≤ b → (a ≡ b → ⊥) → a + 1 ≤ b
        past a b le other = omega (arith, other)

        by : (first ≡ n) ⊎ (first ≡ n → ⊥) → (first + 1 ≤ n
            → filter p (flat_map g (range_with_len (first + 1) count)) ≡ filter p (g n))
            → filter p (g first) ++ filter p (flat_map g (range_with_len (first + 1) count)) ≡ filter p (g n)
        by (inl same) rest =
            ap (λ (xs : List Write). filter p (g first) ++ xs)
            (none_of_numbers (first + 1) count (λ k low high. others k (omega arith) (omega arith)
            (λ is. omega (arith, is, same))))
            ∙ append-nil (filter p (g first)) ∙ ap (λ (k : ℕ). filter p (g k)) same
        by (inr other) rest =
            ap (λ (xs : List Write). xs ++ filter p (flat_map g (range_with_len (first + 1) count)))
            (others first (omega arith) (omega arith) other)
            ∙ rest (past first n low other)

-- ---- the objects of a PDO's writes

module _ (P : Write → Type 0) where
  module _ (object : ℕ) (each : (sub : ℕ) (bytes : List ℕ) → P (write_at object sub bytes)) where
    time_all : (sheet : Sheet) (node sub time : ℕ) → All P (time_write sheet node object sub time)
    time_all sheet node sub time = by (option_map_or (takes_unsigned Bits16) (entry_at sheet node object sub) false)
      where
        by : (b : Bool) → let ws : List Write = if b then write_at object sub (little_bytes 2 time) ∷ [] else []
            in All P ws
        by true = All-cons P (write_at object sub (little_bytes 2 time)) [] (each sub (little_bytes 2 time)) (All-nil P)
        by false = All-nil P

    start_all : (sheet : Sheet) (node start : ℕ) → All P (start_write sheet node object start)
    start_all sheet node start = by (option_map_or (takes_unsigned Bits8) (entry_at sheet node object 6) false)
      where
        by : (b : Bool) → let ws : List Write = if b then write_at object 6 (start ∷ []) ∷ [] else [] in All P ws
        by true = All-cons P (write_at object 6 (start ∷ [])) [] (each 6 (start ∷ [])) (All-nil P)
        by false = All-nil P

    mapped_all : (first : ℕ) (mapping : List Mapped) → All P (mapped_writes object first mapping)
    mapped_all first [] = All-nil P
    mapped_all first (m ∷ ms) = All-cons P (write_at object first (mapped_bytes m))
        (mapped_writes object (first + 1) ms) (each first (mapped_bytes m)) (mapped_all (first + 1) ms)

    pub mapping_all : (mapping : List Mapped) → All P (mapping_writes object mapping)
    mapping_all mapping =
        let count : List Write = write_at object 0 (length mapping ∷ []) ∷ [] in
        All-cons P (write_at object 0 (0 ∷ [])) (mapped_writes object 1 mapping ++ count) (each 0 (0 ∷ []))
        (All-append P (mapped_writes object 1 mapping) count (mapped_all 1 mapping)
        (All-cons P (write_at object 0 (length mapping ∷ [])) [] (each 0 (length mapping ∷ [])) (All-nil P)))

  module _ (object : ℕ) (each : (sub : ℕ) (bytes : List ℕ) → P (write_at object sub bytes))
      (mapped : (sub : ℕ) (bytes : List ℕ) → P (write_at (mapping_object object) sub bytes)) where
    pub tpdo_all : (sheet : Sheet) (node : ℕ) (c : Clean) → tpdo_object c.message.tpdo ≡ object
        → All P (tpdo_writes sheet node c)
    unfolding tpdo_writes
    tpdo_all sheet node c is =
        let whole : (o : ℕ) → o ≡ object → (sub : ℕ) (bytes : List ℕ)
        → P (write_at o sub bytes) = λ o same sub bytes. subst (λ (i : ℕ). P (write_at i sub bytes)) (sym same)
        (each sub bytes) in
        let inner : (o : ℕ) → o ≡ mapping_object object → (sub : ℕ) (bytes : List ℕ)
        → P (write_at o sub bytes) = λ o same sub bytes. subst (λ (i : ℕ). P (write_at i sub bytes)) (sym same)
        (mapped sub bytes) in
        let own : ℕ = tpdo_object c.message.tpdo in
        let on : List Write = cob_write own (no_rtr_bit + c.identifier) ∷ [] in
        let times : List Write = time_write sheet node own 3 c.message.inhibit ++ time_write sheet node own 5 c.message.event
        in
        let start : List Write = start_write sheet node own c.start in
        let rest : List Write = times ++ start ++ mapping_writes (mapping_object own) c.mapping in
        let kind : List ℕ = c.message.transmission ∷ [] in
        let off : ℕ = off_bit + (no_rtr_bit + c.identifier) in
        All-cons P (cob_write own off) (write_at own 2 kind ∷ (rest ++ on)) (whole own is 1 (little_bytes 4 off))
        (All-cons P (write_at own 2 kind) (rest ++ on) (whole own is 2 kind)
        (All-append P rest on
        (All-append P (times ++ start) (mapping_writes (mapping_object own) c.mapping)
        (All-append P times start
        (All-append P (time_write sheet node own 3 c.message.inhibit) (time_write sheet node own 5 c.message.event)
        (time_all own (whole own is) sheet node 3 c.message.inhibit)
        (time_all own (whole own is) sheet node 5 c.message.event))
        (start_all own (whole own is) sheet node c.start))
        (mapping_all (mapping_object own) (inner (mapping_object own) (ap mapping_object is)) c.mapping))
        (All-cons P (cob_write own (no_rtr_bit + c.identifier)) []
        (whole own is 1 (little_bytes 4 (no_rtr_bit + c.identifier))) (All-nil P))))

    pub rpdo_all : (c : Clean) (k : Consumer) → rpdo_object k.rpdo ≡ object → All P (rpdo_writes c k)
    unfolding rpdo_writes
    rpdo_all c k is =
        let whole : (o : ℕ) → o ≡ object → (sub : ℕ) (bytes : List ℕ)
        → P (write_at o sub bytes) = λ o same sub bytes. subst (λ (i : ℕ). P (write_at i sub bytes)) (sym same)
        (each sub bytes) in
        let inner : (o : ℕ) → o ≡ mapping_object object → (sub : ℕ) (bytes : List ℕ)
        → P (write_at o sub bytes) = λ o same sub bytes. subst (λ (i : ℕ). P (write_at i sub bytes)) (sym same)
        (mapped sub bytes) in
        let own : ℕ = rpdo_object k.rpdo in
        let on : List Write = cob_write own c.identifier ∷ [] in
        let rest : List Write = mapping_writes (mapping_object own) k.mapping in
        let kind : List ℕ = taken_type c.message.transmission ∷ [] in
        let off : ℕ = off_bit + c.identifier in
        All-cons P (cob_write own off) (write_at own 2 kind ∷ (rest ++ on)) (whole own is 1 (little_bytes 4 off))
        (All-cons P (write_at own 2 kind) (rest ++ on) (whole own is 2 kind)
        (All-append P rest on (mapping_all (mapping_object own) (inner (mapping_object own) (ap mapping_object is)) k.mapping)
        (All-cons P (cob_write own c.identifier) [] (whole own is 1 (little_bytes 4 c.identifier)) (All-nil P))))

-- ---- objects apart

pub itself : (object : ℕ) → (object == object) || (object == mapping_object object) ≡ true
itself object = grind (arith, nat_tests)

pub its_mapping : (object : ℕ) → (mapping_object object == object) || (mapping_object object == mapping_object object) ≡ true
its_mapping object = grind (arith, nat_tests)

-- an index is neither of a PDO's two
abbrev pub IsApart : ℕ → ℕ → Type 0
IsApart object index = (index == object) || (index == mapping_object object) ≡ false

pub apart : (object index : ℕ) → (index ≡ object → ⊥) → (index ≡ object + 0x200 → ⊥) → IsApart object index
apart object index other outside = grind (arith, nat_tests)

module _ (object : ℕ) where
  -- the writes to other objects don't pass
  tpdo_outside : (sheet : Sheet) (node : ℕ) (c : Clean) (own : ℕ) → tpdo_object c.message.tpdo ≡ own
      → IsApart object own → IsApart object (mapping_object own) → filter (is_to_pdo object) (tpdo_writes sheet node c) ≡ []
  tpdo_outside sheet node c own is first second =
      none_pass (is_to_pdo object) (tpdo_writes sheet node c)
      (tpdo_all (λ w. is_to_pdo object w ≡ false) own (λ sub bytes. first) (λ sub bytes. second) sheet node c is)

  rpdo_outside : (c : Clean) (k : Consumer) (own : ℕ) → rpdo_object k.rpdo ≡ own → IsApart object own
      → IsApart object (mapping_object own) → filter (is_to_pdo object) (rpdo_writes c k) ≡ []
  rpdo_outside c k own is first second =
      none_pass (is_to_pdo object) (rpdo_writes c k)
      (rpdo_all (λ w. is_to_pdo object w ≡ false) own (λ sub bytes. first) (λ sub bytes. second) c k is)

  -- those to its own do
  tpdo_inside : (sheet : Sheet) (node : ℕ) (c : Clean) → tpdo_object c.message.tpdo ≡ object
      → filter (is_to_pdo object) (tpdo_writes sheet node c) ≡ tpdo_writes sheet node c
  tpdo_inside sheet node c is =
      all_pass (is_to_pdo object) (tpdo_writes sheet node c)
      (tpdo_all (λ w. is_to_pdo object w ≡ true) object (λ sub bytes. itself object)
      (λ sub bytes. its_mapping object) sheet node c is)

  rpdo_inside : (c : Clean) (k : Consumer) → rpdo_object k.rpdo ≡ object
      → filter (is_to_pdo object) (rpdo_writes c k) ≡ rpdo_writes c k
  rpdo_inside c k is =
      all_pass (is_to_pdo object) (rpdo_writes c k)
      (rpdo_all (λ w. is_to_pdo object w ≡ true) object (λ sub bytes. itself object)
      (λ sub bytes. its_mapping object) c k is)

-- ---- by number

module _ (cs : List Clean) (sheet : Sheet) (node object : ℕ) where
  abbrev sent : ℕ → List Write
  sent number = at_number (tpdo_writes sheet node) (filter_map (tpdo_of node) cs) number

  abbrev taken : ℕ → List Write
  taken number = at_number (λ (t : Clean × Consumer). rpdo_writes t.0 t.1) (filter_map (rpdo_of node) cs) number

  sent_outside : (k : ℕ) → IsApart object (tpdo_object k) → IsApart object (mapping_object (tpdo_object k))
      → filter (is_to_pdo object) (sent k) ≡ []
  sent_outside k first second = by (lookup (is_at (nat_cmp k)) (filter_map (tpdo_of node) cs)) refl
    where
      by : (o : Option Clean) → lookup (is_at (nat_cmp k)) (filter_map (tpdo_of node) cs) ≡ o
          → filter (is_to_pdo object) (option_map_or (tpdo_writes sheet node) o []) ≡ []
      by None e = refl
      by (Some c) e = let s : Sends cs node k c = sends cs node k c e
          in tpdo_outside object sheet node c (tpdo_object k) (ap tpdo_object s.numbered) first second

  taken_outside : (k : ℕ) → IsApart object (rpdo_object k) → IsApart object (mapping_object (rpdo_object k))
      → filter (is_to_pdo object) (taken k) ≡ []
  taken_outside k first second = by (lookup (is_at (nat_cmp k)) (filter_map (rpdo_of node) cs)) refl
    where
      by : (o : Option (Clean × Consumer)) → lookup (is_at (nat_cmp k)) (filter_map (rpdo_of node) cs) ≡ o
          → filter (is_to_pdo object) (option_map_or (λ (t : Clean × Consumer). rpdo_writes t.0 t.1) o []) ≡ []
      by None e = refl
      by (Some t) e = let s : Takes cs node k t = takes cs node k t e
          in rpdo_outside object t.0 t.1 (rpdo_object k) (ap rpdo_object s.numbered) first second

-- the parameters are of other objects
pub not_pdo : (sheet : Sheet) (params : Texts) (node : ℕ)
    → ((place : ℕ × ℕ) → is_of_pdos place.0 ≡ true → get params place ≡ None)
    → (w : Write) → Contains (parameter_writes sheet params node) w → is_of_pdos w.index ≡ false
not_pdo sheet params node none w has = by (is_of_pdos w.index) refl
  where
    by : (b : Bool) → is_of_pdos w.index ≡ b → b ≡ false
    by false e = refl
    by true e =
        let text : (text : List ℕ) × (parameter_text sheet.sections params (place_of w) ≡ Some text)
        × _ = nothing_else sheet params node w has in
        let no_text : parameter_text sheet.sections params (place_of w) ≡ None = pdo_text sheet params (place_of w)
        (none (place_of w) e) e in
        let contrary : (let n : Option (List ℕ) = None in n ≡ Some text.0) = sym no_text ∙ text.1 in
        cc

module _ (sheet : Sheet) (params : Texts) (node object : ℕ)
    (none : (place : ℕ × ℕ) → is_of_pdos place.0 ≡ true → get params place ≡ None)
    (low : 0x1400 ≤ object) (high : object + 0x200 ≤ 0x1BFF) where
  pub outside : (index : ℕ) → is_between 0x1400 0x1BFF index ≡ false → IsApart object index
  outside index e = grind (arith, nat_tests)

  pub no_parameters : filter (is_to_pdo object) (parameter_writes sheet params node) ≡ []
  no_parameters =
      none_pass (is_to_pdo object) (parameter_writes sheet params node)
      (All-weaker (Contains (parameter_writes sheet params node)) (λ w. is_to_pdo object w ≡ false)
      (λ w has. outside w.index (not_pdo sheet params node none w has)) (parameter_writes sheet params node)
      (All-contains_itself (parameter_writes sheet params node)))

-- ---- all writes of a node

pub three : (p : Write → Bool) (xs ys zs : List Write)
    → filter p (xs ++ (ys ++ zs)) ≡ filter p xs ++ (filter p ys ++ filter p zs)
three p xs ys zs = filter-append p xs (ys ++ zs) ∙ ap (λ (ws : List Write). filter p xs ++ ws) (filter-append p ys zs)

module _ (plan : List PlannedMessage) (params : Texts) (sheet : Sheet) (node : ℕ)
    (none : (place : ℕ × ℕ) → is_of_pdos place.0 ≡ true → get params place ≡ None) where
  abbrev cs : List Clean
  cs = clean plan

  abbrev tpdos : List Write
  tpdos = by_number (tpdo_writes sheet node) (filter_map (tpdo_of node) (clean plan))

  abbrev rpdos : List Write
  rpdos = by_number (λ (t : Clean × Consumer). rpdo_writes t.0 t.1) (filter_map (rpdo_of node) (clean plan))

  pub to_tpdo : (c : Clean) → IsSentAlone (clean plan) node c
      → to_pdo (tpdo_object c.message.tpdo) (node_writes false plan params sheet node) ≡ tpdo_writes sheet node c
  unfolding to_pdo node_writes set_link_writes by_number
  to_tpdo c alone =
      let n : ℕ = c.message.tpdo in
      let object : ℕ = tpdo_object n in
      let numbered : (1 ≤ n) × (n ≤ 512) = between 1 512 n alone.numbered in
      let low : 1 ≤ n = numbered.0 in
      let high : n ≤ 512 = numbered.1 in
      let p : Write → Bool = is_to_pdo object in
      let parameters : filter p (parameter_writes sheet params node)
      ≡ [] = no_parameters sheet params node object none (omega arith) (omega arith) in
      let own : filter p tpdos ≡ filter p (sent cs sheet node object n) =
      one_of_numbers p (sent cs sheet node object) n 1 512 low (omega arith)
      (λ k from to other. sent_outside cs sheet node object k (apart object (tpdo_object k)
      (λ is. other (omega (arith, is))) (λ is. omega (arith, is)))
      (apart object (mapping_object (tpdo_object k)) (λ is. omega (arith, is)) (λ is. other (omega (arith, is))))) in
      let others : filter p rpdos ≡ [] =
      none_of_numbers p (taken cs sheet node object) 1 512
      (λ k from to. taken_outside cs sheet node object k (apart object (rpdo_object k) (λ is. omega (arith, is))
      (λ is. omega (arith, is))) (apart object (mapping_object (rpdo_object k)) (λ is. omega (arith, is))
      (λ is. omega (arith, is)))) in
      three p (parameter_writes sheet params node) tpdos rpdos
      ∙ ap (λ (ws : List Write). ws ++ (filter p tpdos ++ filter p rpdos)) parameters
      ∙ ap (λ (ws : List Write). filter p tpdos ++ ws) others
      ∙ append-nil (filter p tpdos) ∙ own ∙ ap (filter p) (sent_at cs sheet node c alone)
      ∙ tpdo_inside object sheet node c refl

  pub to_rpdo : (c : Clean) (k : Consumer) → IsTakenAlone (clean plan) node c k
      → to_pdo (rpdo_object k.rpdo) (node_writes false plan params sheet node) ≡ rpdo_writes c k
  unfolding to_pdo node_writes set_link_writes by_number
  to_rpdo c k alone =
      let n : ℕ = k.rpdo in
      let object : ℕ = rpdo_object n in
      let numbered : (1 ≤ n) × (n ≤ 512) = between 1 512 n alone.numbered in
      let low : 1 ≤ n = numbered.0 in
      let high : n ≤ 512 = numbered.1 in
      let p : Write → Bool = is_to_pdo object in
      let parameters : filter p (parameter_writes sheet params node)
      ≡ [] = no_parameters sheet params node object none (omega arith) (omega arith) in
      let others : filter p tpdos ≡ [] =
      none_of_numbers p (sent cs sheet node object) 1 512
      (λ i from to. sent_outside cs sheet node object i (apart object (tpdo_object i) (λ is. omega (arith, is))
      (λ is. omega (arith, is))) (apart object (mapping_object (tpdo_object i)) (λ is. omega (arith, is))
      (λ is. omega (arith, is)))) in
      let own : filter p rpdos ≡ filter p (taken cs sheet node object n) =
      one_of_numbers p (taken cs sheet node object) n 1 512 low (omega arith)
      (λ i from to other. taken_outside cs sheet node object i (apart object (rpdo_object i)
      (λ is. other (omega (arith, is))) (λ is. omega (arith, is)))
      (apart object (mapping_object (rpdo_object i)) (λ is. omega (arith, is)) (λ is. other (omega (arith, is))))) in
      three p (parameter_writes sheet params node) tpdos rpdos
      ∙ ap (λ (ws : List Write). ws ++ (filter p tpdos ++ filter p rpdos)) parameters
      ∙ ap (λ (ws : List Write). ws ++ filter p rpdos) others
      ∙ own ∙ ap (filter p) (taken_at cs node c k alone) ∙ rpdo_inside object c k refl

-- ---- the writes of PDOs alone

pub pdo_index : (index : ℕ) → 0x1400 ≤ index → index ≤ 0x1BFF → is_of_pdos index ≡ true
pdo_index index from to = grind (arith, nat_tests)

pub links_pdo : (plan : List PlannedMessage) (sheet : Sheet) (node : ℕ)
    → ((c : Clean) → Contains (clean plan) c → IsWithin c)
    → (w : Write) → Contains (link_writes false plan sheet node) w → is_of_pdos w.index ≡ true
unfolding set_link_writes
links_pdo plan sheet node within w has =
    ⊎_elim sent taken (of_either (by_number (tpdo_writes sheet node) (filter_map (tpdo_of node) (clean plan)))
    (by_number (λ (t : Clean × Consumer). rpdo_writes t.0 t.1) (filter_map (rpdo_of node) (clean plan))) w has)
  where
    sent : Contains (by_number (tpdo_writes sheet node) (filter_map (tpdo_of node) (clean plan))) w
        → is_of_pdos w.index ≡ true
    sent there =
        let of : IsOfSent (clean plan) sheet node w = of_tpdos (clean plan) sheet node w there in
        let numbered : (1 ≤ of.0.message.tpdo) × (of.0.message.tpdo ≤ 512) =
        between 1 512 of.0.message.tpdo (within of.0 of.1).sent.0 in
        let low : 1 ≤ of.0.message.tpdo = numbered.0 in
        let high : of.0.message.tpdo ≤ 512 = numbered.1 in
        let object : ℕ = tpdo_object of.0.message.tpdo in
        All-contains (λ w. is_of_pdos w.index ≡ true) (tpdo_writes sheet node of.0) w
        (tpdo_all (λ w. is_of_pdos w.index ≡ true) object (λ sub bytes. pdo_index object (omega arith) (omega arith))
        (λ sub bytes. pdo_index (mapping_object object) (omega arith) (omega arith)) sheet node of.0 refl) of.3

    taken : Contains (by_number (λ (t : Clean × Consumer). rpdo_writes t.0 t.1)
        (filter_map (rpdo_of node) (clean plan))) w → is_of_pdos w.index ≡ true
    taken there =
        let of : IsOfTaken (clean plan) node w = of_rpdos (clean plan) node w there in
        let k : Consumer = of.2.0 in
        let is : IsNumbered k.rpdo k.mapping =
        All-contains (λ (k : Consumer). IsNumbered k.rpdo k.mapping) of.0.consumers k (within of.0 of.1).taken
        of.2.1 in
        let numbered : (1 ≤ k.rpdo) × (k.rpdo ≤ 512) = between 1 512 k.rpdo is.0 in
        let low : 1 ≤ k.rpdo = numbered.0 in
        let high : k.rpdo ≤ 512 = numbered.1 in
        let object : ℕ = rpdo_object k.rpdo in
        All-contains (λ w. is_of_pdos w.index ≡ true) (rpdo_writes of.0 k) w
        (rpdo_all (λ w. is_of_pdos w.index ≡ true) object (λ sub bytes. pdo_index object (omega arith) (omega arith))
        (λ sub bytes. pdo_index (mapping_object object) (omega arith) (omega arith)) of.0 k refl) of.2.3
