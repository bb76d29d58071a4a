-- In version 3 what a clean message asks of its TPDO besides 0 is written, or stands by default.
use Rattle.std.proofs.Common.{◌≡◌, ◌⊎◌, inl, inr, ℕ, zero, ◌+◌, ◌<◌, Bool, true, false, ◌&&◌, List, [], ◌∷◌, ◌++◌, length}
use Rattle.std.proofs.Common.{Contains, Option, Some, refl, sym, ap, subst, ◌∙◌, arith}
use Rattle.std.specs.Prelude.{◌==◌, ◌||◌, ◌%◌, not, if◌then◌else◌, option_map}
use Rattle.std.specs.FinMap.{entries}
use Rattle.std.specs.Map.{lookup}
use Rattle.std.specs.Option.{option_map_or}
use Rattle.std.proofs.lemmas.Bool.{eqb-true}
use Rattle.std.proofs.lemmas.List.Elements.{All-contains, Contains-append_left, Contains-append_right}
use Rattle.byteorder.specs.Endian.{little_bytes}
use Rattle.co_values.specs.Types.{octets}
use Rattle.cia301.specs.CobIds.{no_rtr_bit, off_bit}
use Rattle.cia301.specs.PdoObjects.{mapping_object, tpdo_object}
use Rattle.concise_dcf.specs.declared.write.Write.{Write}
use Rattle.project_edits.specs.Versions.{is_three}
use Rattle.project_messages.specs.declared.linked.Linked.{Linked}
use Rattle.project_messages.specs.declared.message.Message.{Message}
use Rattle.co_project.specs.Project.{Content, controller_of}
use Rattle.pdo_stations.specs.declared.as_made.AsMade.{AsMade}
use Rattle.pdo_stations.specs.declared.mapped.Mapped.{Mapped}
use Rattle.pdo_stations.specs.Carried.{carried_of}
use Rattle.pdo_stations.specs.Devices.{Devices, as_made, devices_of, sheet_at}
use Rattle.vendor_pdos.specs.Choices.{sent_choices}
use Rattle.vendor_pdos.specs.Mappings.{Wanted, writes_mapping}
use Rattle.vendor_pdos.specs.Parameters.{can_be_set, has_parameter, is_open, number_serves, parameter_default}
use Rattle.vendor_pdos.specs.Parameters.{parameter_width}
use Rattle.vendor_pdos.specs.Serving.{sends as serves}
use Rattle.pdo_choices.specs.declared.clean.Clean.{Clean}
use Rattle.pdo_plan.specs.declared.outcome.Outcome.TheVariants.{Planned}
use Rattle.pdo_choices.specs.Had.{Withheld, had_by}
use Rattle.pdo_plan.specs.Plan.{clean, judged_message, plan_of}
use Rattle.pdo_plan.proofs.ChainLemmas.{all_clean, each_clean}
use Rattle.pdo_plan.proofs.FreeLemmas.{faultless}
use Rattle.pdo_plan.proofs.JudgedLemmas.{judged_clean}
use Rattle.pdo_links.specs.PdoWrites.{cob_write, mapping_writes, write_at}
use Rattle.pdo_links.specs.VendorWrites.{allows, configured, parameter_write, pdo_writes, vendor_tpdo_writes}
use Rattle.pdo_links.proofs.Values.{first_of, second_of}
use Rattle.project_plan.specs.Network.{member_at, plan_of_project, sheets_of_members, writes_of, Member}
use Rattle.project_plan.specs.Nodes.{IsSoundNode, Sends}
use Rattle.project_plan.specs.Pdos.{StandsByDefault, sent_writes}
use Rattle.project_plan.proofs.AskedLemmas.{event_written, inhibit_written, start_written}
use Rattle.project_plan.proofs.MappedLemmas.{IsWritable, all_writable}
use Rattle.project_plan.proofs.NetworkLemmas.{described_at}
use Rattle.project_plan.proofs.WritesLemmas.{sent_is_there}
use Rattle.eds_device.specs.Sheets.{Sheet}

-- ---- the TPDO of a clean message serves it

-- that of the device of a node with this data sheet
abbrev ServedBy : Clean → ℕ → Wanted → Option Sheet → Type 0
ServedBy c node wanted o =
    option_map_or (λ (d : AsMade). serves d c.message c.start wanted) (option_map (λ sheet. as_made sheet node) o) false ≡ true

abbrev Served : List (ℕ × Sheet) → Clean → Type 0
Served nodes c = (wanted : Wanted) × ServedBy c c.message.node wanted (sheet_at nodes c.message.node)

clean_served : (controller : Option ℕ) (nodes : List (ℕ × Sheet)) (withheld : Withheld) (before : List Clean) (m : Linked) (c : Clean)
    → judged_message (had_by withheld before) (devices_of true controller nodes) m ≡ Planned c → Served nodes c
clean_served controller nodes withheld before m c e =
    let d : Devices = devices_of true controller nodes in
    let is = judged_clean (had_by withheld before) d m c e in
    let objects = (faultless (had_by withheld before) d m is.faultless).objects in
    let wanted : Wanted = sent_choices (carried_of d m.message.node m.sources) in (
      wanted,
      subst (λ (x : Message). option_map_or (λ (d : AsMade). serves d x c.start wanted)
          (option_map (λ sheet. as_made sheet x.node) (sheet_at nodes x.node)) false ≡ true) is.message
          (subst (λ (n : ℕ). option_map_or (λ (d : AsMade). serves d m.message n wanted)
          (option_map (λ sheet. as_made sheet m.message.node) (sheet_at nodes m.message.node)) false ≡ true) is.start objects),
    )

all_served : (p : Content) (c : Clean) → is_three p.version ≡ true → Contains (clean (plan_of_project p)) c
    → Served (sheets_of_members p) c
unfolding plan_of_project
all_served p c three has =
    let nodes : List (ℕ × Sheet) = sheets_of_members p in
    let d : Devices = devices_of true (controller_of p) nodes in
    let planned : List Clean = clean (plan_of d (entries p.messages)) in
    All-contains (Served nodes) planned c
    (all_clean (Served nodes) planned
    (each_clean d (λ before c. Served nodes c) (clean_served (controller_of p) nodes) (entries p.messages)))
    (subst (λ (b : Bool). Contains (clean (plan_of (devices_of b (controller_of p) nodes) (entries p.messages))) c) three has)

-- ---- a number that serves and isn't 0 is set, or stands by default

set_or_default : (device : AsMade) (object sub number : ℕ) → (number ≡ 0 → ⊥)
    → number_serves device object sub number ≡ true
    → (can_be_set device object sub ≡ true) ⊎ (parameter_default device object sub ≡ number)
unfolding number_serves
set_or_default device object sub number other =
    by (can_be_set device object sub) (has_parameter device object sub) refl
  where
    by : (a b : Bool) → can_be_set device object sub ≡ a
        → (a || (if b then parameter_default device object sub == number else number == 0)) ≡ true
        → (can_be_set device object sub ≡ true) ⊎ (parameter_default device object sub ≡ number)
    by true b e test = inl e
    by false true e test = inr (eqb-true (parameter_default device object sub) number test)
    by false false e test = absurd (other (eqb-true number 0 test))

not_zero : (n : ℕ) → (n ≡ 0 → ⊥) → (n == 0) ≡ false
not_zero n other = by (n == 0) refl
  where
    by : (b : Bool) → (n == 0) ≡ b → b ≡ false
    by true e = absurd (other (eqb-true n 0 e))
    by false e = refl

abbrev written : ℕ → ℕ → ℕ → Write
written object sub number = write_at object sub (little_bytes (octets (parameter_width sub)) number)

module _ (device : AsMade) (object sub number : ℕ) (other : number ≡ 0 → ⊥)
    (set : can_be_set device object sub ≡ true) where
  in_parameter : Contains (parameter_write device object sub number) (written object sub number)
  in_parameter = by (sub == 2)
    where
      by : (b : Bool) → let ws : List Write = if can_be_set device object sub
          && (b || not (number == 0) || allows device object sub 0) then written object sub number ∷ [] else []
          in Contains ws (written object sub number)
      by true = rw set (zero, omega arith, refl)
      by false = rw (set, not_zero number other) (zero, omega arith, refl)

module _ (device : AsMade) (object cob : ℕ) (settings : List Write) (mapping : List Mapped) (w : Write)
    (has : Contains settings w) where
  in_pdo : Contains (pdo_writes device object cob settings mapping) w
  unfolding pdo_writes
  in_pdo = by (is_open device object)
    where
      items : List Write
      items = if writes_mapping device object (length mapping) then mapping_writes (mapping_object object) mapping
          else []

      by : (b : Bool) → let ws : List Write = if b then configured object cob settings items else settings in Contains ws w
      by true =
          Contains-append_right (cob_write object (off_bit + cob) ∷ []) (settings ++ items ++ cob_write object cob ∷ []) w
          (Contains-append_left (settings ++ items) (cob_write object cob ∷ []) w
          (Contains-append_left settings items w has))
      by false = has

module _ (device : AsMade) (c : Clean) where
  abbrev object : ℕ
  object = tpdo_object c.message.tpdo

  abbrev kind : List Write
  kind = parameter_write device object 2 c.message.transmission

  abbrev inhibit : List Write
  inhibit = parameter_write device object 3 c.message.inhibit

  abbrev event : List Write
  event = parameter_write device object 5 c.message.event

  abbrev start : List Write
  start = parameter_write device object 6 c.start

  in_tpdo : (w : Write) → Contains (kind ++ inhibit ++ event ++ start) w → Contains (vendor_tpdo_writes device c) w
  unfolding vendor_tpdo_writes
  in_tpdo w has =
      in_pdo device object (no_rtr_bit + c.identifier) (kind ++ inhibit ++ event ++ start) c.mapping w has

  in_inhibit : (w : Write) → Contains inhibit w → Contains (vendor_tpdo_writes device c) w
  in_inhibit w has = in_tpdo w (Contains-append_left (kind ++ inhibit ++ event) start w
      (Contains-append_left (kind ++ inhibit) event w (Contains-append_right kind inhibit w has)))

  in_event : (w : Write) → Contains event w → Contains (vendor_tpdo_writes device c) w
  in_event w has = in_tpdo w (Contains-append_left (kind ++ inhibit ++ event) start w
      (Contains-append_right (kind ++ inhibit) event w has))

  in_start : (w : Write) → Contains start w → Contains (vendor_tpdo_writes device c) w
  in_start w has = in_tpdo w (Contains-append_right (kind ++ inhibit ++ event) start w has)

-- ---- the three numbers

module _ (p : Content) (id : ℕ) (m : Member) (c : Clean) (node : IsSoundNode p id m) (sends : Sends p id c)
    (three : is_three p.version ≡ true) where
  abbrev made : AsMade
  made = as_made m.sheet id

  own_serves : (wanted : Wanted) × (serves made c.message c.start wanted ≡ true)
  own_serves =
      let served : Served (sheets_of_members p) c = all_served p c three sends.planned in
      let here : ServedBy c id served.0 (sheet_at (sheets_of_members p) id) =
      subst (λ (n : ℕ). ServedBy c n served.0 (sheet_at (sheets_of_members p) n)) sends.sender served.1 in
      (served.0, subst (ServedBy c id served.0) (described_at p id m node.there) here)

  record Serves : Type 0 where
    inhibit : number_serves made (tpdo_object c.message.tpdo) 3 c.message.inhibit ≡ true
    event : number_serves made (tpdo_object c.message.tpdo) 5 c.message.event ≡ true
    start : number_serves made (tpdo_object c.message.tpdo) 6 c.start ≡ true

  numbers_serve : (wanted : Wanted) → serves made c.message c.start wanted ≡ true → Serves
  unfolding serves
  numbers_serve wanted test = record {
    inhibit = second_of _ _ (first_of _ _ (first_of _ _ test));
    event = second_of _ _ (first_of _ _ test);
    start = second_of _ _ test;
  }

  all_serve : Serves
  all_serve = numbers_serve own_serves.0 own_serves.1

  by_three : (w : Write) → Contains (vendor_tpdo_writes made c) w → Contains (sent_writes p m id c) w
  by_three w has = rw three has

  written_or_default : (sub number : ℕ) → (number ≡ 0 → ⊥)
      → number_serves made (tpdo_object c.message.tpdo) sub number ≡ true
      → (Contains (parameter_write made (tpdo_object c.message.tpdo) sub number)
      (written (tpdo_object c.message.tpdo) sub number)
      → Contains (vendor_tpdo_writes made c) (written (tpdo_object c.message.tpdo) sub number))
      → Contains (writes_of p m id) (written (tpdo_object c.message.tpdo) sub number)
      ⊎ StandsByDefault p m id c sub number
  written_or_default sub number other test inside =
      by (set_or_default made (tpdo_object c.message.tpdo) sub number other test)
    where
      w : Write
      w = written (tpdo_object c.message.tpdo) sub number

      by : (can_be_set made (tpdo_object c.message.tpdo) sub ≡ true)
          ⊎ (parameter_default made (tpdo_object c.message.tpdo) sub ≡ number)
          → Contains (writes_of p m id) w ⊎ StandsByDefault p m id c sub number
      by (inl set) = inl (sent_is_there p id m c w node sends
          (by_three w (inside (in_parameter made (tpdo_object c.message.tpdo) sub number other set))))
      by (inr is) = inr (three, is)

byte_itself : (x : ℕ) → x < 256 → little_bytes 1 x ≡ x ∷ []
byte_itself x below = let e : x % 256 ≡ x = grind arith in ap (λ (n : ℕ). n ∷ []) e

-- ---- by each version

module _ (p : Content) (id : ℕ) (m : Member) (c : Clean) (node : IsSoundNode p id m) (sends : Sends p id c) where
  pub inhibit_asked : (c.message.inhibit ≡ 0 → ⊥)
      → Contains (writes_of p m id) (write_at (tpdo_object c.message.tpdo) 3 (little_bytes 2 c.message.inhibit))
      ⊎ StandsByDefault p m id c 3 c.message.inhibit
  inhibit_asked other = by (is_three p.version) refl
    where
      by : (b : Bool) → is_three p.version ≡ b
          → Contains (writes_of p m id) (write_at (tpdo_object c.message.tpdo) 3 (little_bytes 2 c.message.inhibit))
          ⊎ StandsByDefault p m id c 3 c.message.inhibit
      by true e = written_or_default p id m c node sends e 3 c.message.inhibit other
          (all_serve p id m c node sends e).inhibit (in_inhibit (made p id m c node sends e) c _)
      by false e = inl (inhibit_written p e id m c node sends other)

  pub event_asked : (c.message.event ≡ 0 → ⊥)
      → Contains (writes_of p m id) (write_at (tpdo_object c.message.tpdo) 5 (little_bytes 2 c.message.event))
      ⊎ StandsByDefault p m id c 5 c.message.event
  event_asked other = by (is_three p.version) refl
    where
      by : (b : Bool) → is_three p.version ≡ b
          → Contains (writes_of p m id) (write_at (tpdo_object c.message.tpdo) 5 (little_bytes 2 c.message.event))
          ⊎ StandsByDefault p m id c 5 c.message.event
      by true e = written_or_default p id m c node sends e 5 c.message.event other
          (all_serve p id m c node sends e).event (in_event (made p id m c node sends e) c _)
      by false e = inl (event_written p e id m c node sends other)

  pub start_asked : (c.start ≡ 0 → ⊥)
      → Contains (writes_of p m id) (write_at (tpdo_object c.message.tpdo) 6 (c.start ∷ []))
      ⊎ StandsByDefault p m id c 6 c.start
  start_asked other = by (is_three p.version) refl
    where
      small : c.start < 256
      small = (All-contains IsWritable (clean (plan_of_project p)) c (all_writable p node.sound) sends.planned).start

      by : (b : Bool) → is_three p.version ≡ b
          → Contains (writes_of p m id) (write_at (tpdo_object c.message.tpdo) 6 (c.start ∷ []))
          ⊎ StandsByDefault p m id c 6 c.start
      by true e = subst (λ (bytes : List ℕ). Contains (writes_of p m id) (write_at (tpdo_object c.message.tpdo) 6 bytes)
          ⊎ StandsByDefault p m id c 6 c.start) (byte_itself c.start small)
          (written_or_default p id m c node sends e 6 c.start other (all_serve p id m c node sends e).start
          (in_start (made p id m c node sends e) c _))
      by false e = inl (start_written p e id m c node sends other)
