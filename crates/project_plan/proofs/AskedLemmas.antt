-- What a clean message asks of its TPDO besides 0 is written.
use Rattle.std.proofs.Common.{◌≡◌, ℕ, zero, ◌+◌, ◌||◌, Bool, true, false, List, [], ◌∷◌, ◌++◌, Contains, Option, Some}
use Rattle.std.proofs.Common.{refl, subst, arith}
use Rattle.std.specs.Prelude.{◌==◌, option_and_then}
use Rattle.std.specs.FinMap.{entries}
use Rattle.std.specs.Option.{option_map_or}
use Rattle.std.proofs.lemmas.Bool.{eqb-true}
use Rattle.std.proofs.lemmas.List.Elements.{All-contains, Contains-append_left, Contains-append_right}
use Rattle.byteorder.specs.Endian.{little_bytes}
use Rattle.co_values.specs.declared.form.Width.{Width}
use Rattle.co_values.specs.declared.form.Width.TheVariants.{Bits8, Bits16}
use Rattle.cia301.specs.CobIds.{no_rtr_bit, off_bit}
use Rattle.concise_dcf.specs.declared.write.Write.{Write}
use Rattle.eds_device.specs.Entries.{entry_at}
use Rattle.eds_device.specs.Sheets.{Sheet}
use Rattle.project_messages.specs.declared.linked.Linked.{Linked}
use Rattle.project_messages.specs.declared.message.Message.{Message}
use Rattle.co_project.specs.Project.{Content, controller_of}
use Rattle.pdo_stations.specs.Devices.{Devices, devices_of, has_unsigned, takes_unsigned}
use Rattle.cia301.specs.PdoObjects.{mapping_object, tpdo_object}
use Rattle.pdo_choices.specs.declared.clean.Clean.{Clean}
use Rattle.pdo_plan.specs.declared.outcome.Outcome.TheVariants.{Planned}
use Rattle.pdo_choices.specs.Had.{Withheld, had_by}
use Rattle.pdo_plan.specs.Plan.{clean, judged_message, plan_of}
use Rattle.pdo_plan.proofs.ChainLemmas.{all_clean, each_clean}
use Rattle.pdo_plan.proofs.FreeLemmas.{faultless}
use Rattle.pdo_plan.proofs.JudgedLemmas.{judged_clean}
use Rattle.pdo_links.specs.PdoWrites.{cob_write, mapping_writes, write_at}
use Rattle.pdo_links.specs.Writes.{start_write, time_write, tpdo_writes}
use Rattle.pdo_links.proofs.Values.{first_of, second_of}
use Rattle.project_edits.specs.Versions.{is_three}
use Rattle.project_plan.specs.Network.{member_at, sheets_of_members, plan_of_project, writes_of, Member}
use Rattle.project_plan.proofs.NetworkLemmas.{described_at}
use Rattle.project_plan.specs.Nodes.{IsSoundNode, Sends}
use Rattle.project_plan.specs.Pdos.{sent_writes}
use Rattle.project_plan.proofs.WritesLemmas.{sent_is_there}

-- ---- the sender has what is asked

-- an entry of the sender takes a value, where that isn't 0
abbrev Takes : Devices → ℕ → ℕ → Width → ℕ → ℕ → Type 0
Takes d node tpdo width sub value = (value == 0 || has_unsigned d node width (tpdo_object tpdo, sub)) ≡ true

record IsAsked (d : Devices) (c : Clean) : Type 0 where
  inhibit : Takes d c.message.node c.message.tpdo Bits16 3 c.message.inhibit
  event : Takes d c.message.node c.message.tpdo Bits16 5 c.message.event
  start : Takes d c.message.node c.message.tpdo Bits8 6 c.start

clean_asked : (controller : Option ℕ) (nodes : List (ℕ × Sheet)) (withheld : Withheld) (before : List Clean) (m : Linked) (c : Clean)
    → judged_message (had_by withheld before) (devices_of false controller nodes) m ≡ Planned c
    → IsAsked (devices_of false controller nodes) c
clean_asked controller nodes withheld before m c e =
    let d : Devices = devices_of false controller nodes in
    let is = judged_clean (had_by withheld before) d m c e in
    let objects = (faultless (had_by withheld before) d m is.faultless).objects in
    let times = second_of _ _ (first_of _ _ objects) in
    let start : Takes d m.message.node m.message.tpdo Bits8 6 c.start =
    subst (λ (n : ℕ). Takes d m.message.node m.message.tpdo Bits8 6 n) is.start (second_of _ _ objects) in
    record {
      inhibit = subst (λ (x : Message). Takes d x.node x.tpdo Bits16 3 x.inhibit) is.message (first_of _ _ times);
      event = subst (λ (x : Message). Takes d x.node x.tpdo Bits16 5 x.event) is.message (second_of _ _ times);
      start = subst (λ (x : Message). Takes d x.node x.tpdo Bits8 6 c.start) is.message start;
    }

all_asked : (p : Content) (c : Clean) → is_three p.version ≡ false → Contains (clean (plan_of_project p)) c
    → IsAsked (devices_of false (controller_of p) (sheets_of_members p)) c
unfolding plan_of_project
all_asked p c old has =
    let d : Devices = devices_of false (controller_of p) (sheets_of_members p) in
    let planned : List Clean = clean (plan_of d (entries p.messages)) in
    All-contains (IsAsked d) planned c
    (all_clean (IsAsked d) planned
    (each_clean d (λ before c. IsAsked d c) (clean_asked (controller_of p) (sheets_of_members p)) (entries p.messages)))
    (subst (λ (b : Bool). Contains (clean (plan_of (devices_of b (controller_of p) (sheets_of_members p)) (entries p.messages))) c) old has)

besides_none : (n : ℕ) (b : Bool) → (n == 0 || b) ≡ true → (n ≡ 0 → ⊥) → b ≡ true
besides_none n b test other = by (n == 0) refl test
  where
    by : (t : Bool) → (n == 0) ≡ t → t || b ≡ true → b ≡ true
    by true none test = absurd (other (eqb-true n 0 none))
    by false some test = test

module _ (p : Content) (id : ℕ) (m : Member) (there : member_at p id ≡ Some m) where
  -- the entry of the node's own EDS takes it
  entry_takes : (tpdo node : ℕ) (width : Width) (sub value : ℕ) → node ≡ id
      → Takes (devices_of false (controller_of p) (sheets_of_members p)) node tpdo width sub value → (value ≡ 0 → ⊥)
      → option_map_or (takes_unsigned width) (entry_at m.sheet id (tpdo_object tpdo) sub) false ≡ true
  entry_takes tpdo node width sub value is takes other =
      let test : has_unsigned (devices_of false (controller_of p) (sheets_of_members p)) id width (tpdo_object tpdo, sub) ≡ true =
      besides_none value (has_unsigned (devices_of false (controller_of p) (sheets_of_members p)) id width (tpdo_object tpdo, sub))
      (subst (λ (n : ℕ). Takes (devices_of false (controller_of p) (sheets_of_members p)) n tpdo width sub value) is takes) other in
      subst (λ (o : Option Sheet). option_map_or (takes_unsigned width)
      (option_and_then (λ sheet. entry_at sheet id (tpdo_object tpdo) sub) o) false ≡ true)
      (described_at p id m there) test

-- what is written in versions 1 and 2
by_old : (p : Content) → is_three p.version ≡ false → (id : ℕ) (m : Member) (c : Clean) (w : Write)
    → Contains (tpdo_writes m.sheet id c) w → Contains (sent_writes p m id c) w
by_old p old id m c w has = rw old has

-- ---- it is written

module _ (sheet : Sheet) (node : ℕ) where
  in_time : (object sub time : ℕ) → option_map_or (takes_unsigned Bits16) (entry_at sheet node object sub) false ≡ true
      → Contains (time_write sheet node object sub time) (write_at object sub (little_bytes 2 time))
  in_time object sub time test = rw test (zero, omega arith, refl)

  in_start : (object start : ℕ) → option_map_or (takes_unsigned Bits8) (entry_at sheet node object 6) false ≡ true
      → Contains (start_write sheet node object start) (write_at object 6 (start ∷ []))
  in_start object start test = rw test (zero, omega arith, refl)

  module _ (c : Clean) where
    abbrev object : ℕ
    object = tpdo_object c.message.tpdo

    abbrev inhibit : List Write
    inhibit = time_write sheet node object 3 c.message.inhibit

    abbrev event : List Write
    event = time_write sheet node object 5 c.message.event

    abbrev start : List Write
    start = start_write sheet node object c.start

    in_tpdo : (w : Write) → Contains (inhibit ++ event ++ start) w → Contains (tpdo_writes sheet node c) w
    unfolding tpdo_writes
    in_tpdo w has =
        let off : List Write = cob_write object (off_bit + (no_rtr_bit + c.identifier))
        ∷ write_at object 2 (c.message.transmission ∷ []) ∷ [] in
        let timing : List Write = inhibit ++ event ++ start in
        let mapping : List Write = mapping_writes (mapping_object object) c.mapping in
        let on : List Write = cob_write object (no_rtr_bit + c.identifier) ∷ [] in
        Contains-append_right off (timing ++ mapping ++ on) w
        (Contains-append_left (timing ++ mapping) on w (Contains-append_left timing mapping w has))

module _ (p : Content) (old : is_three p.version ≡ false) (id : ℕ) (m : Member) (c : Clean) (node : IsSoundNode p id m)
    (sends : Sends p id c) where
  asked : IsAsked (devices_of false (controller_of p) (sheets_of_members p)) c
  asked = all_asked p c old sends.planned

  pub inhibit_written : (c.message.inhibit ≡ 0 → ⊥)
      → Contains (writes_of p m id) (write_at (tpdo_object c.message.tpdo) 3 (little_bytes 2 c.message.inhibit))
  inhibit_written other =
      let w : Write = write_at (tpdo_object c.message.tpdo) 3 (little_bytes 2 c.message.inhibit) in
      let test = entry_takes p id m node.there c.message.tpdo c.message.node Bits16 3 c.message.inhibit sends.sender
      asked.inhibit other in
      let has : Contains (inhibit m.sheet id c) w = in_time m.sheet id (tpdo_object c.message.tpdo) 3
      c.message.inhibit test in
      sent_is_there p id m c w node sends (by_old p old id m c w (in_tpdo m.sheet id c w
      (Contains-append_left (inhibit m.sheet id c ++ event m.sheet id c) (start m.sheet id c) w
      (Contains-append_left (inhibit m.sheet id c) (event m.sheet id c) w has))))

  pub event_written : (c.message.event ≡ 0 → ⊥)
      → Contains (writes_of p m id) (write_at (tpdo_object c.message.tpdo) 5 (little_bytes 2 c.message.event))
  event_written other =
      let w : Write = write_at (tpdo_object c.message.tpdo) 5 (little_bytes 2 c.message.event) in
      let test = entry_takes p id m node.there c.message.tpdo c.message.node Bits16 5 c.message.event sends.sender
      asked.event other in
      let has : Contains (event m.sheet id c) w = in_time m.sheet id (tpdo_object c.message.tpdo) 5
      c.message.event test in
      sent_is_there p id m c w node sends (by_old p old id m c w (in_tpdo m.sheet id c w
      (Contains-append_left (inhibit m.sheet id c ++ event m.sheet id c) (start m.sheet id c) w
      (Contains-append_right (inhibit m.sheet id c) (event m.sheet id c) w has))))

  pub start_written : (c.start ≡ 0 → ⊥)
      → Contains (writes_of p m id) (write_at (tpdo_object c.message.tpdo) 6 (c.start ∷ []))
  start_written other =
      let w : Write = write_at (tpdo_object c.message.tpdo) 6 (c.start ∷ []) in
      let test = entry_takes p id m node.there c.message.tpdo c.message.node Bits8 6 c.start sends.sender asked.start
      other in
      let has : Contains (start m.sheet id c) w = in_start m.sheet id (tpdo_object c.message.tpdo) c.start test in
      sent_is_there p id m c w node sends (by_old p old id m c w (in_tpdo m.sheet id c w
      (Contains-append_right (inhibit m.sheet id c ++ event m.sheet id c) (start m.sheet id c) w has)))
