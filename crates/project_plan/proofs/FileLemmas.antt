-- The DCF of a node of a sound project, read again.
use Rattle.std.proofs.Common.{◌≡◌, ◌≤◌, ◌∙◌, ℕ, ◌&&◌, Bool, true, false, cond, List, [], ◌∷◌, length, All, Contains, IfSome}
use Rattle.std.proofs.Common.{Option, Some, None, Ok, Err, refl, sym, ap, subst, nat_lt, arith}
use Rattle.std.specs.FinMap.{empty, get}
use Rattle.std.proofs.lemmas.List.Elements.{All-contains, All-contains_itself, All-weaker}
use Rattle.std.specs.List.{AllByRecursion}
use Rattle.ini_text.specs.Content.{Pair, Section, content_of}
use Rattle.ini_text.specs.Printable.{IsPrintable, IsPrintablePair, IsPrintableSection, IsValue}
use Rattle.ini_text.specs.Text.{has_bad_byte, is_long_line, is_out_of_range}
use Rattle.std.proofs.lemmas.Bool.{or_from, or_parts}
use Rattle.std.proofs.lemmas.Bool.Decides.{nat_tests}
use Rattle.std.specs.List.{list_any}
use Rattle.ini_text.proofs.ReadLemmas.{read_is_printable}
use Rattle.concise_dcf.specs.declared.write.Write.{Write}
use Rattle.base.specs.Lines.{lines_of}
use Rattle.project_edits.specs.Eds.{most_bytes, most_lines, text_of as kept_text, IsEds}
use Rattle.project_edits.specs.Edits.{IsSetting}
use Rattle.project_edits.specs.Forms.{is_name}
use Rattle.eds_device.specs.Entries.{entry_at}
use Rattle.eds_places.specs.declared.fault.DeviceFault.TheVariants.{BadByte, Limit, Range}
use Rattle.eds_device.specs.Faults.{device_of, most_entries}
use Rattle.eds_device.specs.Places.{pairs_of}
use Rattle.node_parameters.specs.Parameters.{parameter_writes}
use Rattle.eds_dcf.specs.Dcf.{dcf_sections, dcf_sheet}
use Rattle.eds_dcf.specs.Printable.{StandsInLine}
use Rattle.eds_dcf.specs.Writes.{is_to, last_of}
use Rattle.co_values.specs.Values.{text_of_value}
use Rattle.eds_device.specs.Described.{description_of, kind_at}
use Rattle.eds_device.specs.Sheets.{Sheet, has_new_types}
use Rattle.eds_dcf.proofs.ByteLemmas.{IsGood, IsGoodPair, IsGoodSection, dcf_good}
use Rattle.eds_dcf.proofs.CarriedTextLemmas.{HasGood}
use Rattle.eds_dcf.proofs.LengthLemmas.{IsShortSection, IsShortText, dcf_short, printed_short}
use Rattle.eds_dcf.proofs.CarriedLemmas.{carried, dcf_entry, entry_warned, writes_warned, LeaveParameters}
use Rattle.eds_dcf.proofs.PrintedLemmas.{dcf_again, dcf_printable}
use Rattle.eds_dcf.proofs.WholeLemmas.{dcf_pairs, dcf_read}
use Rattle.cia301.specs.PdoObjects.{is_of_pdos}
use Rattle.project_edits.specs.Versions.{is_three}
use Rattle.pdo_stations.specs.Devices.{as_made}
use Rattle.pdo_links.specs.VendorWrites.{vendor_link_writes}
use Rattle.pdo_links.specs.Writes.{link_writes, node_writes}
use Rattle.co_project.specs.Project.{Content}
use Rattle.co_project.specs.Sound.{IsNodeOf}
use Rattle.project_plan.specs.Network.{plan_of_project, writes_of, Member}
use Rattle.project_plan.proofs.NetworkLemmas.{made_for_member}
use Rattle.project_plan.specs.Files.{dcf_text, sheet_of_dcf, value_in_file}
use Rattle.project_plan.specs.Nodes.{IsSoundNode}
use Rattle.project_plan.proofs.AloneLemmas.{all_within, within}
use Rattle.project_plan.proofs.DcfLemmas.{given, left_alone, to_another}
use Rattle.project_plan.proofs.MappedLemmas.{all_writable}
use Rattle.project_plan.proofs.MemberLemmas.{is_device, is_node, is_setting, member, no_pdo_params, IsMember}
use Rattle.project_plan.proofs.PdoLemmas.{links_pdo, not_pdo}
use Rattle.project_plan.proofs.VendorPdoLemmas.{vendor_links_pdo}
use Rattle.project_plan.proofs.VendorValueLemmas.{vendor_all_given}
use Rattle.project_plan.proofs.ReadBytesLemmas.{content_good}
use Rattle.project_plan.proofs.ReadLengthLemmas.{content_short}
use Rattle.project_plan.proofs.TextLemmas.{HasNoLongLine, name_good, name_short, name_value, sections_again}
use Rattle.project_plan.proofs.TextLemmas.{text_good, text_lines, text_value}
use Rattle.project_plan.proofs.ValueLemmas.{IsGiven, IsLine, all_given, printed, stands}

-- the text of a device has no bad byte
no_bad_byte : (text : List ℕ) → device_of text ≡ Ok (content_of text) → has_bad_byte text ≡ false
unfolding device_of
no_bad_byte text is = by (is_out_of_range text) (has_bad_byte text)
    (nat_lt most_entries (length (pairs_of (content_of text).sections))) is
  where
    by : (long bad many : Bool) → cond long (Err Range)
        (cond bad (Err BadByte) (cond many (Err Limit) (Ok (content_of text)))) ≡ Ok (content_of text) → bad ≡ false
    by true bad many e = cc
    by false true many e = cc
    by false false many e = refl

-- nor a long line
no_long_line : (text : List ℕ) → device_of text ≡ Ok (content_of text) → HasNoLongLine text
unfolding device_of
no_long_line text is = by (is_out_of_range text) (has_bad_byte text)
    (nat_lt most_entries (length (pairs_of (content_of text).sections))) is refl
  where
    by : (long bad many : Bool) → cond long (Err Range)
        (cond bad (Err BadByte) (cond many (Err Limit) (Ok (content_of text)))) ≡ Ok (content_of text)
        → is_out_of_range text ≡ long → HasNoLongLine text
    by true bad many e f = cc
    by false bad many e f =
        (or_parts (nat_lt most_bytes (length text)) (list_any is_long_line (lines_of text)) f).1

pairs_in_line : (ps : List Pair) → AllByRecursion IsPrintablePair ps → AllByRecursion IsGoodPair ps
    → AllByRecursion (λ (p : Pair). IsLine p.value) ps
pairs_in_line [] h g = tt
pairs_in_line (p ∷ ps) h g = ((h.0.value, g.0.1), pairs_in_line ps h.1 g.1)

sections_in_line : (ss : List Section) → AllByRecursion IsPrintableSection ss → AllByRecursion IsGoodSection ss
    → AllByRecursion (HasGood IsLine) ss
sections_in_line [] h g = tt
sections_in_line (s ∷ ss) h g = (pairs_in_line s.pairs h.0.pairs g.0.pairs, sections_in_line ss h.1 g.1)

-- a data sheet with other warned lines gives the same values
value_warned : (sheet : Sheet) (warnings : List ℕ) (node : ℕ) (place : ℕ × ℕ)
    → value_in_file (record sheet { warnings = warnings }) node place ≡ value_in_file sheet node place
unfolding value_in_file entry_at description_of
value_warned sheet warnings node place = refl

-- ---- the DCF of a node

module _ (project : Content) (id : ℕ) (m : Member) (node : IsSoundNode project id m) where
  here : IsMember project id m
  here = member project id m node.there

  printable : IsPrintable m.sheet.sections
  printable = subst (λ (s : Sheet). IsPrintable s.sections) here.read (read_is_printable here.text)

  -- its EDS has no bad byte
  good : AllByRecursion IsGoodSection m.sheet.sections
  good = subst (λ (s : Sheet). AllByRecursion IsGoodSection s.sections) here.read
      (content_good here.text (no_bad_byte here.text (is_device project id m node.sound here)))

  values_in_line : AllByRecursion (HasGood IsLine) m.sheet.sections
  values_in_line = sections_in_line m.sheet.sections printable.each good

  label : IsValue m.node.name
  unfolding IsNodeOf
  label = name_value m.node.name (is_node project id m node.sound here).2

  lines : (place : ℕ × ℕ) → IfSome (get m.node.params place) IsLine
  unfolding IsSetting
  lines place = by (get m.node.params place) refl
    where
      by : (o : Option (List ℕ)) → get m.node.params place ≡ o → IfSome o IsLine
      by None e = tt
      by (Some text) e =
          let setting = is_setting project id m node.sound here place text e in
          (text_value text setting.2, text_good text setting.2)

  all : All (λ (w : Write). IsGiven m.sheet id (w.index, w.sub) w.bytes) (writes_of project m id)
  unfolding writes_of
  all = by (is_three project.version) refl
    where
      by : (b : Bool) → is_three project.version ≡ b → All (λ (w : Write). IsGiven m.sheet id (w.index, w.sub) w.bytes)
          (node_writes b (plan_of_project project) m.node.params m.sheet id)
      by true e = vendor_all_given (plan_of_project project) m.sheet id (all_within project node.sound)
          (all_writable project node.sound) m.node.params values_in_line lines
      by false e = all_given m.sheet id (plan_of_project project) (made_for_member project id m e node.there)
          (all_within project node.sound) (all_writable project node.sound) m.node.params values_in_line lines

  all_stand : All (StandsInLine m.sheet) (writes_of project m id)
  all_stand = All-weaker (λ (w : Write). IsGiven m.sheet id (w.index, w.sub) w.bytes) (StandsInLine m.sheet)
      (stands m.sheet id) (writes_of project m id) all

  again : (content_of (dcf_text project id m)).sections
      ≡ dcf_sections m.sheet id m.node.name project.bitrate (writes_of project m id)
  unfolding dcf_text
  again = dcf_again m.sheet id m.node.name project.bitrate (writes_of project m id) printable label all_stand

  -- the data sheet that it is
  abbrev dcf : Sheet
  dcf = dcf_sheet m.sheet id m.node.name project.bitrate (writes_of project m id)

  abbrev lines_warned : List ℕ
  lines_warned = (content_of (dcf_text project id m)).warnings

  read_again : sheet_of_dcf project id m ≡ record dcf { warnings = lines_warned }
  read_again =
      dcf_read m.sheet id m.node.name project.bitrate (writes_of project m id) (is_three project.version)
      (content_of (dcf_text project id m))
      (subst (λ (s : Sheet). s.is_three ≡ (is_three project.version && has_new_types s.sections)) here.read refl) again

  pub values : (place : ℕ × ℕ) → value_in_file (sheet_of_dcf project id m) id place
      ≡ last_of (writes_of project m id) place
  values place = ap (λ (sheet : Sheet). value_in_file sheet id place) read_again
      ∙ value_warned dcf lines_warned id place
      ∙ given m.sheet id m.node.name project.bitrate (writes_of project m id) all place

  -- the plan writes PDOs alone
  of_pdos : (b : Bool) (w : Write) → Contains (link_writes b (plan_of_project project) m.sheet id) w
      → is_of_pdos w.index ≡ true
  of_pdos true w has = All-contains (λ (w : Write). is_of_pdos w.index ≡ true)
      (vendor_link_writes (plan_of_project project) (as_made m.sheet id) id) w
      (vendor_links_pdo (plan_of_project project) (as_made m.sheet id) id) has
  of_pdos false w has = links_pdo (plan_of_project project) m.sheet id (within project node.sound) w has

  -- what the plan writes leaves the parameters
  parameters_left : LeaveParameters m.sheet m.node.params id (writes_of project m id)
  unfolding writes_of node_writes
  parameters_left place other =
      let links : List Write = link_writes (is_three project.version) (plan_of_project project) m.sheet id in
      left_alone place (parameter_writes m.sheet m.node.params id) links
      (All-weaker (Contains links) (λ w. is_to place w ≡ false)
      (λ w has. to_another place w other (of_pdos (is_three project.version) w has)) links (All-contains_itself links))

  pub parameters : parameter_writes (sheet_of_dcf project id m) empty id ≡ parameter_writes m.sheet m.node.params id
  parameters =
      ap (λ (sheet : Sheet). parameter_writes sheet empty id) read_again
      ∙ writes_warned dcf lines_warned empty id
      ∙ carried m.sheet m.node.params id m.node.name project.bitrate (writes_of project m id) parameters_left
      (not_pdo m.sheet m.node.params id (no_pdo_params project id m node.sound here))

  pub entries : (index sub : ℕ) → entry_at (sheet_of_dcf project id m) id index sub ≡ entry_at m.sheet id index sub
  entries index sub = ap (λ (sheet : Sheet). entry_at sheet id index sub) read_again
      ∙ entry_warned dcf lines_warned id index sub
      ∙ dcf_entry m.sheet id m.node.name project.bitrate (writes_of project m id) index sub

  -- ---- the text of a device

  places : pairs_of (content_of (dcf_text project id m)).sections ≡ pairs_of (content_of here.text).sections
  places = ap pairs_of again ∙ dcf_pairs m.sheet id m.node.name project.bitrate (writes_of project m id)
      ∙ ap (λ (s : Sheet). pairs_of s.sections) (sym here.read)

  -- and no longer line
  short : AllByRecursion IsShortSection m.sheet.sections
  short = subst (λ (s : Sheet). AllByRecursion IsShortSection s.sections) here.read
      (content_short here.text (no_long_line here.text (is_device project id m node.sound here)))

  pub no_long : list_any is_long_line (lines_of (dcf_text project id m)) ≡ false
  unfolding dcf_text IsNodeOf
  no_long =
      text_lines (dcf_sections m.sheet id m.node.name project.bitrate (writes_of project m id))
      (dcf_printable m.sheet id m.node.name project.bitrate (writes_of project m id) printable label all_stand).each
      (dcf_short m.sheet id m.node.name project.bitrate (writes_of project m id) short
      (name_short m.node.name (is_node project id m node.sound here).2)
      (All-weaker (λ (w : Write). IsGiven m.sheet id (w.index, w.sub) w.bytes)
      (λ (w : Write). IsShortText (text_of_value (kind_at m.sheet (w.index, w.sub)) w.bytes))
      (λ w given. printed_short (kind_at m.sheet (w.index, w.sub)) w.bytes given.few)
      (writes_of project m id) all))

  within_limits : length (dcf_text project id m) ≤ most_bytes → is_out_of_range (dcf_text project id m) ≡ false
  within_limits few = or_from (nat_lt most_bytes (length (dcf_text project id m))) _
      (at_most (length (dcf_text project id m)) few) no_long
    where
      at_most : (n : ℕ) → n ≤ most_bytes → nat_lt most_bytes n ≡ false
      at_most n le = grind (arith, nat_tests)

  pub no_bad : has_bad_byte (dcf_text project id m) ≡ false
  unfolding dcf_text IsNodeOf
  no_bad =
      dcf_good m.sheet id m.node.name project.bitrate (writes_of project m id) good
      (name_good m.node.name (is_node project id m node.sound here).2)
      (All-weaker (λ (w : Write). IsGiven m.sheet id (w.index, w.sub) w.bytes)
      (λ (w : Write). IsGood (text_of_value (kind_at m.sheet (w.index, w.sub)) w.bytes))
      (printed m.sheet id) (writes_of project m id) all)

  few : (text : List ℕ) → device_of text ≡ Ok (content_of text)
      → nat_lt most_entries (length (pairs_of (content_of text).sections)) ≡ false
  unfolding device_of
  few text is = by (is_out_of_range text) (has_bad_byte text)
      (nat_lt most_entries (length (pairs_of (content_of text).sections))) is
    where
      by : (long bad many : Bool) → cond long (Err Range)
          (cond bad (Err BadByte) (cond many (Err Limit) (Ok (content_of text)))) ≡ Ok (content_of text) → many ≡ false
      by true bad many e = cc
      by false true many e = cc
      by false false true e = cc
      by false false false e = refl

  pub device : length (dcf_text project id m) ≤ most_bytes
      → device_of (dcf_text project id m) ≡ Ok (content_of (dcf_text project id m))
  unfolding device_of
  device within =
      let same : nat_lt most_entries (length (pairs_of (content_of (dcf_text project id m)).sections)) ≡ false =
      ap (λ (ps : List (ℕ × ℕ)). nat_lt most_entries (length ps)) places
      ∙ few here.text (is_device project id m node.sound here) in
      rw (within_limits within, no_bad, same) refl

  kept : kept_text (lines_of (dcf_text project id m)) ≡ dcf_text project id m
  unfolding dcf_text
  kept =
      sections_again (dcf_sections m.sheet id m.node.name project.bitrate (writes_of project m id))
      (dcf_printable m.sheet id m.node.name project.bitrate (writes_of project m id) printable label all_stand).each

  -- and it is kept as it is by an `eds` command
  pub taken_in : (name : List ℕ) → is_name name ≡ true → length (lines_of (dcf_text project id m)) ≤ most_lines
      → length (dcf_text project id m) ≤ most_bytes → IsEds name (dcf_text project id m)
  taken_in name named few within = record { name = named; lines = few; ended = kept; device = device within }
