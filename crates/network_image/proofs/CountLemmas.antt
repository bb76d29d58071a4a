-- The writes of a node can be counted in 32 bits, and each has data of 1 to 512 bytes.
use Rattle.std.proofs.Common.{◌≡◌, ℕ, zero, suc, ◌+◌, ◌*◌, ◌≤◌, ◌==◌, cond, Bool, true, false, List, [], ◌∷◌, ◌++◌}
use Rattle.std.proofs.Common.{length, length-append, All, Option, Some, None, IfSome, Result, Ok, Err, option_map}
use Rattle.std.proofs.Common.{option_and_then, refl, ap, subst, arith}
use Rattle.std.specs.Prelude.{filter_map, if◌then◌else◌, nat_lt}
use Rattle.std.specs.BTreeMap.{is_at}
use Rattle.std.specs.FinMap.{entries}
use Rattle.std.specs.List.{AllByRecursion, find, flat_map, range_with_len}
use Rattle.std.specs.Map.{lookup}
use Rattle.std.specs.Option.{option_map_or}
use Rattle.std.specs.Ordering.{nat_cmp}
use Rattle.std.proofs.lemmas.Bool.Decides.{nat_tests}
use Rattle.std.proofs.lemmas.Cmp.{nat_list_cmp_total}
use Rattle.std.proofs.lemmas.List.Elements.{All-append, All-contains}
use Rattle.std.proofs.lemmas.Map.Lookups.{exact_bytes}
use Rattle.std.proofs.lemmas.Option.{same_Some}
use Rattle.base.proofs.EachLemmas.{all_entries, each_found, each_weaker}
use Rattle.project_edits.specs.Eds.{IsEds}
use Rattle.project_edits.specs.Versions.{is_three}
use Rattle.project_messages.specs.declared.linked.Linked.{Linked}
use Rattle.project_messages.specs.Messages.{IsLinked}
use Rattle.node_parameters.specs.Parameters.{parameter_writes}
use Rattle.node_parameters.proofs.ParameterLemmas.{writes_few, writes_sized}
use Rattle.image_parts.specs.Images.{greatest_place}
use Rattle.co_project.specs.declared.node.Node.{Node}
use Rattle.co_project.specs.Project.{Content as Project, controller_of}
use Rattle.co_project.specs.Sound.{AreTexts, IsMessageOf, IsSound}
use Rattle.co_project.specs.Tables.{node_at, text_at}
use Rattle.concise_dcf.specs.declared.write.Write.{Write}
use Rattle.concise_dcf.specs.Writes.{IsSized}
use Rattle.eds_device.specs.Faults.{most_entries, device_of}
use Rattle.eds_device.specs.Places.{pairs_of}
use Rattle.eds_device.specs.Sheets.{Sheet, sheet_of}
use Rattle.eds_places.specs.declared.fault.DeviceFault.{DeviceFault}
use Rattle.eds_places.specs.declared.fault.DeviceFault.TheVariants.{Range, Limit, BadByte}
use Rattle.ini_text.specs.Content.{Content, content_of}
use Rattle.ini_text.specs.Text.{is_out_of_range, has_bad_byte}
use Rattle.pdo_links.specs.Tables.{AreFew}
use Rattle.pdo_links.specs.VendorWrites.{vendor_link_writes}
use Rattle.pdo_links.specs.Writes.{link_writes, node_writes, set_link_writes}
use Rattle.pdo_links.proofs.Numbered.{sends, takes}
use Rattle.pdo_links.proofs.Sizes.{few_rpdos, few_tpdos}
use Rattle.pdo_links.proofs.VendorSizes.{few_vendor_rpdos, few_vendor_tpdos}
use Rattle.pdo_stations.specs.declared.as_made.AsMade.{AsMade}
use Rattle.pdo_links.specs.PdoWrites.{rpdo_of, tpdo_of}
use Rattle.pdo_choices.specs.declared.clean.Clean.{Clean}
use Rattle.pdo_choices.specs.declared.consumer.Consumer.{Consumer}
use Rattle.pdo_plan.specs.Plan.{clean}
use Rattle.pdo_choices.specs.Had.{had_by}
use Rattle.pdo_choices.specs.Limits.{IsNumbered, IsWithin}
use Rattle.pdo_plan.proofs.ChainLemmas.{all_clean, each_within}
use Rattle.pdo_plan.proofs.JudgedLemmas.{clean_within}
use Rattle.pdo_stations.specs.Devices.{as_made, Devices, devices_of}
use Rattle.project_plan.specs.Network.{member_at, sheets_of_members, plan_of_project, with_sheet, writes_of, Member}

not_over : (most n : ℕ) → nat_lt most n ≡ false → n ≤ most
not_over most n e = grind (arith, nat_tests)

-- ---- the plan of a sound project maps at most 64 entries

module _ (p : Project) (sound : IsSound p) where
  all_linked : All (λ (e : List ℕ × Linked). IsLinked e.1) (entries p.messages)
  unfolding IsMessageOf
  all_linked =
      all_entries nat_list_cmp_total exact_bytes (λ name linked. IsLinked linked) p.messages
      (each_weaker (IsMessageOf p)
      (λ name linked. IsLinked linked) p.messages (λ name linked there is. is.1) sound.messages)

  all_within : All IsWithin (clean (plan_of_project p))
  unfolding plan_of_project
  all_within =
      let cs : List Clean = clean (plan_of_project p) in
      let devices : Devices = devices_of (is_three p.version) (controller_of p) (sheets_of_members p) in
      all_clean IsWithin cs (each_within devices (λ before c. IsWithin c)
      (λ withheld before m c kept e. clean_within (had_by withheld before) devices m c kept e) (entries p.messages) all_linked)

  module _ (node : ℕ) where
    abbrev sent : List (ℕ × Clean)
    sent = filter_map (tpdo_of node) (clean (plan_of_project p))

    abbrev taken : List (ℕ × (Clean × Consumer))
    taken = filter_map (rpdo_of node) (clean (plan_of_project p))

    sent_few : (number : ℕ) (c : Clean) → lookup (is_at (nat_cmp number)) sent ≡ Some c → length c.mapping ≤ 64
    sent_few number c is =
        let there = sends (clean (plan_of_project p)) node number c is in
        (All-contains IsWithin (clean (plan_of_project p)) c all_within there.message).sent.1

    taken_few : (number : ℕ) (t : Clean × Consumer) → lookup (is_at (nat_cmp number)) taken ≡ Some t
        → length t.1.mapping ≤ 64
    taken_few number t is =
        let there = takes (clean (plan_of_project p)) node number t is in
        let within : IsWithin t.0 = All-contains IsWithin (clean (plan_of_project p)) t.0 all_within there.message in
        (All-contains (λ (k : Consumer). IsNumbered k.rpdo k.mapping) t.0.consumers t.1 within.taken there.consumer).1

    -- those of its PDOs are few, and have 1 to 512 bytes each
    record AreLinks (ws : List Write) : Type 0 where
      sizes : All IsSized ws
      count : length ws ≤ 73728

    linked : (tpdos rpdos : List Write) → AreFew tpdos → AreFew rpdos → AreLinks (tpdos ++ rpdos)
    linked tpdos rpdos a b =
        let i : length tpdos ≤ 36864 = a.count in
        let j : length rpdos ≤ 36864 = b.count in
        record {
          sizes = All-append IsSized tpdos rpdos a.sizes b.sizes;
          count = omega (arith, i, j, length-append tpdos rpdos);
        }

    links_held : (sheet : Sheet) (is : Bool) → AreLinks (link_writes is (plan_of_project p) sheet node)
    unfolding set_link_writes vendor_link_writes
    links_held sheet true =
        let device : AsMade = as_made sheet node in
        linked _ _ (few_vendor_tpdos device sent sent_few) (few_vendor_rpdos device taken taken_few)
    links_held sheet false = linked _ _ (few_tpdos sheet node sent sent_few) (few_rpdos taken taken_few)

  -- ---- the EDS of each node has at most 4,096 entries

  text_few : (text : List ℕ) → device_of text ≡ Ok (content_of text)
      → length (pairs_of (content_of text).sections) ≤ 4096
  unfolding device_of
  text_few text is = by (is_out_of_range text) (has_bad_byte text)
      (nat_lt most_entries (length (pairs_of (content_of text).sections))) refl is
    where
      by : (r b t : Bool) → nat_lt most_entries (length (pairs_of (content_of text).sections)) ≡ t
          → (let range : Result Content DeviceFault = Err Range in let bad : Result Content DeviceFault = Err BadByte
          in let limit : Result Content DeviceFault = Err Limit in
          (if r then range else if b then bad else if t then limit else Ok (content_of text)) ≡ Ok (content_of text))
          → length (pairs_of (content_of text).sections) ≤ 4096
      by true b t e h = cc
      by false true t e h = cc
      by false false true e h = cc
      by false false false e h = not_over most_entries (length (pairs_of (content_of text).sections)) e

  module _ (m : Member) where
    text_of_few : (node : Node) (o : Option (List ℕ)) → text_at p.texts node.eds ≡ o
        → option_map (λ (sheet : Sheet). record { node = node; sheet = sheet })
        (option_map (sheet_of (is_three p.version)) o) ≡ Some m
        → length (pairs_of m.sheet.sections) ≤ 4096
    unfolding AreTexts
    text_of_few node None found is = cc
    text_of_few node (Some text) found is =
        let made : Member = record { node = node; sheet = sheet_of (is_three p.version) text } in
        let eds = each_found IsEds p.texts node.eds text sound.texts.1 found in
        subst (λ (x : Member). length (pairs_of x.sheet.sections) ≤ 4096) (same_Some made m is) (text_few text eds.device)

    node_few : (o : Option Node) → option_and_then (with_sheet p) o ≡ Some m → length (pairs_of m.sheet.sections) ≤ 4096
    node_few None is = cc
    node_few (Some node) is = text_of_few node (text_at p.texts node.eds) refl is

  member_few : (id : ℕ) (m : Member) → member_at p id ≡ Some m → length (pairs_of m.sheet.sections) ≤ 4096
  unfolding member_at
  member_few id m is = node_few m (node_at p.nodes id) is

  -- THE WRITES of a node have numbers below the greatest
  pub writes_countable : (id : ℕ) (m : Member) → member_at p id ≡ Some m → length (writes_of p m id) ≤ greatest_place
  unfolding writes_of node_writes
  writes_countable id m is =
      let entries = member_few id m is in
      let parameters = writes_few m.sheet m.node.params id in
      let links = (links_held id m.sheet (is_three p.version)).count in
      omega (
        arith,
        entries,
        parameters,
        links,
        length-append (parameter_writes m.sheet m.node.params id)
            (link_writes (is_three p.version) (plan_of_project p) m.sheet id),
      )

  -- and each has 1 to 512 bytes
  pub writes_fit : (id : ℕ) (m : Member) → All IsSized (writes_of p m id)
  unfolding writes_of node_writes
  writes_fit id m = All-append IsSized (parameter_writes m.sheet m.node.params id)
      (link_writes (is_three p.version) (plan_of_project p) m.sheet id) (writes_sized m.sheet m.node.params id)
      (links_held id m.sheet (is_three p.version)).sizes
