-- In version 3 each write of a node of a sound project is a value of an entry that may be written.
use Rattle.std.proofs.Common.{◌≡◌, ℕ, ◌<◌, ◌≤◌, true, List, length, All, Contains, IfSome, Option, Some, None, refl, arith}
use Rattle.std.proofs.Common.{filter_map}
use Rattle.std.specs.BTreeMap.{is_at}
use Rattle.std.specs.FinMap.{get}
use Rattle.std.specs.List.{AllByRecursion, flat_map, range_with_len}
use Rattle.std.specs.Map.{lookup}
use Rattle.std.specs.Option.{option_map_or}
use Rattle.std.specs.Ordering.{nat_cmp}
use Rattle.std.proofs.lemmas.List.Elements.{All-append, All-contains, All-contains_itself, All-weaker}
use Rattle.cia301.specs.PdoObjects.{rpdo_object, tpdo_object}
use Rattle.concise_dcf.specs.declared.write.Write.{Write}
use Rattle.node_parameters.specs.Params.{Texts}
use Rattle.node_parameters.specs.Parameters.{parameter_writes}
use Rattle.eds_dcf.proofs.CarriedTextLemmas.{HasGood}
use Rattle.pdo_stations.specs.declared.as_made.AsMade.{AsMade}
use Rattle.pdo_stations.specs.Devices.{as_made}
use Rattle.pdo_choices.specs.declared.clean.Clean.{Clean}
use Rattle.pdo_choices.specs.declared.consumer.Consumer.{Consumer}
use Rattle.pdo_plan.specs.declared.planned_message.PlannedMessage.{PlannedMessage}
use Rattle.pdo_choices.specs.Limits.{IsNumbered, IsWithin}
use Rattle.pdo_plan.specs.Plan.{clean}
use Rattle.pdo_links.specs.PdoWrites.{rpdo_of, tpdo_of}
use Rattle.pdo_links.specs.Tables.{AreMapped}
use Rattle.pdo_links.specs.VendorWrites.{each_by_number, unused_writes, vendor_link_writes, vendor_rpdo_writes}
use Rattle.pdo_links.specs.VendorWrites.{vendor_tpdo_writes}
use Rattle.pdo_links.specs.Writes.{node_writes}
use Rattle.pdo_links.proofs.Numbered.{Sends, Takes, sends, takes}
use Rattle.pdo_links.proofs.Values.{IsTaken}
use Rattle.pdo_links.proofs.VendorValues.{rpdo_writes_taken, tpdo_writes_taken, unused_taken}
use Rattle.project_plan.proofs.MappedLemmas.{IsWritable}
use Rattle.project_plan.proofs.ValueLemmas.{IsGiven, IsGivenBy, IsLine, parameter_given, taken_given}
use Rattle.project_plan.proofs.VendorPdoLemmas.{in_range, sent, taken}
use Rattle.eds_device.specs.Sheets.{Sheet}

module _ (plan : List PlannedMessage) (sheet : Sheet) (node : ℕ) (within : All IsWithin (clean plan))
    (writable : All IsWritable (clean plan)) where
  abbrev device : AsMade
  device = as_made sheet node

  few_entries : (n : ℕ) → n ≤ 64 → n < 256
  few_entries n le = omega arith

  sent_taken : (number : ℕ) → 1 ≤ number → number ≤ 512 → All (IsTaken sheet node) (sent (clean plan) device node 0 number)
  sent_taken number low high = by (lookup (is_at (nat_cmp number)) (filter_map (tpdo_of node) (clean plan))) refl
    where
      by : (o : Option Clean) → lookup (is_at (nat_cmp number)) (filter_map (tpdo_of node) (clean plan)) ≡ o
          → All (IsTaken sheet node) (option_map_or (vendor_tpdo_writes device) o (unused_writes device (tpdo_object number)))
      by None e = unused_taken sheet node device refl (tpdo_object number)
      by (Some c) e =
          let s : Sends (clean plan) node number c = sends (clean plan) node number c e in
          let limits = All-contains IsWithin (clean plan) c within s.message in
          let numbers = All-contains IsWritable (clean plan) c writable s.message in
          tpdo_writes_taken sheet node device refl c (few_entries (length c.mapping) limits.sent.1) (λ is. numbers.sent)

  taken_taken : (number : ℕ) → 1 ≤ number → number ≤ 512
      → All (IsTaken sheet node) (taken (clean plan) device node 0 number)
  taken_taken number low high = by (lookup (is_at (nat_cmp number)) (filter_map (rpdo_of node) (clean plan))) refl
    where
      by : (o : Option (Clean × Consumer)) → lookup (is_at (nat_cmp number)) (filter_map (rpdo_of node) (clean plan)) ≡ o
          → All (IsTaken sheet node) (option_map_or (λ (t : Clean × Consumer). vendor_rpdo_writes device t.0 t.1) o
          (unused_writes device (rpdo_object number)))
      by None e = unused_taken sheet node device refl (rpdo_object number)
      by (Some t) e =
          let s : Takes (clean plan) node number t = takes (clean plan) node number t e in
          let limits : IsNumbered t.1.rpdo t.1.mapping =
          All-contains (λ (k : Consumer). IsNumbered k.rpdo k.mapping) t.0.consumers t.1
          (All-contains IsWithin (clean plan) t.0 within s.message).taken s.consumer in
          let numbers : AreMapped t.1.mapping = All-contains (λ (k : Consumer). AreMapped k.mapping) t.0.consumers t.1
          (All-contains IsWritable (clean plan) t.0 writable s.message).taken s.consumer in
          rpdo_writes_taken sheet node device refl t.0 t.1 (few_entries (length t.1.mapping) limits.1) (λ is. numbers)

  links_taken : All (IsTaken sheet node) (vendor_link_writes plan device node)
  unfolding vendor_link_writes each_by_number
  links_taken =
      All-append (IsTaken sheet node) (flat_map (sent (clean plan) device node 0) (range_with_len 1 512))
      (flat_map (taken (clean plan) device node 0) (range_with_len 1 512))
      (in_range (IsTaken sheet node) (sent (clean plan) device node 0) 1 512 (omega arith) (omega arith) sent_taken)
      (in_range (IsTaken sheet node) (taken (clean plan) device node 0) 1 512 (omega arith) (omega arith) taken_taken)

  pub vendor_all_given : (params : Texts) → AllByRecursion (HasGood IsLine) sheet.sections
      → ((place : ℕ × ℕ) → IfSome (get params place) IsLine)
      → All (λ w. IsGiven sheet node (w.index, w.sub) w.bytes) (node_writes true plan params sheet node)
  unfolding node_writes
  vendor_all_given params values lines =
      All-append (IsGivenBy sheet node) (parameter_writes sheet params node) (vendor_link_writes plan device node)
      (All-weaker (Contains (parameter_writes sheet params node)) (IsGivenBy sheet node)
      (parameter_given sheet node params values lines) (parameter_writes sheet params node)
      (All-contains_itself (parameter_writes sheet params node)))
      (All-weaker (IsTaken sheet node) (IsGivenBy sheet node) (taken_given sheet node) (vendor_link_writes plan device node)
      links_taken)
