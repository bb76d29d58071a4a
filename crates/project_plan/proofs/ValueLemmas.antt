-- Each write of a node of a sound project is a value of an entry that may be written.
use Rattle.std.proofs.Common.{◌≡◌, ◌∙◌, ℕ, ◌<◌, ◌≤◌, ⊎_elim, true, false, List, length, All, Contains, IfSome, Option}
use Rattle.std.proofs.Common.{Some, None, refl, sym, ap, subst, arith}
use Rattle.std.specs.FinMap.{get}
use Rattle.std.specs.Option.{option_map_or}
use Rattle.std.proofs.lemmas.List.Elements.{All-contains, All-contains_itself, All-weaker}
use Rattle.ini_text.specs.Printable.{IsValue}
use Rattle.std.specs.List.{AllByRecursion}
use Rattle.eds_device.specs.Described.{kind_at}
use Rattle.concise_dcf.specs.declared.write.Write.{Write}
use Rattle.co_values.specs.declared.data_type.DataType.{DataType}
use Rattle.co_values.specs.declared.data_type.DataType.TheVariants.{VisibleString}
use Rattle.co_values.specs.declared.form.Form.TheVariants.{Unsigned, Characters}
use Rattle.co_values.specs.declared.form.Width.{Width}
use Rattle.co_values.specs.declared.form.Width.TheVariants.{Bits8, Bits16, Bits24, Bits32, Bits40, Bits48, Bits56, Bits64}
use Rattle.co_values.specs.Types.{form, is_modelled, is_modelled_form, octets}
use Rattle.co_values.specs.Values.{longest_value, text_of_value, value}
use Rattle.co_values.proofs.Printed.{value-printed}
use Rattle.co_dict.specs.declared.entry.Entry.{Entry}
use Rattle.co_dict.specs.Accesses.{is_writable}
use Rattle.eds_device.specs.Entries.{entry_at}
use Rattle.eds_device.specs.Sheets.{Sheet}
use Rattle.node_parameters.specs.Params.{Texts}
use Rattle.node_parameters.specs.Judgement.{Suits}
use Rattle.node_parameters.specs.Parameters.{parameter_writes}
use Rattle.concise_dcf.specs.Writes.{place_of}
use Rattle.node_parameters.proofs.JudgedLemmas.{judged_entry}
use Rattle.node_parameters.proofs.ParameterLemmas.{kind_of_entry, nothing_else, writes_sized}
use Rattle.pdo_stations.specs.Devices.{is_unsigned, takes_unsigned}
use Rattle.pdo_stations.proofs.UnsignedLemmas.{unsigned_form}
use Rattle.pdo_choices.specs.declared.clean.Clean.{Clean}
use Rattle.pdo_choices.specs.declared.consumer.Consumer.{Consumer}
use Rattle.pdo_plan.specs.declared.planned_message.PlannedMessage.{PlannedMessage}
use Rattle.pdo_plan.specs.Plan.{clean, IsMadeFor}
use Rattle.pdo_choices.specs.Limits.{IsNumbered, IsWithin}
use Rattle.pdo_links.specs.Order.{IsOfSent, IsOfTaken}
use Rattle.pdo_links.specs.Tables.{AreMapped}
use Rattle.pdo_links.specs.PdoWrites.{rpdo_of, tpdo_of}
use Rattle.pdo_links.specs.Writes.{by_number, link_writes, set_link_writes, node_writes, rpdo_writes, tpdo_writes}
use Rattle.pdo_links.proofs.Values.{first_of, fits_unsigned, rpdo_taken, second_of, tpdo_taken, IsTaken}
use Rattle.pdo_links.proofs.WhoseLemmas.{of_either, of_rpdos, of_tpdos}
use Rattle.std.specs.Prelude.{filter_map}
use Rattle.eds_dcf.specs.Printable.{StandsInLine}
use Rattle.eds_dcf.proofs.AgainLemmas.{characters, value_again}
use Rattle.eds_dcf.proofs.ByteLemmas.{IsGood, printed_good}
use Rattle.eds_dcf.proofs.CarriedTextLemmas.{HasGood, text_all}
use Rattle.project_plan.proofs.MappedLemmas.{IsWritable}

-- bytes that can stand in a line of a text, none of them bad
abbrev pub IsLine : List ℕ → Type 0
IsLine bytes = IsValue bytes × IsGood bytes

-- bytes are a value of an entry that may be written, are read again as they are printed, and can stand in a line
pub record IsGiven (sheet : Sheet) (node : ℕ) (place : ℕ × ℕ) (bytes : List ℕ) : Type 0 where
  pub entry : Entry
  pub there : entry_at sheet node place.0 place.1 ≡ Some entry
  pub modelled : is_modelled entry.kind ≡ true
  pub writable : is_writable entry.access ≡ true
  pub again : value entry.kind (text_of_value entry.kind bytes) node ≡ Some bytes
  pub some : 0 < length bytes
  pub few : length bytes ≤ longest_value
  pub in_line : entry.kind ≡ VisibleString → IsLine bytes

module _ (sheet : Sheet) (node : ℕ) where
  abbrev pub IsGivenBy : Write → Type 0
  IsGivenBy w = IsGiven sheet node (w.index, w.sub) w.bytes

  pub stands : (w : Write) → IsGivenBy w → StandsInLine sheet w
  stands w given is = (given.in_line (sym (kind_of_entry sheet node w.index w.sub given.entry given.there) ∙ is)).0

  pub printed : (w : Write) → IsGivenBy w → IsGood (text_of_value (kind_at sheet (w.index, w.sub)) w.bytes)
  printed w given =
      printed_good (kind_at sheet (w.index, w.sub)) w.bytes
      (λ is. (given.in_line (sym (kind_of_entry sheet node w.index w.sub given.entry given.there) ∙ is)).1)

  -- ---- parameters

  module _ (params : Texts) (values : AllByRecursion (HasGood IsLine) sheet.sections)
      (lines : (place : ℕ × ℕ) → IfSome (get params place) IsLine) where
    pub parameter_given : (w : Write) → Contains (parameter_writes sheet params node) w → IsGivenBy w
    parameter_given w has =
        let behind = nothing_else sheet params node w has in
        let text : List ℕ = behind.0 in
        let j = judged_entry (entry_at sheet node w.index w.sub) text w.bytes node behind.2 in
        let entry : Entry = j.0 in
        let s : Suits entry text w.bytes node = j.2 in
        let sized = All-contains (λ (w : Write). (1 ≤ length w.bytes) × (length w.bytes ≤ 512))
        (parameter_writes sheet params node) w (writes_sized sheet params node) has in
        let line : IsLine text =
        subst (λ (o : Option (List ℕ)). IfSome o IsLine) behind.1
        (text_all IsLine sheet params values lines (place_of w)) in
        record {
          entry = entry;
          there = j.1;
          modelled = s.modelled;
          writable = s.writable;
          again = value_again entry.kind text w.bytes node s.spelled;
          some = omega (arith, sized.0);
          few = sized.1;
          in_line =
              λ is. subst IsLine (characters text w.bytes node (subst (λ (k : DataType). value k text node
              ≡ Some w.bytes) is s.spelled)) line;
        }

  -- ---- PDOs

  unsigned_modelled : (kind : DataType) (width : Width) → is_unsigned kind width ≡ true → is_modelled kind ≡ true
  unsigned_modelled kind width e = ap is_modelled_form (unsigned_form kind width e)

  some_octets : (w : Width) → 0 < octets w
  some_octets Bits8 = omega arith
  some_octets Bits16 = omega arith
  some_octets Bits24 = omega arith
  some_octets Bits32 = omega arith
  some_octets Bits40 = omega arith
  some_octets Bits48 = omega arith
  some_octets Bits56 = omega arith
  some_octets Bits64 = omega arith

  few_octets : (w : Width) → octets w ≤ longest_value
  few_octets Bits8 = omega arith
  few_octets Bits16 = omega arith
  few_octets Bits24 = omega arith
  few_octets Bits32 = omega arith
  few_octets Bits40 = omega arith
  few_octets Bits48 = omega arith
  few_octets Bits56 = omega arith
  few_octets Bits64 = omega arith

  no_characters : (kind : DataType) (width : Width) → is_unsigned kind width ≡ true → form kind ≡ Characters → ⊥
  no_characters kind width e is =
      let contrary : Unsigned width ≡ Characters = sym (unsigned_form kind width e) ∙ is in
      cc

  pub taken_given : (w : Write) → IsTaken sheet node w → IsGivenBy w
  taken_given w taken = by (entry_at sheet node w.index w.sub) refl taken.takes
    where
      by : (o : Option Entry) → entry_at sheet node w.index w.sub ≡ o
          → option_map_or (takes_unsigned taken.width) o false ≡ true → IsGivenBy w
      by None is test = cc
      by (Some entry) is test =
          let unsigned : is_unsigned entry.kind taken.width
          ≡ true = first_of (is_unsigned entry.kind taken.width) (is_writable entry.access) test in
          let bytes : 0 < length w.bytes = subst (λ (n : ℕ). 0 < n) (sym taken.long) (some_octets taken.width) in
          record {
            entry = entry;
            there = is;
            modelled = unsigned_modelled entry.kind taken.width unsigned;
            writable = second_of (is_unsigned entry.kind taken.width) (is_writable entry.access) test;
            again = value-printed entry.kind w.bytes node (
              taken.are,
              fits_unsigned entry.kind taken.width w.bytes unsigned taken.long,
            );
            some = bytes;
            few = subst (λ (n : ℕ). n ≤ longest_value) (sym taken.long) (few_octets taken.width);
            in_line = λ string. absurd (no_characters entry.kind taken.width unsigned (ap form string));
          }

  module _ (plan : List PlannedMessage) (made : IsMadeFor plan sheet node) (within : All IsWithin (clean plan))
      (writable : All IsWritable (clean plan)) where
    few_entries : (n : ℕ) → n ≤ 64 → n < 256
    few_entries n le = omega arith

    sent_given : (w : Write) → IsOfSent (clean plan) sheet node w → IsGivenBy w
    sent_given w of =
        let c : Clean = of.0 in
        let limits = All-contains IsWithin (clean plan) c within of.1 in
        let numbers = All-contains IsWritable (clean plan) c writable of.1 in
        taken_given w
        (All-contains (IsTaken sheet node) (tpdo_writes sheet node c) w
        (tpdo_taken sheet node c ((made c of.1).0 of.2) numbers.transmission numbers.start (few_entries (length c.mapping) limits.sent.1)
        numbers.sent) of.3)

    took_given : (w : Write) → IsOfTaken (clean plan) node w → IsGivenBy w
    took_given w of =
        let c : Clean = of.0 in
        let k : Consumer = of.2.0 in
        let limits =
        All-contains (λ (k : Consumer). IsNumbered k.rpdo k.mapping) c.consumers k
        (All-contains IsWithin (clean plan) c within of.1).taken of.2.1 in
        let numbers =
        All-contains (λ (k : Consumer). AreMapped k.mapping) c.consumers k
        (All-contains IsWritable (clean plan) c writable of.1).taken of.2.1 in
        taken_given w
        (All-contains (IsTaken sheet node) (rpdo_writes c k) w
        (rpdo_taken sheet node c k ((made c of.1).1 k of.2.1 of.2.2)
        (few_entries (length k.mapping) limits.1) numbers) of.2.3)

    link_given : (w : Write) → Contains (link_writes false plan sheet node) w → IsGivenBy w
    unfolding set_link_writes
    link_given w has =
        ⊎_elim (λ there. sent_given w (of_tpdos (clean plan) sheet node w there))
        (λ there. took_given w (of_rpdos (clean plan) node w there))
        (of_either (by_number (tpdo_writes sheet node) (filter_map (tpdo_of node) (clean plan)))
        (by_number (λ (t : Clean × Consumer). rpdo_writes t.0 t.1) (filter_map (rpdo_of node) (clean plan))) w has)

    pub all_given : (params : Texts) → AllByRecursion (HasGood IsLine) sheet.sections
        → ((place : ℕ × ℕ) → IfSome (get params place) IsLine)
        → All (λ w. IsGiven sheet node (w.index, w.sub) w.bytes) (node_writes false plan params sheet node)
    unfolding node_writes
    all_given params values lines =
        All-weaker (Contains (node_writes false plan params sheet node)) IsGivenBy
        (λ w has. ⊎_elim (parameter_given params values lines w) (link_given w)
        (of_either (parameter_writes sheet params node) (link_writes false plan sheet node) w has))
        (node_writes false plan params sheet node) (All-contains_itself (node_writes false plan params sheet node))
