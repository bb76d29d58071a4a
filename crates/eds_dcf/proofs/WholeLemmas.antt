-- A DCF as a whole.
use Rattle.std.proofs.Common.{◌≡◌, ℕ, ◌⊎◌, ◌&&◌, Bool, true, List, Some, option_map, codes, decimal, sym, ap, ◌∙◌}
use Rattle.std.specs.List.{Contains, count_by}
use Rattle.ini_text.specs.Content.{Content, Section, value_at}
use Rattle.concise_dcf.specs.declared.write.Write.{Write}
use Rattle.co_values.specs.Values.{text_of_value}
use Rattle.eds_device.specs.Described.{description_of, kind_at}
use Rattle.eds_device.specs.Names.{values_named}
use Rattle.eds_device.specs.Places.{pairs_of}
use Rattle.eds_device.specs.Sheets.{Sheet, has_new_types, sheet_in}
use Rattle.eds_dcf.specs.Compact.{is_decimal}
use Rattle.eds_dcf.specs.Dcf.{dcf_sections, dcf_sheet}
use Rattle.eds_dcf.specs.Standing.{is_typed, value_that_stands}
use Rattle.eds_dcf.specs.Writes.{last_of}
use Rattle.eds_dcf.proofs.AlikeLemmas.{described_same, new_types_same, pairs_same}
use Rattle.eds_dcf.proofs.CountLemmas.{sections_right}
use Rattle.eds_dcf.proofs.StandingLemmas.{stands}

module _ (sheet : Sheet) (node : ℕ) (name : List ℕ) (bitrate : ℕ) (writes : List Write) where
  pub dcf_pairs : pairs_of (dcf_sections sheet node name bitrate writes) ≡ pairs_of sheet.sections
  unfolding dcf_sections
  dcf_pairs = pairs_same sheet (last_of writes) node name bitrate

  pub dcf_described : (index sub : ℕ) → description_of (dcf_sheet sheet node name bitrate writes) index sub
      ≡ description_of sheet index sub
  unfolding dcf_sections
  dcf_described index sub = described_same sheet (last_of writes) node name bitrate index sub

  pub dcf_stands : (place : ℕ × ℕ) → is_typed sheet place ≡ true
      → value_that_stands (dcf_sections sheet node name bitrate writes) place
      ≡ option_map (text_of_value (kind_at sheet place)) (last_of writes place)
  unfolding dcf_sections
  dcf_stands place typed = stands sheet (last_of writes) node name bitrate place.0 place.1 typed

  pub dcf_counted : (section : Section) → Contains (dcf_sections sheet node name bitrate writes) section → (index : ℕ)
      → values_named section.name ≡ Some index
      → Contains sheet.sections section ⊎ (value_at section.pairs (codes "NrOfEntries")
      ≡ Some (decimal (count_by (λ p. is_decimal p.key) section.pairs)))
  unfolding dcf_sections
  dcf_counted section there index named =
      sections_right sheet (last_of writes) node name bitrate section there index named

  pub dcf_new_types : has_new_types (dcf_sections sheet node name bitrate writes) ≡ has_new_types sheet.sections
  unfolding dcf_sections
  dcf_new_types = new_types_same sheet (last_of writes) node name bitrate

  -- as a version reads it, but for its warned lines, where it is made of a data sheet that this version read
  pub dcf_read : (is_three : Bool) (content : Content) → sheet.is_three ≡ (is_three && has_new_types sheet.sections)
      → content.sections ≡ dcf_sections sheet node name bitrate writes
      → sheet_in is_three content
      ≡ record (dcf_sheet sheet node name bitrate writes) { warnings = content.warnings }
  dcf_read is_three content was is = λ i. record {
    sections = is i;
    warnings = content.warnings;
    is_three = (ap (λ ss. is_three && has_new_types ss) is ∙ ap (λ t. is_three && t) dcf_new_types ∙ sym was) i;
  }
