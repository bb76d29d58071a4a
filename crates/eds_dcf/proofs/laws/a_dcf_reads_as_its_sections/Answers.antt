use Rattle.std.proofs.Common.{refl}
use Rattle.ini_text.specs.Change.{text_of}
use Rattle.ini_text.specs.Content.{content_of}
use Rattle.eds_device.specs.Sheets.{sheet_of}
use Rattle.eds_dcf.specs.Dcf.{dcf_sections}
use Rattle.eds_dcf.proofs.PrintedLemmas.{dcf_again}
use Rattle.eds_dcf.proofs.WholeLemmas.{dcf_read}
use Rattle.eds_dcf.proofs.laws.a_dcf_reads_as_its_sections.Goals as goal

pub returns-clause-sections : goal.returns-clause-sections
returns-clause-sections c =
    λ sheet node name bitrate writes printable label stand.
    dcf_again sheet node name bitrate writes printable label stand

pub returns-clause-data_sheet : goal.returns-clause-data_sheet
returns-clause-data_sheet c =
    λ is_three text node name bitrate writes printable label stand.
    let sheet = sheet_of is_three text in
    dcf_read sheet node name bitrate writes is_three
    (content_of (text_of (dcf_sections sheet node name bitrate writes))) refl (dcf_again sheet node name bitrate writes printable label stand)
