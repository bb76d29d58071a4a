use Rattle.std.proofs.Common.{List, ap, sym, ◌∙◌}
use Rattle.ini_text.specs.Change.{text_of}
use Rattle.eds_device.specs.Sheets.{Sheet}
use Rattle.concise_dcf.specs.declared.write.Write.{Write}
use Rattle.eds_dcf.specs.Dcf.{dcf_sections}
use Rattle.project_parts.specs.Written.{AreValuesOf, DeviceWithWrites}
use Rattle.project_parts.proofs.PlanLemmas.{values_of}
use Rattle.project_parts.proofs.device_writes.DeviceWrites.dcf_text_by.Goals as goal

pub dcf_text-requires : goal.dcf_text-requires
unfolding AreValuesOf
dcf_text-requires c =
    values_of c.self.inside.device c.args.template.now c.self.inside.writes c.as_slice-writes.result.now
    (ap (λ (d : DeviceWithWrites). d.device) c.self.view_is ∙ sym c.requires)
    (sym (c.as_slice-writes.ensures.writes ∙ c.get.ensures)) c.self.invariant

pub returns : goal.returns
returns c =
    c.in_ok-text.ensures
    ∙ ap (λ (d : Sheet). text_of (dcf_sections d c.args.node c.args.name.now c.args.rate
    c.as_slice-writes.result.now)) c.requires
    ∙ ap (λ (ws : List Write). text_of (dcf_sections c.args.self.now.device c.args.node c.args.name.now
    c.args.rate ws)) (c.as_slice-writes.ensures.writes ∙ c.get.ensures ∙ ap (λ (d : DeviceWithWrites). d.writes)
    c.self.view_is)
