use Rattle.std.proofs.Common.{Option, Some, IfSome, option_map, ap, subst, sym, ◌≡◌, ◌∙◌}
use Rattle.eds_device.specs.Sheets.{Sheet}
use Rattle.part_shelves.specs.SheetText.{sheet_made}
use Rattle.part_shelves.proofs.SlotLemmas.{sheet_read}
use Rattle.kept_parts.proofs.KindLemmas.{device_now}
use Rattle.kept_parts.proofs.StepLemmas.{own_template, with_devices}
use Rattle.kept_parts.proofs.kept_parts.KeptParts.template_of_now.Goals as goal

pub returns-in_err-template-clause-same : goal.returns-in_err-template-clause-same
returns-in_err-template-clause-same c = ap (with_devices c.args.self.now) c.template.ensures.same

pub returns-clause-same : goal.returns-clause-same
returns-clause-same c = ap (with_devices c.args.self.now) c.template.ensures.same

pub returns-clause-value : goal.returns-clause-value
returns-clause-value c =
    own_template c.args.project.now c.args.node c.in-Some.known.now c.as_slice-eds.result.now c.in_ok-template.template
    c.in-Some.ensures.node c.as_slice-eds.ensures
    (subst (λ (d : Option Sheet). IfSome c.in_ok-template.template (λ t. d ≡ Some t))
    (ap (option_map sheet_made)
    (device_now c.args.project.now c.args.self.now c.requires c.as_slice-eds.result.now
    (sym c.is_fresh.ensures ∙ c.if-not-is_fresh.false))
    ∙ sheet_read c.args.project.now c.as_slice-eds.result.now)
    c.in_ok-template.ensures.template)
