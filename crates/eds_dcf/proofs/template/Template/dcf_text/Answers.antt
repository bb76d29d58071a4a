use Rattle.std.proofs.Common.{ℕ, ◌++◌, IfSome, ap, sym, subst, ◌∙◌}
use Rattle.std.specs.FinMap.{get}
use Rattle.std.specs.List.{flat_map}
use Rattle.co_values.specs.Values.{Fits}
use Rattle.ini_text.specs.Change.{text_of}
use Rattle.eds_device.specs.Described.{kind_at}
use Rattle.eds_device.specs.Sheets.{Sheet}
use Rattle.eds_dcf.specs.Dcf.{made_sections}
use Rattle.eds_dcf.specs.Template.{piece}
use Rattle.eds_dcf.proofs.EntryLemmas.{left_fits}
use Rattle.eds_dcf.proofs.PieceLemmas.{whole_text}
use Rattle.eds_dcf.proofs.template.Template.dcf_text.Goals as goal

pub put_runs-requires-clause-fits : goal.put_runs-requires-clause-fits
put_runs-requires-clause-fits c =
    subst (λ (t : Sheet). (place : ℕ × ℕ) → IfSome (get c.in_ok-values.values place) (Fits (kind_at t place)))
    (sym (c.deref.ensures ∙ c.self.view_is))
    (left_fits c.args.self.now c.args.writes.now (get c.in_ok-values.values) c.requires c.in_ok-values.ensures)

pub put_all_made-requires : goal.put_all_made-requires
put_all_made-requires c =
    subst (λ (t : Sheet). (place : ℕ × ℕ) → IfSome (get c.in_ok-values.values place) (Fits (kind_at t place)))
    (sym (c.deref-4.ensures ∙ c.self.view_is))
    (left_fits c.args.self.now c.args.writes.now (get c.in_ok-values.values) c.requires c.in_ok-values.ensures)

pub returns : goal.returns
returns c =
    let values = get c.in_ok-values.values in
    whole_text c.args.self.now c.args.node c.args.name.now c.args.bitrate c.args.writes.now values
    c.sections.result.now c.new-out.result.items c.put_runs.new.out.items c.put_all_made.new.out.items _
    c.in_ok-values.ensures
    (c.sections.ensures ∙ ap (λ (t : Sheet). t.sections) (c.deref-5.ensures ∙ c.self.view_is))
    c.new-out.ensures.items
    (c.in_ok-put_runs.ensures
    ∙ ap (λ (t : Sheet). c.new-out.result.items ++ flat_map (piece t values) t.sections)
    (c.deref.ensures ∙ c.self.view_is))
    (c.in_ok-put_all_made.ensures
    ∙ ap (λ (t : Sheet). c.put_runs.new.out.items ++ text_of (made_sections t values))
    (c.deref-4.ensures ∙ c.self.view_is))
    c.in_ok-put_commissioning.ensures
