use Rattle.std.proofs.Common.{◌≡◌, [], ◌∷◌, option_map, ap, sym, subst, ◌∙◌}
use Rattle.kept_values.specs.Shelved.{Shelved, kept_at}
use Rattle.kept_values.specs.Stale.{AreBrought}
use Rattle.kept_values.proofs.Brought.{both, is_there, refreshes_built, refreshes_none}
use Rattle.kept_parts.specs.Kept.{kept_inputs, IsOf}
use Rattle.project_parts.specs.Given.{inputs_of, same_part}
use Rattle.project_parts.specs.Reached.{for_writes}
use Rattle.project_parts.specs.Offered.{offered_dcf}
use Rattle.project_parts.specs.declared.dcf_from.DcfFrom.{DcfFrom}
use Rattle.project_parts.specs.declared.part.Part.TheVariants as part
use Rattle.kept_parts.specs.declared.kept_parts.KeptParts.{KeptParts}
use Rattle.kept_parts.proofs.KindLemmas.{dcf_brought, dcf_is_of, dcf_now}
use Rattle.kept_parts.proofs.StepLemmas.{dcf_settled, dcf_unsettled, of_own_device, with_dcf}
use Rattle.kept_parts.proofs.kept_parts.KeptParts.bring_dcf.Goals as goal

pub settle-requires : goal.settle-requires
settle-requires c = λ unmarked.
    dcf_now c.args.project.now c.bring_writes.new.self c.in_ok-written.ensures.is_of c.args.node unmarked
    ∙ sym c.of-now.ensures

-- ---- the DCF is of these inputs

pub returns-then-settle-clause-is_of : goal.returns-then-settle-clause-is_of
returns-then-settle-clause-is_of c =
    dcf_is_of c.args.project.now c.bring_writes.new.self c.in_ok-written.ensures.is_of c.args.node
    c.settle.new.self (option_map offered_dcf c.of-now.result) c.of-now.ensures
    (dcf_settled c.args.node (option_map offered_dcf c.of-now.result) c.bring_writes.new.self.dcf c.settle.new.self
    (c.settle.ensures.same.0 c.if-settle.true) c.settle.ensures.kept)
    (c.settle.ensures.fresh c.if-settle.true)

pub returns-then-settle-clause-brings : goal.returns-then-settle-clause-brings
returns-then-settle-clause-brings c =
    let p = c.args.project.now in
    let key = c.args.node in
    let first = c.bring_writes.new in
    let now = option_map offered_dcf c.of-now.result in
    let current = c.settle.ensures.same.0 c.if-settle.true in
    both same_part (inputs_of p) (for_writes p key) (part.Dcf key ∷ []) (kept_inputs c.args.self.now) (kept_inputs first.self) _
    c.args.meter.now first.meter first.meter c.in_ok-written.ensures.brings
    (dcf_brought p first.self c.in_ok-written.ensures.is_of key c.settle.new.self now c.of-now.ensures
    (dcf_settled key now first.self.dcf c.settle.new.self current c.settle.ensures.kept)
    (c.settle.ensures.fresh c.if-settle.true)
    first.meter first.meter (refreshes_none (kept_at first.self.dcf key) now first.meter current))

-- ---- or of others

pub template_of_now-requires : goal.template_of_now-requires
template_of_now-requires c =
    subst (λ (dcf : Shelved DcfFrom). IsOf c.args.project.now (with_dcf c.bring_writes.new.self dcf))
    (sym (c.settle.ensures.stale c.if-settle.false)) c.in_ok-written.ensures.is_of

pub with_template-now-requires : goal.with_template-now-requires
with_template-now-requires c = λ t d is e.
    of_own_device c.args.project.now c.args.node c.in_ok-template.template t d c.in_ok-template.ensures.value is
    (sym c.of-now.ensures ∙ e)

pub returns-in_err-template-clause-is_of : goal.returns-in_err-template-clause-is_of
returns-in_err-template-clause-is_of c =
    subst (IsOf c.args.project.now)
    (sym (dcf_unsettled c.bring_writes.new.self c.template_of_now.new.self c.settle.new.self
    (c.settle.ensures.stale c.if-settle.false) c.template_of_now.ensures.same))
    c.in_ok-written.ensures.is_of

pub returns-in_err-build-clause-is_of : goal.returns-in_err-build-clause-is_of
returns-in_err-build-clause-is_of c =
    subst (λ (dcf : Shelved DcfFrom). IsOf c.args.project.now (with_dcf c.template_of_now.new.self dcf))
    (sym c.in_err-build.ensures.err)
    (subst (IsOf c.args.project.now)
    (sym (dcf_unsettled c.bring_writes.new.self c.template_of_now.new.self c.settle.new.self
    (c.settle.ensures.stale c.if-settle.false) c.template_of_now.ensures.same))
    c.in_ok-written.ensures.is_of)

pub returns-clause-is_of : goal.returns-clause-is_of
returns-clause-is_of c =
    let p = c.args.project.now in
    let first = c.bring_writes.new.self in
    let later = c.template_of_now.new.self in
    let same = dcf_unsettled first later c.settle.new.self (c.settle.ensures.stale c.if-settle.false)
    c.template_of_now.ensures.same in
    dcf_is_of p later (subst (IsOf p) (sym same) c.in_ok-written.ensures.is_of) c.args.node c.build.new.self
    (option_map offered_dcf c.with_template-now.result) (c.with_template-now.ensures ∙ c.of-now.ensures)
    c.in_ok-build.ensures.ok c.in_ok-build.ensures.fresh

pub returns-clause-brings : goal.returns-clause-brings
returns-clause-brings c =
    let p = c.args.project.now in
    let key = c.args.node in
    let first = c.bring_writes.new in
    let later = c.template_of_now.new.self in
    let m = first.meter in
    let n = c.build.new.meter in
    let now = option_map offered_dcf c.with_template-now.result in
    let same = dcf_unsettled first.self later c.settle.new.self (c.settle.ensures.stale c.if-settle.false)
    c.template_of_now.ensures.same in
    let other : kept_at later.dcf key ≡ now → ⊥ = λ e.
    let settled = c.settle.ensures.same.1 (ap (λ (k : KeptParts). kept_at k.dcf key) (sym same) ∙ e
    ∙ c.with_template-now.ensures) in
    let unsettled = c.if-settle.false in
    cc in
    both same_part (inputs_of p) (for_writes p key) (part.Dcf key ∷ []) (kept_inputs c.args.self.now) (kept_inputs first.self) _
    c.args.meter.now m n c.in_ok-written.ensures.brings
    (subst (λ (k : KeptParts). AreBrought same_part (inputs_of p) (part.Dcf key ∷ []) (kept_inputs k)
    (kept_inputs (with_dcf later c.build.new.self)) m n)
    same
    (dcf_brought p later (subst (IsOf p) (sym same) c.in_ok-written.ensures.is_of) key c.build.new.self now
    (c.with_template-now.ensures ∙ c.of-now.ensures) c.in_ok-build.ensures.ok c.in_ok-build.ensures.fresh m n
    (refreshes_built (kept_at later.dcf key) now c.with_template-now.result m n other
    (is_there offered_dcf c.with_template-now.result) c.in_ok-build.ensures.counted
    c.in_ok-build.ensures.nothing_built c.build.ensures.rises)))
