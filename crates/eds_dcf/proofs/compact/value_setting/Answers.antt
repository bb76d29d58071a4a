use Rattle.std.proofs.Common.{ℕ, Some, ap, sym, ◌∙◌}
use Rattle.std.specs.FinMap.{get}
use Rattle.eds_dcf.specs.Compact.{is_compact}
use Rattle.eds_dcf.proofs.EntryLemmas.{found_fits_at, no_compact_sub, no_value, pair_of_value}
use Rattle.eds_dcf.proofs.compact.value_setting.Goals as goal

pub returns-then-not-is_compact : goal.returns-then-not-is_compact
returns-then-not-is_compact c =
    let place : ℕ × ℕ = (c.args.index, c.args.sub) in
    no_compact_sub c.args.device.now (get c.args.values.now) place (ap is_compact (sym c.origin.ensures)
    ∙ sym c.is_compact.ensures ∙ c.if-not-is_compact.true)

pub returns-in_default : goal.returns-in_default
returns-in_default c =
    let place : ℕ × ℕ = (c.args.index, c.args.sub) in
    no_value c.args.device.now (get c.args.values.now) place (sym c.in_default.ensures.value)

pub text_of-requires : goal.text_of-requires
text_of-requires c =
    let place : ℕ × ℕ = (c.args.index, c.args.sub) in
    found_fits_at c.args.device.now (get c.args.values.now) place _ _ c.requires c.kind.ensures
    (sym c.in-Some.ensures.value)

pub returns : goal.returns
returns c =
    let place : ℕ × ℕ = (c.args.index, c.args.sub) in
    ap Some c.new.ensures
    ∙ pair_of_value c.args.device.now (get c.args.values.now) place _ _ _ _
    (ap is_compact (sym c.origin.ensures) ∙ sym c.is_compact.ensures ∙ c.if-not-is_compact.false)
    (sym c.in-Some.ensures.value)
    c.kind.ensures (ap (λ v. v.items) c.into_bytes-key.ensures.value
    ∙ c.in_ok-to_string.ensures.ok) c.in_ok-text.ensures
