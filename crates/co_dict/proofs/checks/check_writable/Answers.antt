use Rattle.std.proofs.Common.{false, true, refl, sym, ◌∙◌}
use Rattle.co_dict.specs.Accesses.{is_writable}
use Rattle.co_dict.proofs.AccessLemmas.{access_by}
use Rattle.co_dict.proofs.checks.check_writable.Goals as goal

pub returns-then-not-is_modelled : goal.returns-then-not-is_modelled
returns-then-not-is_modelled c = λ shape place there.
    access_by shape place c.args.entry.now false (is_writable c.args.entry.now.access)
    (sym c.is_modelled.ensures ∙ c.if-not-is_modelled.true) refl there

pub returns-then-not-is_writable : goal.returns-then-not-is_writable
returns-then-not-is_writable c = λ shape place there.
    access_by shape place c.args.entry.now true false (sym c.is_modelled.ensures ∙ c.if-not-is_modelled.false)
    (sym c.is_writable.ensures ∙ c.if-not-is_writable.true) there

pub returns : goal.returns
returns c = λ shape place there.
    access_by shape place c.args.entry.now true true (sym c.is_modelled.ensures ∙ c.if-not-is_modelled.false)
    (sym c.is_writable.ensures ∙ c.if-not-is_writable.false) there
