use Rattle.std.proofs.Common.{◌++◌, ap, is_some, refl, sym, option_map, option_to_list, ◌∙◌}
use Rattle.std.specs.FinMap.{get}
use Rattle.std.specs.List.{flat_map}
use Rattle.ini_text.specs.Change.{section_text}
use Rattle.eds_dcf.specs.Compact.{new_values}
use Rattle.eds_dcf.proofs.EntryLemmas.{is_some_copied, made_of_compact, not_made_beside, not_made_of_others}
use Rattle.eds_dcf.proofs.PieceLemmas.{none_made}
use Rattle.eds_dcf.proofs.TextLemmas.{nothing_more}
use Rattle.eds_dcf.proofs.compact.put_made.Goals as goal

pub returns-then-not-may_have : goal.returns-then-not-may_have
returns-then-not-may_have c =
    nothing_more _ _ (none_made c.args.device.now (get c.args.values.now) c.args.index (λ sub.
    c.may_have.ensures c.if-not-may_have.true c.args.index sub refl))

pub returns-then-is_some : goal.returns-then-is_some
returns-then-is_some c =
    nothing_more _ _ (not_made_beside c.args.device.now (get c.args.values.now) c.args.index
    (sym (ap is_some c.values_section.ensures) ∙ is_some_copied c.values_section.result ∙ sym c.is_some.ensures
    ∙ c.if-is_some.true))

pub returns-in_default : goal.returns-in_default
returns-in_default c =
    nothing_more _ _ (not_made_of_others c.args.device.now (get c.args.values.now) c.args.index
    (sym (ap is_some c.values_section.ensures) ∙ is_some_copied c.values_section.result ∙ sym c.is_some.ensures
    ∙ c.if-is_some.false)
    (sym c.compact_object.ensures ∙ ap (option_map (λ object. (object.0.now, object.1))) c.in_default.is))

pub returns : goal.returns
returns c =
    c.in_ok-put_new.ensures
    ∙ ap (λ set. c.args.out.now.items ++ flat_map section_text (option_to_list (new_values c.args.index set)))
    (c.as_slice.ensures.value ∙ c.in_ok-set.ensures)
    ∙ ap (λ o. c.args.out.now.items ++ flat_map section_text (option_to_list o))
    (made_of_compact c.args.device.now (get c.args.values.now) c.args.index c.in-Some.field-0-0.now
    c.in-Some.highest
    (sym (ap is_some c.values_section.ensures) ∙ is_some_copied c.values_section.result ∙ sym c.is_some.ensures
    ∙ c.if-is_some.false)
    (sym c.compact_object.ensures ∙ ap (option_map (λ object. (object.0.now, object.1))) c.in-Some.is))
