use Rattle.std.proofs.Common.{ℕ, List, ◌++◌, ap, sym, subst, IfSome, ◌∙◌}
use Rattle.std.specs.FinMap.{get}
use Rattle.co_values.specs.declared.data_type.DataType.{DataType}
use Rattle.co_values.specs.Values.{Fits}
use Rattle.ini_text.specs.Change.{section_text}
use Rattle.ini_text.specs.Content.{Pair}
use Rattle.eds_device.specs.Names.{values_named}
use Rattle.eds_dcf.specs.Commissioning.{is_commissioning}
use Rattle.eds_dcf.specs.Entries.{parameter_place}
use Rattle.eds_dcf.proofs.EntryLemmas.{read_fits, with_compact, with_none, with_parameter}
use Rattle.eds_dcf.proofs.PieceLemmas.{piece_is, piece_of_node}
use Rattle.eds_dcf.proofs.text.put_with_values.Goals as goal

pub returns-then-is_commissioning : goal.returns-then-is_commissioning
returns-then-is_commissioning c =
    piece_of_node c.args.device.now (get c.args.values.now) c.args.section.now _
    (ap is_commissioning (sym c.name.ensures) ∙ sym c.is_commissioning.ensures ∙ c.if-is_commissioning.true)

pub put_entry-requires : goal.put_entry-requires
put_entry-requires c =
    let place : ℕ × ℕ = (c.in-Some.parameter.index, c.in-Some.parameter.sub) in
    read_fits c.in-Some.parameter.kind c.read-value.result _ c.read-value.ensures.value
    (subst (λ (k : DataType). IfSome (get c.args.values.now place) (Fits k)) (sym c.in-Some.ensures.kind)
    (c.requires place))

pub returns-in-Some : goal.returns-in-Some
returns-in-Some c =
    let place : ℕ × ℕ = (c.in-Some.parameter.index, c.in-Some.parameter.sub) in
    c.in_ok-put_entry.ensures
    ∙ ap (λ (pairs : List Pair). c.args.out.now.items
    ++ section_text (record { name = c.args.section.now.name; pairs = pairs }))
    (with_parameter c.args.device.now (get c.args.values.now) c.args.section.now place
    c.in-Some.parameter.kind _
    (sym (ap (parameter_place c.args.device.now) c.name-2.ensures) ∙ sym c.in-Some.ensures.place)
    c.in-Some.ensures.kind c.read-value.ensures.value)
    ∙ ap (λ t. c.args.out.now.items ++ t) (piece_is c.args.device.now (get c.args.values.now)
    c.args.section.now (ap is_commissioning (sym c.name.ensures) ∙ sym c.is_commissioning.ensures
    ∙ c.if-is_commissioning.false))

pub returns-in-Some-values_named : goal.returns-in-Some-values_named
returns-in-Some-values_named c =
    c.in_ok-put_values_section.ensures
    ∙ ap (λ (pairs : List Pair). c.args.out.now.items
    ++ section_text (record { name = c.args.section.now.name; pairs = pairs }))
    (with_compact c.args.device.now (get c.args.values.now) c.args.section.now c.in-Some-values_named.index
    (sym (ap (parameter_place c.args.device.now) c.name-2.ensures) ∙ sym c.in_default.ensures.place)
    (sym (ap values_named c.name-3.ensures) ∙ sym c.values_named.ensures ∙ c.in-Some-values_named.is))
    ∙ ap (λ t. c.args.out.now.items ++ t) (piece_is c.args.device.now (get c.args.values.now)
    c.args.section.now (ap is_commissioning (sym c.name.ensures) ∙ sym c.is_commissioning.ensures
    ∙ c.if-is_commissioning.false))

pub returns : goal.returns
returns c =
    c.in_ok-put_section.ensures
    ∙ ap (λ (pairs : List Pair). c.args.out.now.items
    ++ section_text (record { name = c.args.section.now.name; pairs = pairs }))
    (with_none c.args.device.now (get c.args.values.now) c.args.section.now
    (sym (ap (parameter_place c.args.device.now) c.name-2.ensures) ∙ sym c.in_default.ensures.place)
    (sym (ap values_named c.name-3.ensures) ∙ sym c.values_named.ensures ∙ c.in_default-values_named.is))
    ∙ ap (λ t. c.args.out.now.items ++ t) (piece_is c.args.device.now (get c.args.values.now)
    c.args.section.now (ap is_commissioning (sym c.name.ensures) ∙ sym c.is_commissioning.ensures
    ∙ c.if-is_commissioning.false))
