use Rattle.std.proofs.Common.{ap, sym, ◌∙◌}
use Rattle.std.specs.FinMap as map
use Rattle.std.specs.Option.{option_or}
use Rattle.dict_values.specs.Fingerprint.{fingerprint_of, weight, weight_at}
use Rattle.dict_values.specs.Layers.{both_layers}
use Rattle.dict_values.proofs.LayerLemmas.{bare, layered_at, written_above, written_below}
use Rattle.dict_values.proofs.dict.Dict.set.Goals as goal

pub invariant_of-self-then-not-is_shared : goal.invariant_of-self-then-not-is_shared
invariant_of-self-then-not-is_shared c =
    let base = c.self.inside.base in
    let own = c.self.inside.own in
    let nothing = c.is_empty.ensures c.if-is_empty.true in
    c.changed-self-inside.ensures (both_layers base own) c.args.place c.args.value c.self.invariant
    (c.weight_of.ensures
    ∙ ap (weight_at c.args.place) (c.in_ok-before.ensures.before ∙ sym (bare base own c.args.place nothing)))
    (c.weight-added.ensures ∙ ap (weight c.args.place) c.as_slice.ensures.bytes)
    ∙ ap fingerprint_of (sym (ap (λ m. both_layers m own) c.in_ok-before.ensures.ok
    ∙ written_below base own c.args.place c.args.value nothing))

pub invariant_of-self-else-is_empty : goal.invariant_of-self-else-is_empty
invariant_of-self-else-is_empty c =
    let base = c.self.inside.base in
    let own = c.self.inside.own in
    c.changed-self-inside-else-is_empty.ensures (both_layers base own) c.args.place c.args.value c.self.invariant
    (c.weight_above-taken.ensures
    ∙ ap (weight_at c.args.place)
    (ap (λ o. option_or o (map.get base c.args.place)) c.in_ok-before-2.ensures.before
    ∙ sym (layered_at base own c.args.place)))
    (c.weight-added.ensures ∙ ap (weight c.args.place) c.as_slice.ensures.bytes)
    ∙ ap fingerprint_of (sym (ap (both_layers base) c.in_ok-before-2.ensures.ok
    ∙ written_above base own c.args.place c.args.value))

pub returns-in_ok-before-clause-ok : goal.returns-in_ok-before-clause-ok
returns-in_ok-before-clause-ok c =
    let base = c.self.inside.base in
    let own = c.self.inside.own in
    ap (λ m. both_layers m own) c.in_ok-before.ensures.ok
    ∙ written_below base own c.args.place c.args.value (c.is_empty.ensures c.if-is_empty.true)
    ∙ ap (λ m. map.insert m c.args.place c.args.value) c.self.view_is

pub returns-in_ok-before-2-clause-ok : goal.returns-in_ok-before-2-clause-ok
returns-in_ok-before-2-clause-ok c =
    let base = c.self.inside.base in
    let own = c.self.inside.own in
    ap (both_layers base) c.in_ok-before-2.ensures.ok
    ∙ written_above base own c.args.place c.args.value
    ∙ ap (λ m. map.insert m c.args.place c.args.value) c.self.view_is
