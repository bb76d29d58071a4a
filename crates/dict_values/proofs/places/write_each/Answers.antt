use Rattle.std.proofs.Common.{ℕ, List, ap, ◌∙◌, sym}
use Rattle.std.specs.FinMap.{entries}
use Rattle.dict_values.specs.Restored.{with_all}
use Rattle.dict_values.proofs.PlaceLemmas.{entries_made}
use Rattle.dict_values.proofs.WrittenLemmas.{has_written, one_more_written}
use Rattle.dict_values.proofs.places.write_each.Goals as goal

pub loop-place-init : goal.loop-place-init
loop-place-init c =
    ap (λ es. with_all c.args.first c.args.last c.args.inside es c.args.dict.now)
    (c.into_iter-place-iterator.ensures.into_iter_gives ∙ c.iter-place-items.ensures.rest
    ∙ sym (entries_made c.from.inside.held.entries c.iter-place-items.ensures.ordered)
    ∙ ap entries c.from.view_is)

pub loop-place-preserved : goal.loop-place-preserved
loop-place-preserved c =
    let e : (ℕ × ℕ) × List ℕ = (c.in-Some.place.now, c.in-Some.value.now) in
    one_more_written c.args.first c.args.last c.args.inside c.loop-place.place-iterator c.next.new.self e
    c.loop-place.dict c.write_if.new.dict c.is_kept.result
    c.in-Some.ensures.steps c.is_kept.ensures c.in_ok-write_if.ensures
    ∙ c.loop-place.invariant

pub returns : goal.returns
returns c =
    has_written c.args.first c.args.last c.args.inside c.args.from.now c.args.dict.now c.loop-place.dict
    (ap (λ es. with_all c.args.first c.args.last c.args.inside es c.loop-place.dict) (sym c.in-None.ensures.steps.0)
    ∙ c.loop-place.invariant)
