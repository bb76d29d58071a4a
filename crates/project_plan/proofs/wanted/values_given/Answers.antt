use Rattle.std.proofs.Common.{◌≡◌, ◌<◌, ℕ, List, length, get_or, take, ap}
use Rattle.std.proofs.lemmas.List.{take_all}
use Rattle.eds_device.specs.Places.{pairs_of}
use Rattle.eds_device.proofs.MapLemmas.{has_none, has_more, has_all}
use Rattle.project_plan.specs.Wanted.{values_given, wanted_value}
use Rattle.project_plan.proofs.wanted.values_given.Goals as goal

pub loop-place-init : goal.loop-place-init
loop-place-init c = rw c.new-values.ensures (has_none (wanted_value c.args.device.now c.args.params.now c.args.id))

pub loop-place-preserved : goal.loop-place-preserved
loop-place-preserved c =
    let ps : List (ℕ × ℕ) = c.pairs-place-items.result.now in
    let i : ℕ = c.loop-place.place-index in
    let d : ℕ × ℕ = (0, 0) in
    let lt : i < length (pairs_of c.args.device.now.sections) =
    rw c.pairs-place-items.ensures.pairs at c.loop-place-test.true in
    let is : get_or ps i d ≡ get_or (pairs_of c.args.device.now.sections) i d =
    ap (λ (xs : List (ℕ × ℕ)). get_or xs i d) c.pairs-place-items.ensures.pairs in
    has_more (wanted_value c.args.device.now c.args.params.now c.args.id) c.loop-place.values c.add_wanted.new.values
    (pairs_of c.args.device.now.sections) i d (get_or ps i d) lt is c.in_ok-add_wanted.ensures c.loop-place.invariant

pub returns : goal.returns
unfolding values_given
returns c =
    let ps = pairs_of c.args.device.now.sections in
    let all : take c.loop-place.place-index ps
    ≡ ps = take_all c.loop-place.place-index ps (rw c.pairs-place-items.ensures.pairs at c.loop-place-test.false) in
    has_all (wanted_value c.args.device.now c.args.params.now c.args.id) c.loop-place.values ps
    (rw all at c.loop-place.invariant)
