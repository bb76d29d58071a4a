use Rattle.std.proofs.Common.{◌≡◌, ◌<◌, ℕ, List, length, get_or, take, sym, ap}
use Rattle.std.proofs.lemmas.List.{take_all}
use Rattle.std.specs.FinMap.{get, remove}
use Rattle.eds_device.specs.Entries.{default_at, defaults_of}
use Rattle.eds_device.specs.Places.{pairs_of}
use Rattle.eds_device.proofs.MapLemmas.{has_more, has_none}
use Rattle.project_plan.specs.Controller.{producer_time}
use Rattle.network_image.proofs.ControllerLemmas.{found_none, rebuilt, removed_none}
use Rattle.network_image.proofs.controller.other_defaults.Goals as goal

pub returns-then-is_none : goal.returns-then-is_none
returns-then-is_none c =
    sym (removed_none c.args.defaults producer_time
    (found_none c.read.result (get c.args.defaults producer_time) c.if-is_none.ensures c.read.ensures.value))

pub loop-place-init : goal.loop-place-init
loop-place-init c = rw c.new-values.ensures (has_none (get (remove c.args.defaults producer_time)))

pub loop-place-preserved : goal.loop-place-preserved
loop-place-preserved c =
    let ps : List (ℕ × ℕ) = c.pairs-place-items.result.now in
    let all : List (ℕ × ℕ) = pairs_of c.args.device.now.sections in
    let i : ℕ = c.loop-place.place-index in
    let d : ℕ × ℕ = (0, 0) in
    let lt : i < length all = rw c.pairs-place-items.ensures.pairs at c.loop-place-test.true in
    let is : get_or ps i d ≡ get_or all i d =
    ap (λ (xs : List (ℕ × ℕ)). get_or xs i d) c.pairs-place-items.ensures.pairs in
    has_more (get (remove c.args.defaults producer_time)) c.loop-place.values c.add_default.new.values all i d
    (get_or ps i d) lt is c.in_ok-add_default.ensures c.loop-place.invariant

pub returns : goal.returns
unfolding defaults_of
returns c =
    let all : List (ℕ × ℕ) = pairs_of c.args.device.now.sections in
    let whole : take c.loop-place.place-index all
    ≡ all = take_all c.loop-place.place-index all (rw c.pairs-place-items.ensures.pairs at c.loop-place-test.false) in
    rebuilt (λ p. default_at c.args.device.now c.args.node p.0 p.1) all c.args.defaults c.loop-place.values producer_time
    c.requires (rw whole at c.loop-place.invariant)
