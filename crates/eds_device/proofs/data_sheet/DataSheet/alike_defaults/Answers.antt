use Rattle.std.proofs.Common.{◌≡◌, ◌<◌, ℕ, List, length, get_or, take, refl, ap, sym, ◌∙◌}
use Rattle.std.specs.FinMap.{empty}
use Rattle.std.proofs.lemmas.List.{take_all}
use Rattle.eds_places.specs.Places.{pairs_of}
use Rattle.eds_device.specs.Common.{with_default, with_defaults}
use Rattle.eds_device.proofs.DefaultLemmas.{all_set, one_more_set}
use Rattle.eds_device.proofs.data_sheet.DataSheet.alike_defaults.Goals as goal

pub loop-place-init : goal.loop-place-init
unfolding with_defaults
loop-place-init c = λ node. rw (c.new-values.ensures, c.new-others.ensures.items) refl

pub loop-place-preserved : goal.loop-place-preserved
loop-place-preserved c =
    let sheet = c.args.self.now in
    let ps : List (ℕ × ℕ) = c.pairs-place-items.result.now in
    let i : ℕ = c.loop-place.place-index in
    let d : ℕ × ℕ = (0, 0) in
    let lt : i < length (pairs_of sheet.sections) = rw c.pairs-place-items.ensures.pairs at c.loop-place-test.true in
    let is : get_or ps i d ≡ get_or (pairs_of sheet.sections) i d =
    ap (λ (xs : List (ℕ × ℕ)). get_or xs i d) c.pairs-place-items.ensures.pairs in
    λ node.
    let before = with_defaults sheet node c.loop-place.others.items c.loop-place.values in
    let now = with_defaults sheet node c.add_alike.new.others.items c.add_alike.new.values in
    one_more_set sheet node (pairs_of sheet.sections) i d empty before now lt (c.loop-place.invariant node)
    (c.in_ok-add_alike.ensures node ∙ ap (λ (p : ℕ × ℕ). with_default sheet node p before) is)

pub returns : goal.returns
returns c =
    let sheet = c.args.self.now in
    let ps = pairs_of sheet.sections in
    let all : take c.loop-place.place-index ps ≡ ps =
    take_all c.loop-place.place-index ps (rw c.pairs-place-items.ensures.pairs at c.loop-place-test.false) in
    λ node. c.loop-place.invariant node ∙ ap (λ (qs : List (ℕ × ℕ)). with_defaults sheet node qs empty) all
    ∙ all_set sheet node
