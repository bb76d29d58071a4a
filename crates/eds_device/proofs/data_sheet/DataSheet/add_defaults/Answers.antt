use Rattle.std.proofs.Common.{◌≡◌, ℕ, List, get_or, take, ap, sym, ◌∙◌}
use Rattle.std.proofs.lemmas.List.{take_all}
use Rattle.co_dict.specs.Values.{Values}
use Rattle.eds_device.specs.Common.{with_default, with_defaults}
use Rattle.eds_device.proofs.DefaultLemmas.{one_more_set}
use Rattle.eds_device.proofs.data_sheet.DataSheet.add_defaults.Goals as goal

pub loop-place-preserved : goal.loop-place-preserved
loop-place-preserved c =
    let d : ℕ × ℕ = (0, 0) in
    one_more_set c.args.self.now c.args.node c.args.places.now c.loop-place.place-index d c.args.dict.now
    c.loop-place.dict c.add_default.new.dict c.loop-place-test.true c.loop-place.invariant c.in_ok-add_default.ensures

pub returns : goal.returns
returns c =
    let ps : List (ℕ × ℕ) = c.args.places.now in
    let all : take c.loop-place.place-index ps ≡ ps = take_all c.loop-place.place-index ps c.loop-place-test.false in
    c.loop-place.invariant
    ∙ ap (λ (qs : List (ℕ × ℕ)). with_defaults c.args.self.now c.args.node qs c.args.dict.now) all
