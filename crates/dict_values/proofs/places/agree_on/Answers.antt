use Rattle.std.proofs.Common.{◌≡◌, ap, ◌∙◌}
use Rattle.std.specs.FinMap.{from_entries, get}
use Rattle.dict_values.specs.Places.{place_cmp}
use Rattle.dict_values.proofs.EachPlace.{each_place}
use Rattle.dict_values.proofs.places.agree_on.Goals as goal

pub loop-place-init : goal.loop-place-init
loop-place-init c =
    each_place (λ q. get c.args.a.now q ≡ get c.args.b.now q) c.into_iter-place-iterator.result c.args.places.now
    (ap (from_entries {R = place_cmp}) (c.into_iter-place-iterator.ensures.into_iter_gives
    ∙ c.iter-place-items.ensures.rest) ∙ c.places.view_is)
