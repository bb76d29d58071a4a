use Rattle.std.proofs.Common.{◌≡◌, false, true, IsSome, ℕ, ap, ◌∙◌}
use Rattle.std.specs.FinMap.{from_entries, get}
use Rattle.dict_values.specs.Places.{place_cmp}
use Rattle.dict_values.specs.Restored.{is_kept}
use Rattle.dict_values.proofs.EachPlace.{each_place}
use Rattle.dict_values.proofs.places.has_each.Goals as goal

pub loop-place-init : goal.loop-place-init
loop-place-init c =
    (each_place (λ (q : ℕ × ℕ). is_kept c.args.first c.args.last false q.0 ≡ true
    → IsSome (get c.args.dict.now q)) c.into_iter-place-iterator.result c.args.places.now
    (ap (from_entries {R = place_cmp}) (c.into_iter-place-iterator.ensures.into_iter_gives
    ∙ c.iter-place-items.ensures.rest) ∙ c.places.view_is)).0
