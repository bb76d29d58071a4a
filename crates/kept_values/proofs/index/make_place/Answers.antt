use Rattle.std.proofs.Common.{map}
use Rattle.kept_values.proofs.IndexLemmas.{same_keys, same_placed, same_twice}
use Rattle.kept_values.proofs.index.make_place.Goals as goal

pub places-init : goal.places-init
places-init c = same_keys (map (λ k. k.items) c.args.keys.now.items)

pub places-preserved : goal.places-preserved
places-preserved c =
    let old = map (λ k. k.items) c.args.keys.now.items in
    let here = map (λ k. k.items) c.places.keys.items in
    rw c.in_ok-push.ensures.items (same_twice old here _ c.places.invariant (same_placed (λ k. k.items) c.places.keys.items c.new.result c.new.ensures.items))
