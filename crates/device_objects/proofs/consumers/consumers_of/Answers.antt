use Rattle.std.proofs.Common.{◌≡◌, ℕ, map, ap, ◌∙◌, arith}
use Rattle.device_objects.specs.Consumers.{consumers_of, waiting_for_start}
use Rattle.device_objects.proofs.SubLemmas.{all, subs_to}
use Rattle.device_objects.proofs.consumers.consumers_of.Goals as goal

pub returns : goal.returns
unfolding consumers_of
returns c =
    let last : c.loop-i.i ≡ 255 = omega arith in
    c.loop-i.invariant ∙ ap (λ (n : ℕ). map (waiting_for_start c.args.values.now) (subs_to c.args.shape.now n)) last
    ∙ all c.args.shape.now c.args.values.now
