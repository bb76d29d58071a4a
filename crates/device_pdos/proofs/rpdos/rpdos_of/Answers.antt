use Rattle.std.proofs.Common.{◌≡◌, ℕ, ◌-◌, map, ap, ◌∙◌, arith}
use Rattle.cia301.specs.PdoObjects.{rpdo_object}
use Rattle.device_pdos.specs.Rpdos.{rpdo, rpdos_of}
use Rattle.device_pdos.proofs.NumberLemmas.{all, numbers_to}
use Rattle.device_pdos.proofs.rpdos.rpdos_of.Goals as goal

pub returns : goal.returns
unfolding rpdos_of
returns c =
    let last : c.loop-number.number - 1 ≡ 512 = omega arith in
    c.loop-number.invariant
    ∙ ap (λ (n : ℕ). map (rpdo c.args.shape.now c.args.dict.now) (numbers_to rpdo_object c.args.shape.now n)) last
    ∙ all rpdo_object c.args.shape.now (rpdo c.args.shape.now c.args.dict.now)
