use Rattle.std.proofs.Common.{◌≡◌, ℕ, ◌-◌, map, ap, ◌∙◌, arith}
use Rattle.cia301.specs.PdoObjects.{tpdo_object}
use Rattle.device_pdos.specs.Tpdos.{tpdo, tpdos_of}
use Rattle.device_pdos.proofs.NumberLemmas.{all, numbers_to}
use Rattle.device_pdos.proofs.tpdos.tpdos_of.Goals as goal

pub returns : goal.returns
unfolding tpdos_of
returns c =
    let last : c.loop-number.number - 1 ≡ 512 = omega arith in
    c.loop-number.invariant
    ∙ ap (λ (n : ℕ). map (tpdo c.args.shape.now c.args.dict.now) (numbers_to tpdo_object c.args.shape.now n)) last
    ∙ all tpdo_object c.args.shape.now (tpdo c.args.shape.now c.args.dict.now)
