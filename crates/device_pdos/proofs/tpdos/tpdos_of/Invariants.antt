use Rattle.std.proofs.Common.{◌≡◌, ◌-◌, map}
use Rattle.cia301.specs.PdoObjects.{tpdo_object}
use Rattle.device_pdos.specs.Tpdos.{tpdo}
use Rattle.device_pdos.proofs.NumberLemmas.{numbers_to}
use Rattle.device_pdos.proofs.tpdos.tpdos_of.Given as goal

-- those of the numbers so far are there
abbrev pub invariant-loop-number : goal.invariant-loop-number
invariant-loop-number l = l.tpdos.items ≡ map (tpdo l.shape l.dict) (numbers_to tpdo_object l.shape (l.number - 1))
