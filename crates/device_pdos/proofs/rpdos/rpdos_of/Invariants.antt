use Rattle.std.proofs.Common.{◌≡◌, ◌-◌, map}
use Rattle.cia301.specs.PdoObjects.{rpdo_object}
use Rattle.device_pdos.specs.Rpdos.{rpdo}
use Rattle.device_pdos.proofs.NumberLemmas.{numbers_to}
use Rattle.device_pdos.proofs.rpdos.rpdos_of.Given as goal

-- those of the numbers so far are there
abbrev pub invariant-loop-number : goal.invariant-loop-number
invariant-loop-number l = l.rpdos.items ≡ map (rpdo l.shape l.dict) (numbers_to rpdo_object l.shape (l.number - 1))
