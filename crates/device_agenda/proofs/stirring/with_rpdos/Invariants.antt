use Rattle.std.proofs.Common.{◌≡◌, ℕ, ◌<◌, false, drop}
use Rattle.std.specs.List.{list_any}
use Rattle.device_pdos.specs.Rpdos.{has_identifier}
use Rattle.device_agenda.specs.Reach.{Extends, reaches}
use Rattle.device_agenda.proofs.stirring.with_rpdos.Given as goal

-- those of the RPDOs so far are in it: an identifier that isn't is none's, if none of those left has it
abbrev pub invariant-loop-rpdo : goal.invariant-loop-rpdo
invariant-loop-rpdo l =
    Extends l.fn.reach l.reach
    × ((id : ℕ) → id < 0x800 → reaches l.reach id ≡ false
    → list_any (λ p. has_identifier id p.configuration) (drop l.rpdo-index l.rpdos) ≡ false
    → list_any (λ p. has_identifier id p.configuration) l.fn.rpdos ≡ false)
