-- The program's own step, which no contract of a public call shows: places are added while they are not too many.
use Rattle.std.specs.Prelude.{ℕ, List, Result}
use Rattle.eds_places.specs.declared.fault.DeviceFault.{DeviceFault}
use Rattle.eds_places.specs.Faults.{unless_too_many}
use Rattle.eds_places.specs.Places.{put_in_order}

-- the places after some more, unless they are too many
abbrev pub with_places : List (ℕ × ℕ) → List (ℕ × ℕ) → Result (List (ℕ × ℕ)) DeviceFault
with_places done ps = unless_too_many (put_in_order done ps) (put_in_order done ps)
