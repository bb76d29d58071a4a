use Rattle.std.proofs.Common.{◌≡◌, ℕ, take}
use Rattle.std.specs.FinMap.{empty}
use Rattle.eds_places.specs.Places.{pairs_of}
use Rattle.eds_device.specs.Common.{with_defaults}
use Rattle.eds_device.proofs.data_sheet.DataSheet.alike_defaults.Given as goal

-- with the others set they are the defaults so far, at each node
abbrev pub invariant-loop-place : goal.invariant-loop-place
invariant-loop-place l = (node : ℕ) → with_defaults l.self node l.others.items l.values
    ≡ with_defaults l.self node (take l.place-index (pairs_of l.self.sections)) empty
