use Rattle.std.proofs.Common.{◌≡◌, ℕ, take}
use Rattle.eds_device.specs.Entries.{entry_at, dummies_of}
use Rattle.eds_places.specs.Places.{pairs_of}
use Rattle.eds_device.proofs.MapLemmas.{Has}
use Rattle.eds_device.proofs.data_sheet.DataSheet.common_shape.Given as goal

-- the shape has the entries so far, as they are at each node
abbrev pub invariant-loop-place : goal.invariant-loop-place
invariant-loop-place l =
    ((node : ℕ) → Has (λ p. entry_at l.self node p.0 p.1) l.shape.entries
    (take l.place-index (pairs_of l.self.sections))) × (l.shape.dummies ≡ dummies_of l.self.sections)
