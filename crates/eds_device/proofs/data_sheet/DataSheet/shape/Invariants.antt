use Rattle.std.proofs.Common.{◌≡◌, take}
use Rattle.eds_device.specs.Entries.{entry_at, dummies_of}
use Rattle.eds_places.specs.Places.{pairs_of}
use Rattle.eds_device.proofs.MapLemmas.{Has}
use Rattle.eds_device.proofs.data_sheet.DataSheet.shape.Given as goal

abbrev pub invariant-loop-place : goal.invariant-loop-place
invariant-loop-place l =
    (Has (λ p. entry_at l.self l.node p.0 p.1) l.shape.entries (take l.place-index (pairs_of l.self.sections)))
    × (l.shape.dummies ≡ dummies_of l.self.sections)
