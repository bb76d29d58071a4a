use Rattle.std.proofs.Common.{◌≡◌, ℕ, ◌<◌, ◌≤◌, true}
use Rattle.co_values.specs.declared.form.Width.TheVariants.{Bits32}
use Rattle.pdo_stations.specs.Devices.{has_unsigned}
use Rattle.pdo_stations.specs.Rooms.{device_with}
use Rattle.pdo_stations.proofs.room.mapping_entries.Given as goal

-- those so far are there
abbrev pub invariant-loop-sub : goal.invariant-loop-sub
invariant-loop-sub l = (k : ℕ) → 1 ≤ k → k < l.sub → has_unsigned (device_with l.shape) 0 Bits32 (l.object, k) ≡ true
