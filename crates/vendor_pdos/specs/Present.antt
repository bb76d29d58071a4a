-- The PDOs that a device has, by their numbers.
use Rattle.std.specs.Prelude.{ℕ, ◌<◌, ◌≤◌}
use Rattle.co_dict.specs.Shapes.{HasIndex}
use Rattle.pdo_stations.specs.declared.as_made.AsMade.{AsMade}

-- the least number, from a given one to 512, of a PDO whose communication object a device has; 513 where there is none
pub record IsNextPdo (object_of : ℕ → ℕ) (device : AsMade) (from next : ℕ) : Type 0 where
  pub low : from ≤ next
  pub high : next ≤ 513
  pub there : next ≤ 512 → HasIndex device.shape (object_of next)
  pub before : (number : ℕ) → from ≤ number → number < next → HasIndex device.shape (object_of number) → ⊥
