-- The objects of a device's PDOs (CiA 301).
use Rattle.std.specs.Prelude.{ℕ, List, filter}
use Rattle.std.specs.List.{range_with_len}
use Rattle.co_dict.specs.Shapes.{Shaped}
use Rattle.pdo_rules.specs.Working.{is_pdo}

-- the numbers, from 1 to 512, of the PDOs that a device has: TPDOs or RPDOs, by their communication objects
unfoldable pub numbers_of : (ℕ → ℕ) → Shaped → List ℕ
numbers_of object_of shape = filter (λ number. is_pdo shape (object_of number)) (range_with_len 1 512)
