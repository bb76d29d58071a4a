-- What holds of both computations holds of the one that a test picks.
use Rattle.std.proofs.Common.{Bool, true, false}
use Rattle.std.specs.Prelude.{if◌then◌else◌}
use Rattle.image_parts.specs.Asking.{Asking}
use Rattle.image_parts.specs.Contents.{Content}
use Rattle.image_parts.specs.declared.part.Part.{Part}

pub picked : {A : Type 0} (P : Asking Part Content A → Type 0) (b : Bool) (m n : Asking Part Content A) → P m → P n
    → P (if b then m else n)
picked P true m n p q = p
picked P false m n p q = q
