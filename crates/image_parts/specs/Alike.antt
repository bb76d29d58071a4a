-- The same under two images.
use Rattle.std.specs.Prelude.{◌≡◌}
use Rattle.image_parts.specs.Asking.{Asking, outcome, reads}

-- under both images the answer and the reads are the same
pub record AreAlike {N V A : Type 0} (m : Asking N V A) (first second : N → V) : Type 0 where
  pub outcomes : outcome m second ≡ outcome m first
  pub reads_same : reads m second ≡ reads m first
