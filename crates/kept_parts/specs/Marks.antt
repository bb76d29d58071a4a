-- What marks do.
use Rattle.std.specs.Prelude.{◌≡◌, Bool, true, false}
use Rattle.project_parts.specs.declared.part.Part.{Part}
use Rattle.kept_parts.specs.Kept.{is_unmarked, kept_inputs}
use Rattle.kept_parts.specs.declared.kept_parts.KeptParts.{KeptParts}

-- nothing that is held changes; these parts have a mark afterwards, and those that had one, and no other has
pub record Marks (asked : Part → Bool) (old new : KeptParts) : Type 0 where
  pub kept : (q : Part) → kept_inputs new q ≡ kept_inputs old q
  pub unmarked : (q : Part) → is_unmarked new q ≡ true → (is_unmarked old q ≡ true) × (asked q ≡ false)
  pub others : (q : Part) → asked q ≡ false → is_unmarked old q ≡ true → is_unmarked new q ≡ true
