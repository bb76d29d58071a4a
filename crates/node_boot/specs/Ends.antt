-- How the writes of a node end.
use Rattle.std.specs.Prelude.{◌≡◌, ℕ, Contains, List, None}
use Rattle.image_parts.specs.Contents.{Content, Image, write_of}
use Rattle.image_parts.specs.declared.part.Part.{Part}
use Rattle.image_parts.specs.declared.part.Part.TheVariants.{Boot}

-- the write of this number was asked for, and is absent
pub record IsAbsent (image : Image) (node : ℕ) (read : List (Part × Content)) (place : ℕ) : Type 0 where
  pub asked : Contains read (Boot node place, image (Boot node place))
  pub absent : write_of (image (Boot node place)) ≡ None
