-- What a PDO carries from one device to another.
use Rattle.std.specs.Prelude.{◌≡◌, ℕ, true, false, List, Some, slice_get}
use Rattle.co_dict.specs.declared.direction.Direction.TheVariants.{Receive}
use Rattle.co_dict.specs.declared.entry.Entry.{Entry}
use Rattle.co_dict.specs.Mappings.{mapped_length, mapped_place, width_in_pdo}
use Rattle.cia301.specs.PdoObjects.{is_of_pdos}
use Rattle.co_dict.specs.Shapes.{Shaped}
use Rattle.co_dict.specs.WriteCheck.{Suits}
use Rattle.pdo_rules.specs.Packing.{names_entry}

-- no two entries of a mapping name one entry of the device; its dummies may be alike
abbrev pub AreApart : Shaped → List ℕ → Type 0
AreApart shape mapping =
    (i j a b : ℕ) → slice_get mapping i ≡ Some a → slice_get mapping j ≡ Some b
    → names_entry shape a ≡ true → mapped_place a ≡ mapped_place b → i ≡ j

-- a mapping entry names an entry of the device that RPDOs can map, in its whole length and no object of a PDO,
-- that may be given the bytes
pub record TakesWhole (shape : Shaped) (entry : ℕ) (bytes : List ℕ) : Type 0 where
  pub described : Entry
  pub suits : Suits shape (mapped_place entry) bytes described
  pub width : width_in_pdo Receive described ≡ Some (mapped_length entry)
  pub outside : is_of_pdos (mapped_place entry).0 ≡ false
