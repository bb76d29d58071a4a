-- The rule of the first key, in its own words. Own: CiA 306 doesn't say which of two equal keys counts.
use Rattle.std.specs.Prelude.{◌≡◌, ℕ, true, false, List, ◌∷◌, ◌++◌, None, Some}
use Rattle.ini_text.specs.Line.{Line, pair}
use Rattle.ini_text.specs.Content.{same, last_header, gives_key}

-- some line under a header of the name gives the key this value, and no earlier one gives that key
pub record GivesFirst (lines : List Line) (name key value : List ℕ) : Type 0 where
  pub before : List Line
  pub heading : List ℕ
  pub spelled : List ℕ
  pub later : List Line
  pub stands : lines ≡ before ++ pair spelled value ∷ later
  pub under : last_header before None ≡ Some heading
  pub named : same name heading ≡ true
  pub keyed : same key spelled ≡ true
  pub first : gives_key before name key ≡ false
