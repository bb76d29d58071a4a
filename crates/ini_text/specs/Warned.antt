-- Which lines are warned of, and why. Own: CiA 306 names no warnings.
use Rattle.std.specs.Prelude.{◌≡◌, ℕ, ◌+◌, true, List, ◌∷◌, ◌++◌, length, None, Some}
use Rattle.ini_text.specs.Line.{Line, pair, other}
use Rattle.ini_text.specs.Content.{last_header, gives_key, is_misused}

-- why a line is warned of, after the lines before it
pub data Reason (before : List Line) (line : Line) : Type 0 where
  -- it is neither nothing, a header, nor a key and a value
  skipped : line ≡ other → Reason before line
  -- it gives a key and a value, and no header came before
  early : (key value : List ℕ) → line ≡ pair key value → last_header before None ≡ None → Reason before line
  -- it gives a key that its section has
  repeated : (name key value : List ℕ) → line ≡ pair key value → last_header before None ≡ Some name
      → gives_key before name key ≡ true → Reason before line
  -- it gives CompactPDO another value than 0
  misused : (name key value : List ℕ) → line ≡ pair key value → last_header before None ≡ Some name
      → is_misused key value ≡ true → Reason before line

-- the line with the number, from 1, is warned of
pub record IsWarned (lines : List Line) (number : ℕ) : Type 0 where
  pub before : List Line
  pub line : Line
  pub later : List Line
  pub stands : lines ≡ before ++ line ∷ later
  pub numbered : number ≡ length before + 1
  pub reason : Reason before line
