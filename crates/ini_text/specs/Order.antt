-- Where the sections of a text stand, and the pairs of a section, in the words of CiA 306: by headers and lines.
use Rattle.std.specs.Prelude.{◌≡◌, ℕ, true, false, List, ◌∷◌, ◌++◌, length, None, Some}
use Rattle.std.specs.List.{list_any}
use Rattle.ini_text.specs.Line.{Line, header, pair}
use Rattle.ini_text.specs.Content.{Pair, same, headers, last_header, gives_key, section_of, sections_of}

-- a header gives the name, no header before it gives that name in any case, and the lines before it have as many
-- sections as the position says
pub record OpensAt (lines : List Line) (position : ℕ) (name : List ℕ) : Type 0 where
  pub before : List Line
  pub later : List Line
  pub stands : lines ≡ before ++ header name ∷ later
  pub first : list_any (same name) (headers before) ≡ false
  pub counted : position ≡ length (sections_of before)

-- a line under a header of the section's name gives the pair, no line before it gives the key there, and the lines
-- before it give the section as many pairs as the position says
pub record GivesAt (lines : List Line) (name : List ℕ) (position : ℕ) (given : Pair) : Type 0 where
  pub before : List Line
  pub heading : List ℕ
  pub later : List Line
  pub stands : lines ≡ before ++ pair given.key given.value ∷ later
  pub under : last_header before None ≡ Some heading
  pub named : same name heading ≡ true
  pub first : gives_key before name given.key ≡ false
  pub counted : position ≡ length (section_of before name).pairs
