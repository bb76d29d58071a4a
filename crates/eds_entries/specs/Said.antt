-- What a section says of its entry, as the program keeps it: its texts by the positions of their pairs, and what
-- they give as numbers, which no contract of a device shows.
use Rattle.std.specs.Prelude.{ℕ, List, [], Option, option_map, option_and_then, codes, unwrap_or}
use Rattle.std.specs.List.{position, slice_get}
use Rattle.ini_text.specs.Content.{Pair, Section, same}
use Rattle.eds_entries.specs.declared.said.Said.{Said}
use Rattle.co_values.specs.declared.formula.Formula.{Formula}
use Rattle.co_values.specs.Number.{formula_in}
use Rattle.eds_entries.specs.Described.{access_of, is_set}
use Rattle.eds_entries.specs.Sections.{kind_of}

-- the position of the first pair of a key
unfoldable pub pair_of : Section → List ℕ → Option ℕ
pair_of section key = position (λ p. same key p.key) section.pairs

-- the value of the pair at a position, where there is one
abbrev pub value_from : Section → Option ℕ → Option (List ℕ)
value_from section at = option_map (λ (p : Pair). p.value) (option_and_then (slice_get section.pairs) at)

-- the same, empty where there is none
abbrev pub text_from : Section → Option ℕ → List ℕ
text_from section at = unwrap_or (value_from section at) []

-- what that gives as a number
abbrev pub number_from : Section → Option ℕ → Formula
number_from section at = formula_in (text_from section at)

-- what a section says
unfoldable pub said_in : Section → Said
said_in section = record {
  kind = kind_of section;
  access = access_of section;
  mappable = is_set section (codes "PDOMapping");
  default = pair_of section (codes "DefaultValue");
  low = pair_of section (codes "LowLimit");
  high = pair_of section (codes "HighLimit");
  value = pair_of section (codes "ParameterValue");
  default_number = number_from section (pair_of section (codes "DefaultValue"));
  low_number = number_from section (pair_of section (codes "LowLimit"));
  high_number = number_from section (pair_of section (codes "HighLimit"));
}
