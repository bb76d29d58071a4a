-- What an object section says of its entry (CiA 306), its texts as they stand.
use Rattle.std.specs.Prelude.{ℕ, nat_lt, ℤ, pos, negsuc, Bool, true, false, if◌then◌else◌, List, [], ◌∷◌, Option, Some}
use Rattle.std.specs.Prelude.{None, codes}
use Rattle.std.specs.Option.{option_map_or, unwrap_or}
use Rattle.ini_text.specs.Content.{Section, same, value_at}
use Rattle.co_values.specs.declared.data_type.DataType.{DataType}
use Rattle.co_values.specs.declared.data_type.DataType.TheVariants.{Unsigned8}
use Rattle.co_dict.specs.declared.access.Access.{Access}
use Rattle.co_dict.specs.declared.access.Access.TheVariants.{ReadOnly, WriteOnly, ReadWrite, ReadWriteOnInput}
use Rattle.co_dict.specs.declared.access.Access.TheVariants.{ReadWriteOnOutput, Constant}
use Rattle.eds_entries.specs.Sections.{number_at, kind_of}

-- the value of a key, empty where it is missing
abbrev pub text_at : Section → List ℕ → List ℕ
text_at section key = unwrap_or (value_at section.pairs key) []

-- the access that a word says, in any case; any other word says rw (own)
unfoldable pub access_named : List ℕ → Access
access_named word =
    if same word (codes "ro") then ReadOnly
    else if same word (codes "wo") then WriteOnly
    else if same word (codes "rwr") then ReadWriteOnInput
    else if same word (codes "rww") then ReadWriteOnOutput
    else if same word (codes "const") then Constant
    else ReadWrite

-- AccessType: without the key rw
unfoldable pub access_of : Section → Access
access_of section = access_named (text_at section (codes "AccessType"))

-- a number other than 0
abbrev pub is_not_zero : ℤ → Bool
is_not_zero (pos n) = nat_lt 0 n
is_not_zero (negsuc n) = true

-- a key whose value is a number other than 0
unfoldable pub is_set : Section → List ℕ → Bool
is_set section key = option_map_or is_not_zero (number_at section key) false

-- a default: the text of DefaultValue, or the highest sub-index of a compact object
pub data Default : Type 0 where
  written : List ℕ → Default
  count : ℕ → Default

-- what is said of an entry; a text is empty where it is missing
pub record Described : Type 0 where
  pub kind : DataType
  pub access : Access
  pub mappable : Bool
  pub default : Default
  pub low : List ℕ
  pub high : List ℕ

-- what a section says of its own entry, and of all subs of a compact object but the first
abbrev pub description_in : Section → Described
description_in section = record {
  kind = kind_of section;
  access = access_of section;
  mappable = is_set section (codes "PDOMapping");
  default = written (text_at section (codes "DefaultValue"));
  low = text_at section (codes "LowLimit");
  high = text_at section (codes "HighLimit");
}

-- sub 0 of a compact object is its highest sub
abbrev pub highest_sub : ℕ → Described
highest_sub n = record {
  kind = Unsigned8;
  access = ReadOnly;
  mappable = false;
  default = count n;
  low = [];
  high = [];
}

-- a text, unless it is empty
abbrev pub unless_empty : List ℕ → Option (List ℕ)
unless_empty [] = None
unless_empty (b ∷ bs) = Some (b ∷ bs)

-- the text of a default, unless it is empty
abbrev pub written_text : Default → Option (List ℕ)
written_text (written text) = unless_empty text
written_text (count n) = None
