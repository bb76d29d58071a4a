-- What the names of sections say: the object sections of an EDS (CiA 306). Letters count in any case.
use Rattle.std.specs.Prelude.{ℕ, ◌==◌, nat_le, nat_lt, if◌then◌else◌, List, length, take, drop, Option, Some, None}
use Rattle.std.specs.Prelude.{option_and_then, codes}
use Rattle.std.specs.Option.{option_zip}
use Rattle.ini_text.specs.Content.{same}
use Rattle.base.specs.Digits.{digits_number}

-- `xxxx`: an index of four hexadecimal digits
unfoldable pub index_named : List ℕ → Option ℕ
index_named name = if length name == 4 then digits_number 16 name else None

-- a sub-index of one or two hexadecimal digits
unfoldable pub sub_named : List ℕ → Option ℕ
sub_named digits = if nat_le (length digits) 2 then digits_number 16 digits else None

-- `xxxxsubN`: an index and a sub-index
unfoldable pub place_named : List ℕ → Option (ℕ × ℕ)
place_named name =
    if same (take 3 (drop 4 name)) (codes "sub") then option_zip (index_named (take 4 name)) (sub_named (drop 7 name))
    else None

-- `xxxxValue`: the index of a compact object whose values the section lists
unfoldable pub values_named : List ℕ → Option ℕ
values_named name = if same (drop 4 name) (codes "Value") then index_named (take 4 name) else None

-- the sub-index that a key of decimal digits alone spells
unfoldable pub sub_listed : List ℕ → Option ℕ
sub_listed key = option_and_then (λ n. if nat_lt n 256 then Some n else None) (digits_number 10 key)
