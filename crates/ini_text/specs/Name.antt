-- Names of sections and keys (CiA 306): equal without ASCII case.
use Rattle.std.specs.Prelude.{ℕ, Bool, List, map}
use Rattle.std.specs.Char.{to_ascii_lowercase}
use Rattle.std.specs.Str.{bytes_eq}

-- with `a` to `z` in place of `A` to `Z`
abbrev pub lower_case : List ℕ → List ℕ
lower_case bs = map to_ascii_lowercase bs

-- equal without ASCII case
abbrev pub same : List ℕ → List ℕ → Bool
same a b = bytes_eq (lower_case a) (lower_case b)
