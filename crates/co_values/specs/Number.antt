-- Numbers and formulas as the texts of an EDS or DCF spell them (CiA 306). The spellings that are taken are this
-- profile's own choice.
use Rattle.std.specs.Prelude.{ℕ, ◌+◌, ◌^◌, ◌==◌, ℤ, pos, neg_ℤ, negsuc, Bool, true, false, ◌||◌, ◌&&◌, nat_lt, if◌then◌else◌, List, suc}
use Rattle.std.specs.Prelude.{[], ◌∷◌, take, drop, map, Option, Some, None, option_map, option_and_then, position}
use Rattle.std.specs.Prelude.{codes, bytes_eq}
use Rattle.std.specs.Char.{to_ascii_lowercase}
use Rattle.std.specs.Option.{option_or, option_map_or}
use Rattle.std.specs.Str.{byte}
use Rattle.base.specs.Blanks.{without_first_blanks, without_last_blanks}
use Rattle.base.specs.Digits.{digits_number}
use Rattle.co_values.specs.declared.formula.Formula.{Formula}
use Rattle.co_values.specs.declared.formula.Formula.TheVariants.{Nothing, Negative, Number, Hexadecimal, Node, NodePlus}

-- ---- numbers

-- `0x` or `0X`, and hexadecimal digits in any case
abbrev pub hexadecimal : List ℕ → Option ℕ
hexadecimal [] = None
hexadecimal (a ∷ []) = None
hexadecimal (a ∷ x ∷ digits) = if (a == byte "0") && ((x == byte "x") || (x == byte "X")) then digits_number 16 digits
    else None

-- a 0, and octal digits
abbrev pub octal : List ℕ → Option ℕ
octal [] = None
octal (a ∷ digits) = if a == byte "0" then digits_number 8 digits else None

-- the number that a text without sign spells: hexadecimal, else octal, else decimal, so `08` and `0189` are decimal
abbrev pub unsigned_number : List ℕ → Option ℕ
unsigned_number text = option_or (hexadecimal text) (option_or (octal text) (digits_number 10 text))

-- with a `-` in front or none
abbrev pub signed_number : List ℕ → Option ℤ
signed_number [] = None
signed_number (c ∷ cs) = if c == byte "-" then option_map (λ n. neg_ℤ (pos n)) (unsigned_number cs)
    else option_map pos (unsigned_number (c ∷ cs))

-- the number itself, from -2^63 to 2^64 - 1
abbrev pub in_range : ℤ → Option ℤ
in_range (pos n) = if nat_lt n (2 ^ 64) then Some (pos n) else None
in_range (negsuc n) = if nat_lt n (2 ^ 63) then Some (negsuc n) else None

-- the number that a text spells
unfoldable pub number : List ℕ → Option ℤ
number text = option_and_then in_range (signed_number text)

-- ---- formulas

-- `$NODEID`, in letters of any case
abbrev pub is_node_id : List ℕ → Bool
is_node_id text = bytes_eq (map to_ascii_lowercase text) (map to_ascii_lowercase (codes "$NODEID"))

-- the node's number and that of a term without sign
abbrev pub node_plus : ℕ → List ℕ → Option ℤ
node_plus node term = option_and_then (λ n. in_range (pos (n + node))) (unsigned_number term)

-- the sum of two terms, of which one is `$NODEID`
abbrev pub sum_of_terms : List ℕ → List ℕ → ℕ → Option ℤ
sum_of_terms left right node =
    if is_node_id left then node_plus node right
    else if is_node_id right then node_plus node left
    else None

-- `$NODEID+number` or `number+$NODEID`, with blanks next to the `+` alone
abbrev pub node_sum : List ℕ → ℕ → Option ℤ
node_sum text node = option_and_then
    (λ i. sum_of_terms (without_last_blanks (take i text)) (without_first_blanks (drop (i + 1) text)) node)
    (position (λ c. c == byte "+") text)

-- the number that a formula gives at a node: a number, `$NODEID`, or the sum of `$NODEID` and a number
unfoldable pub formula : List ℕ → ℕ → Option ℤ
formula text node = option_or (number text) (if is_node_id text then Some (pos node) else node_sum text node)

-- ---- a text that is read once for all nodes, as the program keeps it: no contract of a device shows it

-- a number without sign, where it is in range
abbrev pub below_limit : ℕ → Option ℕ
below_limit n = if nat_lt n (2 ^ 64) then Some n else None

-- a number, where it is in range
abbrev pub of_number : ℤ → Formula
of_number (pos n) = if nat_lt n (2 ^ 64) then Number n else Nothing
of_number (negsuc n) = if nat_lt n (2 ^ 63) then Negative (suc n) else Nothing

-- what is added to the node's number by two terms, of which one is `$NODEID`
abbrev pub term_beside : List ℕ → List ℕ → Option ℕ
term_beside left right =
    if is_node_id left then option_and_then below_limit (unsigned_number right)
    else if is_node_id right then option_and_then below_limit (unsigned_number left)
    else None

-- what is added to it by a sum
abbrev pub term_of_sum : List ℕ → Option ℕ
term_of_sum text = option_and_then
    (λ i. term_beside (without_last_blanks (take i text)) (without_first_blanks (drop (i + 1) text)))
    (position (λ c. c == byte "+") text)

-- a text that is no number
abbrev pub of_node : List ℕ → Formula
of_node text = if is_node_id text then Node else option_map_or NodePlus (term_of_sum text) Nothing

-- what a text says
unfoldable pub formula_in : List ℕ → Formula
formula_in text = option_map_or Hexadecimal (option_and_then below_limit (hexadecimal text))
    (option_map_or of_number (number text) (of_node text))

-- the number that this gives at a node
abbrev pub number_of : Formula → ℕ → Option ℤ
number_of Nothing node = None
number_of (Negative n) node = Some (neg_ℤ (pos n))
number_of (Number n) node = Some (pos n)
number_of (Hexadecimal n) node = Some (pos n)
number_of Node node = Some (pos node)
number_of (NodePlus n) node = in_range (pos (n + node))

-- the number that its hexadecimal digits are
abbrev pub digits_of : Formula → Option ℕ
digits_of Nothing = None
digits_of (Negative n) = None
digits_of (Number n) = None
digits_of (Hexadecimal n) = Some n
digits_of Node = None
digits_of (NodePlus n) = None

-- whether that number is another at another node
abbrev pub has_node : Formula → Bool
has_node Nothing = false
has_node (Negative n) = false
has_node (Number n) = false
has_node (Hexadecimal n) = false
has_node Node = true
has_node (NodePlus n) = true
