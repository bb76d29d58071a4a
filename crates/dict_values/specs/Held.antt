-- How the bytes of a value lie.
use Rattle.std.specs.Prelude.{ℕ, ◌≤◌, List, length, take}
use Rattle.co_values.specs.Values.{longest_value}
use Rattle.dict_values.specs.declared.held.Kept.{Kept}
use Rattle.dict_values.specs.declared.held.Kept.TheVariants.{Short, Long}

-- the first `count` of eight, or those behind the handle
abbrev pub bytes_of : Kept → List ℕ
bytes_of (Short count bytes) = take count bytes
bytes_of (Long octets) = octets.value

-- no value is longer than values are, and in place lie eight at most
abbrev pub IsKept : Kept → Type 0
IsKept (Short count bytes) = count ≤ 8
IsKept (Long octets) = length octets.value ≤ longest_value
