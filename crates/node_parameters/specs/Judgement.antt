-- What a text gives an entry of a node (CiA 306): the bytes to write, or why there are none.
use Rattle.std.specs.Prelude.{◌≡◌, ℕ, ◌||◌, ◌&&◌, not, ℤ, ◌≤ℤ◌, Bool, false, if◌then◌else◌, int_lt, List, Option, Some}
use Rattle.std.specs.Prelude.{Result, Ok, Err, IsTrue, IfSome}
use Rattle.std.specs.Option.{option_map_or}
use Rattle.co_values.specs.Types.{is_integer, is_modelled}
use Rattle.co_values.specs.Values.{value, number_in}
use Rattle.co_dict.specs.declared.entry.Entry.{Entry}
use Rattle.co_dict.specs.Accesses.{is_writable}
use Rattle.node_parameters.specs.declared.parameter_fault.ParameterFault.{ParameterFault}
use Rattle.node_parameters.specs.declared.parameter_fault.ParameterFault.TheVariants.{NoEntry, NotModelled, NotWritable}
use Rattle.node_parameters.specs.declared.parameter_fault.ParameterFault.TheVariants.{Unreadable, OutsideLimits}

-- below the low limit or above the high one; a limit that is missing is none
abbrev pub is_outside : Entry → ℤ → Bool
is_outside entry number =
    option_map_or (λ low. int_lt number low) entry.low false
    || option_map_or (λ high. int_lt high number) entry.high false

-- the number of an integer is outside a limit; the other types have no limits
abbrev pub breaks_limit : Entry → List ℕ → Bool
breaks_limit entry bytes = is_integer entry.kind && option_map_or (is_outside entry) (number_in entry.kind bytes) false

-- a value that the text spells stays within the limits
abbrev pub within_limits : Entry → List ℕ → Result (List ℕ) ParameterFault
within_limits entry bytes = if breaks_limit entry bytes then Err OutsideLimits else Ok bytes

-- the type is modelled, the entry isn't read-only or constant, and the text spells a value of the type at the node
abbrev pub parameter_bytes_at : Entry → List ℕ → ℕ → Result (List ℕ) ParameterFault
parameter_bytes_at entry text node =
    if not (is_modelled entry.kind) then Err NotModelled
    else if not (is_writable entry.access) then Err NotWritable
    else option_map_or (within_limits entry) (value entry.kind text node) (Err Unreadable)

-- the bytes that a text gives an entry at a node, or the first fault that holds
unfoldable pub parameter_bytes : Option Entry → List ℕ → ℕ → Result (List ℕ) ParameterFault
parameter_bytes entry text node = option_map_or (λ e. parameter_bytes_at e text node) entry (Err NoEntry)

-- the type is modelled, and the text spells a value of it at the node
abbrev pub set_bytes_at : Entry → List ℕ → ℕ → Result (List ℕ) ParameterFault
set_bytes_at entry text node =
    if not (is_modelled entry.kind) then Err NotModelled
    else option_map_or Ok (value entry.kind text node) (Err Unreadable)

-- the bytes that a text gives an entry at a node where its own application sets it, which asks for neither access nor
-- limits; or the first fault that holds
unfoldable pub set_bytes : Option Entry → List ℕ → ℕ → Result (List ℕ) ParameterFault
set_bytes entry text node = option_map_or (λ e. set_bytes_at e text node) entry (Err NoEntry)

-- in the subject's words: the text spells the bytes, and the entry may be given them
pub record Suits (entry : Entry) (text bytes : List ℕ) (node : ℕ) : Type 0 where
  pub modelled : IsTrue (is_modelled entry.kind)
  pub writable : IsTrue (is_writable entry.access)
  pub spelled : value entry.kind text node ≡ Some bytes
  pub above_low : (number : ℤ) → IsTrue (is_integer entry.kind) → number_in entry.kind bytes ≡ Some number
      → IfSome entry.low (λ low. low ≤ℤ number)
  pub below_high : (number : ℤ) → IsTrue (is_integer entry.kind) → number_in entry.kind bytes ≡ Some number
      → IfSome entry.high (λ high. number ≤ℤ high)
