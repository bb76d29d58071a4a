-- The write check (CiA 301): what a device answers to a value for an entry.
use Rattle.std.specs.Prelude.{◌≡◌, ℕ, ℤ, ◌≤ℤ◌, List, ◌++◌, length, Some, IfSome, IsTrue, Result}
use Rattle.std.specs.FinMap.{get}
use Rattle.co_values.specs.Types.{is_integer, is_modelled}
use Rattle.co_values.specs.Values.{IsValueOf, number_in}
use Rattle.co_dict.specs.declared.abort.Abort.{Abort}
use Rattle.co_dict.specs.declared.entry.Entry.{Entry}
use Rattle.co_dict.specs.Accesses.{is_writable}
use Rattle.co_dict.specs.Checks.{access_lines, length_lines, first_refusal, value_lines}
use Rattle.co_dict.specs.PdoChecks.{cob_id_lines, mapping_lines, new_count_lines}
use Rattle.co_dict.specs.Shapes.{Shaped}
use Rattle.co_dict.specs.Values.{Values}

-- the device takes the bytes for an entry, or the first line refuses that applies
unfoldable pub write_check : Shaped → Values → ℕ × ℕ → List ℕ → Result (Unit {0}) Abort
write_check shape values place bytes = first_refusal
    (access_lines shape place
    ++ length_lines shape place (length bytes)
    ++ value_lines shape place bytes
    ++ cob_id_lines shape values place bytes
    ++ mapping_lines shape values place
    ++ new_count_lines shape values place bytes)

-- in the subject's words: the entry is there, and the bytes are a value that it may be given
pub record Suits (shape : Shaped) (place : ℕ × ℕ) (bytes : List ℕ) (entry : Entry) : Type 0 where
  pub there : get shape.entries place ≡ Some entry
  pub modelled : IsTrue (is_modelled entry.kind)
  pub writable : IsTrue (is_writable entry.access)
  pub fits : IsValueOf entry.kind bytes
  pub above_low : (number : ℤ) → IsTrue (is_integer entry.kind) → number_in entry.kind bytes ≡ Some number
      → IfSome entry.low (λ low. low ≤ℤ number)
  pub below_high : (number : ℤ) → IsTrue (is_integer entry.kind) → number_in entry.kind bytes ≡ Some number
      → IfSome entry.high (λ high. number ≤ℤ high)
