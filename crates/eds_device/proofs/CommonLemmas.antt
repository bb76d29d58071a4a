-- Limits that are the same at every node.
use Rattle.std.proofs.Common.{◌≡◌, ℕ, false, List, refl, ap}
use Rattle.std.specs.Prelude.{if◌then◌else◌, None, option_and_then}
use Rattle.co_values.specs.declared.data_type.DataType.{DataType}
use Rattle.co_values.specs.Types.{is_integer}
use Rattle.co_values.specs.Values.{number_in, value}
use Rattle.eds_device.specs.Entries.{limit_at}

-- that of no integer is none
pub limit_of_no_integer : (kind : DataType) (text : List ℕ) → is_integer kind ≡ false → (node other : ℕ)
    → limit_at kind text node ≡ limit_at kind text other
unfolding limit_at
limit_of_no_integer kind text h node other = rw h refl

-- where the value is the same, so is the limit
pub limit_of_value : (kind : DataType) (text : List ℕ) (node other : ℕ) → value kind text node ≡ value kind text other
    → limit_at kind text node ≡ limit_at kind text other
unfolding limit_at
limit_of_value kind text node other h =
    ap (λ bytes. if is_integer kind then option_and_then (number_in kind) bytes else None) h
