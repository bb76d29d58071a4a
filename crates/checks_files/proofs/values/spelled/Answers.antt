use Rattle.std.proofs.Common.{◌≡◌, ℕ, List, Some, sym, subst, arith}
use Rattle.base.specs.Bytes.{AreBytes}
use Rattle.co_values.specs.declared.data_type.DataType.{DataType}
use Rattle.co_values.specs.declared.value.Value.{Value}
use Rattle.co_values.specs.Values.{value, Fits}
use Rattle.co_values.proofs.Read.{Fits-value}
use Rattle.checks_files.proofs.values.spelled.Goals as goal

-- what a text spells fits its type
fits_read : (v : Value) (kind : DataType) (text : List ℕ) → v.kind ≡ kind → Some v.bytes ≡ value kind text 127
    → AreBytes text → Fits v.kind v.bytes
fits_read v kind text same bytes known = subst (λ (k : DataType). Fits k v.bytes) (sym same)
    (Fits-value kind text v.bytes 127 known (sym bytes))

pub hex_text-requires : goal.hex_text-requires
hex_text-requires c =
    fits_read c.in-Some.value c.args.kind c.args.text.now (rw c.in-Some.is at c.in_ok-value.ensures.kind)
    (rw c.in-Some.is at c.in_ok-value.ensures.bytes) (λ i. omega (arith, c.type_inv.text i))
