-- Dictionaries of which a part is as another has it.
use Rattle.std.proofs.Common.{◌≡◌, ℕ, Bool, List, Option, Some, true, false, cond, sym, subst}
use Rattle.std.specs.FinMap.{get}
use Rattle.base.specs.Ranges.{is_between}
use Rattle.co_dict.specs.declared.entry.Entry.{Entry}
use Rattle.co_dict.specs.Restored.{with_restored}
use Rattle.co_dict.specs.Shapes.{Shaped}
use Rattle.co_dict.specs.Values.{Values, HasLength, HoldEach}
pub use Rattle.dict_values.proofs.RestoredLemmas.{restored_at}

abbrev HasOne : Entry → Option (List ℕ) → Type 0
HasOne entry o = (bytes : List ℕ) × ((o ≡ Some bytes) × HasLength entry.kind bytes)

-- each modelled entry has a value of its length where it has one in both
pub restored_held : (shape : Shaped) (first last : ℕ) (other values : Values) → HoldEach shape.entries other
    → HoldEach shape.entries values → HoldEach shape.entries (with_restored first last other values)
restored_held shape first last other values given own q entry there modelled = subst (HasOne entry)
    (sym (restored_at first last other values q)) (by (is_between first last q.0))
  where
    by : (b : Bool) → HasOne entry (cond b (get other q) (get values q))
    by true = given q entry there modelled
    by false = own q entry there modelled
