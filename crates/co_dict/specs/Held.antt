-- Entries that are held alone, or shared.
use Rattle.std.specs.Arc.{arc_value}
use Rattle.co_dict.specs.declared.held.Held.{Held}
use Rattle.co_dict.specs.declared.held.Held.TheVariants.{Own, Shared}
use Rattle.co_dict.specs.Tables.{Described}

-- those of the table, or of the one behind the handle
abbrev pub entries_of : Held → Described
entries_of (Own table) = table
entries_of (Shared handle) = arc_value handle
