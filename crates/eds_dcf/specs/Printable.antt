-- The writes whose values can stand in the lines of a DCF.
use Rattle.std.specs.Prelude.{◌≡◌}
use Rattle.ini_text.specs.Printable.{IsValue}
use Rattle.concise_dcf.specs.declared.write.Write.{Write}
use Rattle.co_values.specs.declared.data_type.DataType.TheVariants.{VisibleString}
use Rattle.eds_device.specs.Described.{kind_at}
use Rattle.eds_device.specs.Sheets.{Sheet}

-- a VISIBLE_STRING has no blank at its ends and no LF; the texts of all other values can stand in a line
abbrev pub StandsInLine : Sheet → Write → Type 0
StandsInLine sheet write = kind_at sheet (write.index, write.sub) ≡ VisibleString → IsValue write.bytes
