-- The entries of a data sheet that have to be looked at at each of its nodes.
use Rattle.std.specs.Prelude.{◌≡◌}
use Rattle.eds_device.specs.Sheets.{Sheet}
use Rattle.project_plan.specs.declared.sheet_entries.SheetEntries.{SheetEntries}
use Rattle.project_plan.specs.Doubtful.{doubtful_places}
use Rattle.project_plan.specs.GivenParameters.{given_places}

-- these are the entries that the data sheet gives a parameter, and those whose default is doubtful
pub record AreEntriesOf (sheet : Sheet) (entries : SheetEntries) : Type 0 where
  pub given : entries.given.items ≡ given_places sheet.sections
  pub doubtful : entries.doubtful.items ≡ doubtful_places sheet
