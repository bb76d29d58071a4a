-- What a node is written: the writes, and the device whose entries they write.
use Rattle.std.specs.Prelude.{List, All}
use Rattle.eds_device.specs.Sheets.{Sheet}
use Rattle.concise_dcf.specs.declared.write.Write.{Write}
use Rattle.co_values.specs.Values.{Fits}
use Rattle.eds_device.specs.Described.{kind_at}

pub record DeviceWithWrites : Type 0 where
  pub device : Sheet
  pub writes : List Write

-- each write is a value of its entry
unfoldable pub AreValuesOf : Sheet → List Write → Type 0
AreValuesOf device writes = All (λ w. Fits (kind_at device (w.index, w.sub)) w.bytes) writes
