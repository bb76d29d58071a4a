use Rattle.std.proofs.Common.{◌≡◌, ℕ, ◌-◌, ◌≤◌, List}
use Rattle.std.specs.Prelude.{filter_map}
use Rattle.cia301.specs.PdoObjects.{rpdo_object}
use Rattle.concise_dcf.specs.declared.write.Write.{Write}
use Rattle.eds_device.specs.Sheets.{Sheet}
use Rattle.pdo_stations.specs.Devices.{as_made}
use Rattle.pdo_choices.specs.declared.clean.Clean.{Clean}
use Rattle.pdo_choices.specs.declared.consumer.Consumer.{Consumer}
use Rattle.pdo_plan.specs.Plan.{clean}
use Rattle.pdo_links.specs.PdoWrites.{rpdo_of}
use Rattle.pdo_links.specs.VendorWrites.{unused_writes, vendor_rpdo_writes}
use Rattle.pdo_links.proofs.EachNumber.{at_each, AreValuesTo}
use Rattle.pdo_links.proofs.NumberLemmas.{IsOfAll}
use Rattle.pdo_links.proofs.vendor_rpdo.put_vendor_rpdos.Given as goal

-- the RPDOs of the numbers so far are written
abbrev pub invariant-numbers : goal.invariant-numbers
invariant-numbers l =
    let f : Clean × Consumer → List Write = λ t. vendor_rpdo_writes l.device t.0 t.1 in
    let none : ℕ → List Write = λ number. unused_writes l.device (rpdo_object number) in
    let pdos : List (ℕ × (Clean × Consumer)) = filter_map (rpdo_of l.node) (clean l.plan) in
    record {
      low : 1 ≤ l.number;
      high : l.number ≤ 513;
      written : IsOfAll (at_each f none pdos) l.initial.writes.items l.writes.items l.number;
      fits : (sheet : Sheet) (node : ℕ) → l.device ≡ as_made sheet node → AreValuesTo f none pdos sheet l.number;
    }

abbrev pub decreases-numbers : goal.decreases-numbers
decreases-numbers l = 513 - l.number
