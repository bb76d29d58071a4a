use Rattle.std.proofs.Common.{◌≡◌, ℕ, ◌-◌, ◌≤◌, List}
use Rattle.std.specs.Prelude.{filter_map}
use Rattle.cia301.specs.PdoObjects.{tpdo_object}
use Rattle.concise_dcf.specs.declared.write.Write.{Write}
use Rattle.eds_device.specs.Sheets.{Sheet}
use Rattle.pdo_stations.specs.Devices.{as_made}
use Rattle.pdo_choices.specs.declared.clean.Clean.{Clean}
use Rattle.pdo_plan.specs.Plan.{clean}
use Rattle.pdo_links.specs.PdoWrites.{tpdo_of}
use Rattle.pdo_links.specs.VendorWrites.{unused_writes, vendor_tpdo_writes}
use Rattle.pdo_links.proofs.EachNumber.{at_each, AreValuesTo}
use Rattle.pdo_links.proofs.NumberLemmas.{IsOfAll}
use Rattle.pdo_links.proofs.vendor_tpdo.put_vendor_tpdos.Given as goal

-- the TPDOs of the numbers so far are written
abbrev pub invariant-numbers : goal.invariant-numbers
invariant-numbers l =
    let f : Clean → List Write = vendor_tpdo_writes l.device in
    let none : ℕ → List Write = λ number. unused_writes l.device (tpdo_object number) in
    let pdos : List (ℕ × Clean) = filter_map (tpdo_of l.node) (clean l.plan) in
    record {
      low : 1 ≤ l.number;
      high : l.number ≤ 513;
      written : IsOfAll (at_each f none pdos) l.initial.writes.items l.writes.items l.number;
      fits : (sheet : Sheet) (node : ℕ) → l.device ≡ as_made sheet node → AreValuesTo f none pdos sheet l.number;
    }

abbrev pub decreases-numbers : goal.decreases-numbers
decreases-numbers l = 513 - l.number
