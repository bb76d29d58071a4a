use Rattle.std.proofs.Common.{◌≡◌, ℕ, ◌++◌, List, All}
use Rattle.std.specs.Prelude.{filter_map}
use Rattle.std.specs.List.{flat_map}
use Rattle.concise_dcf.specs.declared.write.Write.{Write}
use Rattle.eds_device.specs.Sheets.{Sheet}
use Rattle.pdo_choices.specs.declared.clean.Clean.{Clean}
use Rattle.pdo_choices.specs.declared.consumer.Consumer.{Consumer}
use Rattle.pdo_plan.specs.Plan.{clean, IsMadeFor}
use Rattle.pdo_links.specs.declared.taken.Taken.{Taken}
use Rattle.pdo_links.specs.Tables.{AreValues}
use Rattle.pdo_links.specs.PdoWrites.{rpdo_of}
use Rattle.pdo_links.specs.Writes.{rpdo_writes, by_number}
use Rattle.pdo_links.proofs.Numbered.{Takes}
use Rattle.pdo_links.proofs.rpdo.put_rpdos.Given as goal

-- what is written so far, with the RPDOs that are left, is what is written of all numbers
abbrev pub invariant-pdos : goal.invariant-pdos
invariant-pdos l =
    let f : Clean × Consumer → List Write = λ t. rpdo_writes t.0 t.1 in
    let all : List Write = by_number f (filter_map (rpdo_of l.node) (clean l.plan)) in
    let left : List Write = flat_map (λ (e : ℕ × Taken). f (e.1.clean.now, e.1.consumer.now)) l._number-iterator in
    record {
      written : l.writes.items ++ left ≡ l.initial.writes.items ++ all;
      taken : All (λ (e : ℕ × Taken). Takes (clean l.plan) l.node e.0 (e.1.clean.now, e.1.consumer.now))
          l._number-iterator;
      fits : (sheet : Sheet) → IsMadeFor l.plan sheet l.node → AreValues sheet left → AreValues sheet all;
    }
