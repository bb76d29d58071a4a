use Rattle.std.proofs.Common.{◌≡◌, ℕ, ◌++◌, Bor, List, All}
use Rattle.std.specs.Prelude.{filter_map}
use Rattle.std.specs.List.{flat_map}
use Rattle.concise_dcf.specs.declared.write.Write.{Write}
use Rattle.pdo_choices.specs.declared.clean.Clean.{Clean}
use Rattle.pdo_plan.specs.Plan.{clean, IsMadeFor}
use Rattle.pdo_links.specs.Tables.{AreValues}
use Rattle.pdo_links.specs.PdoWrites.{tpdo_of}
use Rattle.pdo_links.specs.Writes.{tpdo_writes, by_number}
use Rattle.pdo_links.proofs.Numbered.{Sends}
use Rattle.pdo_links.proofs.tpdo.put_tpdos.Given as goal

-- what is written so far, with the TPDOs that are left, is what is written of all numbers
abbrev pub invariant-pdos : goal.invariant-pdos
invariant-pdos l =
    let f : Clean → List Write = tpdo_writes l.device l.node in
    let all : List Write = by_number f (filter_map (tpdo_of l.node) (clean l.plan)) in
    let left : List Write = flat_map (λ (e : ℕ × Bor Clean). f e.1.now) l._number-iterator in
    record {
      written : l.writes.items ++ left ≡ l.initial.writes.items ++ all;
      sent : All (λ (e : ℕ × Bor Clean). Sends (clean l.plan) l.node e.0 e.1.now) l._number-iterator;
      fits : IsMadeFor l.plan l.device l.node → AreValues l.device left
          → AreValues l.device all;
    }
