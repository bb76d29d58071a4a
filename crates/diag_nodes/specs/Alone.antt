-- Private: what is kept of a node by numbers of its entries, and what is kept of it by itself.
use Rattle.std.specs.Prelude.{◌≡◌, ℕ, false, [], ◌++◌, refl}
use Rattle.std.specs.Coded.{Coded, code_by, coded×, coded_ℕ}
use Rattle.eds_device.specs.Sheets.{Sheet}
use Rattle.co_project.specs.declared.node.Node.{Node}
use Rattle.project_plan.specs.Network.{Member}
use Rattle.project_plan.specs.Values.{Numbers}
use Rattle.diag_nodes.specs.declared.kept.Kept.{Kept}
use Rattle.diag_nodes.specs.Kept.{numbers_by}
use Rattle.diag_nodes.specs.Rules.{consumers_in, counters_in, identifiers_in, times_in}

-- a number and its node with a data sheet are stored as these three
abbrev pub member_code : Coded Node → Coded Sheet → Coded (ℕ × Member)
member_code node_code sheet_code =
    code_by (ℕ × (Node × Sheet)) (coded× coded_ℕ (coded× node_code sheet_code)) (λ e. (e.0, (e.1.node, e.1.sheet)))
    (λ t. (t.0, record { node = t.1.0; sheet = t.1.1 })) (λ _. refl)

-- the numbers that are wanted of a node that sends no message
abbrev pub alone : ℕ × Member → Numbers
alone = numbers_by false []

module _ (numbers : ℕ × Member → Numbers) (e : ℕ × Member) where
  -- this is what is kept of a node by these numbers
  pub record IsKeptOf (kept : Kept) : Type 0 where
    pub identifiers : kept.identifiers.items ≡ identifiers_in numbers e
    pub consumers : kept.consumers.items ≡ consumers_in numbers e
    pub times : kept.times.items ≡ times_in numbers e
    pub counters : kept.counters.items ≡ counters_in numbers e

  -- it is put at the end of what was kept
  pub record Keeps (old new : Kept) : Type 0 where
    pub identifiers : new.identifiers.items ≡ old.identifiers.items ++ identifiers_in numbers e
    pub consumers : new.consumers.items ≡ old.consumers.items ++ consumers_in numbers e
    pub times : new.times.items ≡ old.times.items ++ times_in numbers e
    pub counters : new.counters.items ≡ old.counters.items ++ counters_in numbers e
