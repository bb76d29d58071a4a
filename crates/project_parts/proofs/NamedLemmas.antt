-- The plan over the devices of the nodes that messages name is that over all.
use Rattle.std.proofs.Common.{◌≡◌, ◌∙◌, ℕ, ◌==◌, Bool, true, false, cond, List, [], ◌∷◌, filter, Option, Some, refl, sym, ap}
use Rattle.std.specs.FinMap.{entries}
use Rattle.std.specs.Map.{lookup}
use Rattle.std.proofs.lemmas.Bool.{eqb-true}
use Rattle.eds_device.specs.Sheets.{Sheet}
use Rattle.project_messages.specs.Messages.{is_of_messages, Named}
use Rattle.pdo_plan.specs.Plan.{plan_of}
use Rattle.pdo_plan.proofs.NamedLemmas.{named_alike}
use Rattle.pdo_stations.specs.Devices.{devices_of}
use Rattle.project_plan.specs.Named.{is_flagged}
use Rattle.project_parts.specs.Made.{flagged, plan_made}

module _ (flags : List Bool) where
  module _ (node : ℕ) (named : is_flagged flags node ≡ true) where
    abbrev at_node : List (ℕ × Sheet) → Option Sheet
    at_node nodes = lookup (λ n. n == node) nodes

    -- one that isn't named
    other : (d : ℕ × Sheet) → is_flagged flags d.0 ≡ false → (t : Bool) → (d.0 == node) ≡ t → t ≡ false
    other d none true same = sym named ∙ ap (is_flagged flags) (sym (eqb-true d.0 node same)) ∙ none
    other d none false apart = refl

    -- what is found of a named node
    found : (ds : List (ℕ × Sheet)) → at_node (filter (flagged flags) ds) ≡ at_node ds
    found [] = refl
    found (d ∷ ds) = by (is_flagged flags d.0) refl (found ds)
      where
        by : (t : Bool) → is_flagged flags d.0 ≡ t → at_node (filter (flagged flags) ds) ≡ at_node ds
            → at_node (cond t (d ∷ filter (flagged flags) ds) (filter (flagged flags) ds)) ≡ at_node (d ∷ ds)
        by true is rest = ap (cond (d.0 == node) (Some d.1)) rest
        by false none rest =
            rest ∙ sym (ap (λ t. cond t (Some d.1) (at_node ds)) (other d none (d.0 == node) refl))

-- the plan of the messages
pub named_planned : (controller : Option ℕ) (devices : List (ℕ × Sheet)) (messages : Named) (flags : List Bool)
    (nodes : List (ℕ × Sheet)) → ((node : ℕ) → is_flagged flags node ≡ is_of_messages node messages)
    → nodes ≡ filter (flagged flags) devices
    → plan_of (devices_of false controller nodes) (entries messages)
    ≡ plan_made (record { is_three = false; controller = controller; devices = devices; messages = messages })
unfolding plan_made
named_planned controller devices messages flags nodes named is =
    ap (λ (ns : List (ℕ × Sheet)). plan_of (devices_of false controller ns) (entries messages)) is
    ∙ named_alike controller (filter (flagged flags) devices) devices messages
    (λ node concerned. found flags node (named node ∙ concerned) devices)

-- and over all of them in version 3
pub all_planned : (controller : Option ℕ) (devices : List (ℕ × Sheet)) (messages : Named) (nodes : List (ℕ × Sheet)) → nodes ≡ devices
    → plan_of (devices_of true controller nodes) (entries messages)
    ≡ plan_made (record { is_three = true; controller = controller; devices = devices; messages = messages })
unfolding plan_made
all_planned controller devices messages nodes is =
    ap (λ (ns : List (ℕ × Sheet)). plan_of (devices_of true controller ns) (entries messages)) is
