-- A node that sends no message of a plan.
use Rattle.std.proofs.Common.{◌≡◌, ℕ, Bool, true, false, ◌||◌, List, [], ◌∷◌, Option, Some, None, is_some, refl}
use Rattle.std.specs.Prelude.{option_and_then}
use Rattle.std.specs.List.{list_any}
use Rattle.std.specs.Option.{option_map_or}
use Rattle.co_dict.specs.Values.{Values}
use Rattle.pdo_links.specs.PdoWrites.{tpdo_of}
use Rattle.pdo_choices.specs.declared.clean.Clean.{Clean}
use Rattle.pdo_plan.specs.declared.planned_message.PlannedMessage.{PlannedMessage}
use Rattle.pdo_plan.specs.Plan.{clean_of}
use Rattle.project_plan.specs.Wanted.{is_sent_by, sends, with_tpdo, with_tpdos}

-- has the values that it is given
pub nothing_sent : (values : Values) (node : ℕ) (plan : List PlannedMessage) → sends plan node ≡ false
    → with_tpdos values node plan ≡ values
nothing_sent values node [] none = refl
nothing_sent values node (m ∷ ms) none =
    by (option_and_then (tpdo_of node) (clean_of m.outcome)) none (nothing_sent values node ms)
  where
    by : (o : Option (ℕ × Clean)) → (is_some o || list_any (is_sent_by node) ms) ≡ false
        → (list_any (is_sent_by node) ms ≡ false → with_tpdos values node ms ≡ values)
        → option_map_or (with_tpdo (with_tpdos values node ms)) o (with_tpdos values node ms) ≡ values
    by None none rest = rest none
    by (Some tpdo) none rest = cc
