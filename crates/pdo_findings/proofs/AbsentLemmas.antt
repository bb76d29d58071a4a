-- Of PDOs that a device hasn't nothing is found.
use Rattle.std.proofs.Common.{◌≡◌, ℕ, Bool, true, false, ◌&&◌, List, [], ◌∷◌, None, refl, ap, ◌∙◌}
use Rattle.std.specs.Prelude.{not, if◌then◌else◌}
use Rattle.std.specs.Option.{option_map_or}
use Rattle.cia301.specs.PdoObjects.{rpdo_object, tpdo_object}
use Rattle.co_dict.specs.Shapes.{HasIndex}
use Rattle.pdo_plan.specs.declared.planned_message.PlannedMessage.{PlannedMessage}
use Rattle.pdo_stations.specs.declared.as_made.AsMade.{AsMade}
use Rattle.vendor_pdos.proofs.PresentLemmas.{no_entry}
use Rattle.pdo_findings.specs.Findings.{is_sent_to, lasting_identifier, sends_on, unplanned_rpdo, unplanned_tpdo}
use Rattle.pdo_findings.specs.Findings.{uses_rpdo, uses_tpdo}

never_lasts : (device : AsMade) (object : ℕ) → (HasIndex device.shape object → ⊥) → lasting_identifier device object ≡ None
unfolding lasting_identifier
never_lasts device object none = rw (no_entry device object none 1) refl

never_sends : (device : AsMade) (object : ℕ) → (HasIndex device.shape object → ⊥) → sends_on device object ≡ false
unfolding sends_on
never_sends device object none = rw (never_lasts device object none) refl

either_way : (number : ℕ) (a : Bool) → let found : List ℕ = if a && false then number ∷ [] else [] in found ≡ []
either_way number true = refl
either_way number false = refl

module _ (plan : List PlannedMessage) (device : AsMade) (node number : ℕ) where
  pub no_tpdo : (HasIndex device.shape (tpdo_object number) → ⊥) → unplanned_tpdo plan device node number ≡ []
  no_tpdo none =
      ap (λ (b : Bool). let found : List ℕ = if not (uses_tpdo plan node number) && b then number ∷ [] else [] in found)
      (never_sends device (tpdo_object number) none)
      ∙ either_way number (not (uses_tpdo plan node number))

  pub no_rpdo : (HasIndex device.shape (rpdo_object number) → ⊥) → unplanned_rpdo plan device node number ≡ []
  no_rpdo none =
      ap (λ (b : Bool). let found : List ℕ = if not (uses_rpdo plan node number) && b then number ∷ [] else [] in found)
      (ap (λ o. option_map_or (is_sent_to plan node) o false) (never_lasts device (rpdo_object number) none))
      ∙ either_way number (not (uses_rpdo plan node number))
