-- An event changes its node alone.
use Rattle.std.proofs.Common.{◌≡◌, ◌≢◌, ℕ, zero, suc, Bool, true, false, List, [], ◌∷◌, map, refl, ap, ◌∙◌}
use Rattle.std.specs.Prelude.{◌==◌}
use Rattle.image_parts.specs.Asking.{Asking, outcome}
use Rattle.co_device.specs.Device.{Device}
use Rattle.image_parts.specs.Contents.{Content, Image}
use Rattle.image_parts.specs.declared.part.Part.{Part}
use Rattle.co_scenario.specs.declared.nmt_command.NmtCommand.{NmtCommand}
use Rattle.co_scenario.specs.declared.step.Step.TheVariants.{Set, Power, Nmt}
use Rattle.nmt_boot.specs.Manager.{Manager}
use Rattle.image_parts.specs.Each.{each}
use Rattle.bus_devices.specs.Events.{after_event, after_power_at, after_set_at}
use Rattle.bus_devices.specs.Others.{OthersStay}
use Rattle.bus_devices.specs.Places.{device_at}
use Rattle.image_parts.proofs.EachLemmas.{outcome_each}
use Rattle.bus_devices.proofs.EventLemmas.{another, happens_own, outcome_power}

-- what leaves each of them leaves those of a list
module _ (node : ℕ) (f : Device → Device) (leaves : (d : Device) → d.number ≢ node → f d ≡ d) where
  others : (ds : List Device) → OthersStay node ds (map f ds)
  others [] i differ = refl
  others (d ∷ ds) zero differ = leaves d differ
  others (d ∷ ds) (suc i) differ = others ds i differ

set_leaves : (t node : ℕ) (place : ℕ × ℕ) (bytes : List ℕ) (d : Device) → d.number ≢ node
    → after_set_at t node place bytes d ≡ d
unfolding after_set_at
set_leaves t node place bytes d differ = rw (another d.number node differ) refl

power_leaves : (image : Image) (t node : ℕ) (on : Bool) (d : Device) → d.number ≢ node
    → outcome (after_power_at t node on d) image ≡ d
unfolding after_power_at
power_leaves image t node on d differ = rw (another d.number node differ) refl

each_is : (image : Image) (step : Device → Asking Part Content Device) (ds : List Device)
    → outcome (each step ds) image ≡ map (λ (d : Device). outcome (step d) image) ds
each_is image step [] = refl
each_is image step (d ∷ ds) = outcome_each step d ds image ∙ ap (λ (rest : List Device). outcome (step d) image ∷ rest)
    (each_is image step ds)

module _ (image : Image) (t : ℕ) (ds : List Device) (m : Manager) where
  pub set_others : (node index sub : ℕ) (bytes : List ℕ)
      → OthersStay node ds (outcome (after_event t (Set node index sub bytes) (ds, m)) image).0
  unfolding after_event
  set_others node index sub bytes = others node (after_set_at t node (index, sub) bytes)
      (set_leaves t node (index, sub) bytes) ds

  pub set_manager : (node index sub : ℕ) (bytes : List ℕ)
      → (outcome (after_event t (Set node index sub bytes) (ds, m)) image).1 ≡ m
  unfolding after_event
  set_manager node index sub bytes = refl

  pub power_others : (node : ℕ) (on : Bool)
      → OthersStay node ds (outcome (after_event t (Power node on) (ds, m)) image).0
  power_others node on i differ = by (m.number == node) refl
    where
      by : (own : Bool) → (m.number == node) ≡ own
          → device_at (outcome (after_event t (Power node on) (ds, m)) image).0 i ≡ device_at ds i
      by true e = rw (happens_own t ds m node on e) refl
      by false e =
          ap (λ (nodes : List Device × Manager). device_at nodes.0 i) (outcome_power t ds m node on e image)
          ∙ ap (λ (after : List Device). device_at after i) (each_is image (after_power_at t node on) ds)
          ∙ others node (λ (d : Device). outcome (after_power_at t node on d) image)
          (power_leaves image t node on) ds i differ

  pub power_manager : (node : ℕ) (on : Bool) → (outcome (after_event t (Power node on) (ds, m)) image).1 ≡ m
  power_manager node on = by (m.number == node) refl
    where
      by : (own : Bool) → (m.number == node) ≡ own → (outcome (after_event t (Power node on) (ds, m)) image).1 ≡ m
      by true e = rw (happens_own t ds m node on e) refl
      by false e = ap (λ (nodes : List Device × Manager). nodes.1) (outcome_power t ds m node on e image)

  pub command_devices : (node : ℕ) (command : NmtCommand)
      → (outcome (after_event t (Nmt node command) (ds, m)) image).0 ≡ ds
  unfolding after_event
  command_devices node command = refl
