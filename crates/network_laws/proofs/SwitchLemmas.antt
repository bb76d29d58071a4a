-- An event of the power: the devices of its number are switched, or nothing is, where the manager runs in them.
use Rattle.std.proofs.Common.{◌≡◌, ℕ, Bool, true, false, List, [], ◌∙◌, refl, subst, sym}
use Rattle.std.specs.Prelude.{◌==◌, if◌then◌else◌}
use Rattle.std.proofs.lemmas.List.{append-nil}
use Rattle.image_parts.proofs.QuestionLemmas.{outcome_bind, reads_bind}
use Rattle.image_parts.specs.Asking.{Answer, bind, outcome, reads}
use Rattle.image_parts.specs.Contents.{Content, Image}
use Rattle.image_parts.specs.Each.{each}
use Rattle.image_parts.specs.declared.part.Part.{Part}
use Rattle.bus_devices.specs.Events.{after_event, after_power_at}
use Rattle.co_device.specs.Device.{Device}
use Rattle.co_scenario.specs.declared.step.Step.TheVariants.{Power}
use Rattle.nmt_boot.specs.Manager.{Manager}

module _ (t : ℕ) (ds : List Device) (m : Manager) (node : ℕ) (on : Bool) (image : Image) where
  pub switch_holds : (P : List Device × Manager → Type 0) → P (ds, m)
      → P (outcome (each (after_power_at t node on) ds) image, m)
      → P (outcome (after_event t (Power node on) (ds, m)) image)
  unfolding after_event
  switch_holds P stays goes = by (m.number == node)
    where
      by : (b : Bool) → P (outcome (if b then Answer (ds, m)
          else bind (each (after_power_at t node on) ds) (λ after. Answer (after, m))) image)
      by true = stays
      by false =
          subst P (sym (outcome_bind (each (after_power_at t node on) ds) (λ after. Answer (after, m)) image)) goes

  pub switch_reads : (P : List (Part × Content) → Type 0) → P []
      → ((m.number == node) ≡ false → P (reads (each (after_power_at t node on) ds) image))
      → P (reads (after_event t (Power node on) (ds, m)) image)
  unfolding after_event
  switch_reads P none some = by (m.number == node) refl
    where
      by : (b : Bool) → (m.number == node) ≡ b
          → P (reads {A = List Device × Manager} (if b then Answer (ds, m)
          else bind (each (after_power_at t node on) ds) (λ after. Answer (after, m))) image)
      by true e = none
      by false e =
          subst P (sym (reads_bind (each (after_power_at t node on) ds) (λ after. Answer (after, m)) image
          ∙ append-nil _)) (some e)
