-- What the nodes do, one after another.
use Rattle.std.proofs.Common.{◌≡◌, ℕ, List, [], ◌∷◌, ◌++◌, Option, Some, None, ◌∙◌, ap, sym, refl, map}
use Rattle.std.proofs.lemmas.List.{append-nil}
use Rattle.image_parts.specs.Asking.{Answer, Seen, outcome, reads}
use Rattle.image_parts.specs.Record.{IsAsked}
use Rattle.image_parts.proofs.QuestionLemmas.{outcome_bind, reads_bind}
use Rattle.image_parts.proofs.RecordLemmas.{asked_in_turn}
use Rattle.image_parts.specs.Contents.{Content, Image}
use Rattle.image_parts.specs.declared.part.Part.{Part}
use Rattle.co_device.specs.Device.{Device, after_instant}
use Rattle.nmt_boot.specs.Manager.{Manager}
use Rattle.image_parts.specs.Each.{each}
use Rattle.image_parts.proofs.EachLemmas.{outcome_each, reads_each}
use Rattle.device_agenda.specs.Agenda.{at_instant, hears}
use Rattle.can_bus.specs.Bus.{nodes_after_devices, after_delivery, delivered_of, delivery_of}
use Rattle.can_bus.specs.Bus.{manager_after_delivery, nodes_after}
use Rattle.can_bus.specs.declared.slot.Slot.{Slot}

-- ---- a device hears what is delivered and then runs: so do all, whether each does both in turn or all do the one
-- first

module _ (t : ℕ) where
  one_runs : (d : Device) (image : Image) → outcome (at_instant t None d) image ≡ after_instant t d
  unfolding at_instant
  one_runs d image = refl

  one_asks_nothing : (d : Device) (image : Image) → reads (at_instant t None d) image ≡ []
  unfolding at_instant
  one_asks_nothing d image = refl

  all_run : (ds : List Device) (image : Image) → outcome (each (at_instant t None) ds) image ≡ map (after_instant t) ds
  all_run [] image = refl
  all_run (d ∷ ds) image = outcome_each (at_instant t None) d ds image ∙ rw (one_runs d image, all_run ds image) refl

  all_ask_nothing : (ds : List Device) (image : Image) → reads (each (at_instant t None) ds) image ≡ []
  all_ask_nothing [] image = refl
  all_ask_nothing (d ∷ ds) image = reads_each (at_instant t None) d ds image
      ∙ rw (one_asks_nothing d image, all_ask_nothing ds image) refl

  module _ (slot : Slot) where
    one_hears : (d : Device) (image : Image)
        → outcome (at_instant t (delivery_of (Some slot)) d) image
        ≡ after_instant t (outcome (hears t (delivered_of slot) d) image)
    unfolding at_instant
    one_hears d image = outcome_bind (hears t (delivered_of slot) d) (λ heard. Answer (after_instant t heard)) image

    one_asks : (d : Device) (image : Image) → reads (at_instant t (delivery_of (Some slot)) d) image
        ≡ reads (hears t (delivered_of slot) d) image
    unfolding at_instant
    one_asks d image = reads_bind (hears t (delivered_of slot) d) (λ heard. Answer (after_instant t heard)) image
        ∙ append-nil _

    all_hear : (ds : List Device) (image : Image)
        → outcome (each (at_instant t (delivery_of (Some slot))) ds) image
        ≡ map (after_instant t) (outcome (each (hears t (delivered_of slot)) ds) image)
    all_hear [] image = refl
    all_hear (d ∷ ds) image =
        outcome_each (at_instant t (delivery_of (Some slot))) d ds image
        ∙ rw (one_hears d image, all_hear ds image) refl
        ∙ ap (map (after_instant t)) (sym (outcome_each (hears t (delivered_of slot)) d ds image))

    all_ask : (ds : List Device) (image : Image)
        → reads (each (at_instant t (delivery_of (Some slot))) ds) image
        ≡ reads (each (hears t (delivered_of slot)) ds) image
    all_ask [] image = refl
    all_ask (d ∷ ds) image =
        reads_each (at_instant t (delivery_of (Some slot))) d ds image
        ∙ rw (one_asks d image, all_ask ds image) refl
        ∙ sym (reads_each (hears t (delivered_of slot)) d ds image)

  pub all_outcome : (slot : Option Slot) (ds : List Device) (image : Image)
      → outcome (each (at_instant t (delivery_of slot)) ds) image
      ≡ map (after_instant t) (outcome (after_delivery t slot ds) image)
  unfolding after_delivery
  all_outcome None ds image = all_run ds image
  all_outcome (Some slot) ds image = all_hear slot ds image

  pub all_reads : (slot : Option Slot) (ds : List Device) (image : Image)
      → reads (each (at_instant t (delivery_of slot)) ds) image ≡ reads (after_delivery t slot ds) image
  unfolding after_delivery
  all_reads None ds image = all_ask_nothing ds image
  all_reads (Some slot) ds image = all_ask slot ds image

module _ (t : ℕ) (slot : Option Slot) (m : Manager) where
  outcome_last : (ds : List Device) (image : Image)
      → outcome (nodes_after_devices t slot m ds) image ≡ (ds, outcome (manager_after_delivery t slot m) image)
  unfolding nodes_after_devices
  outcome_last ds image = outcome_bind (manager_after_delivery t slot m) (λ r. Answer (ds, r)) image

  reads_last : (ds : List Device) (image : Image)
      → reads (nodes_after_devices t slot m ds) image ≡ reads (manager_after_delivery t slot m) image
  unfolding nodes_after_devices
  reads_last ds image = reads_bind (manager_after_delivery t slot m) (λ r. Answer (ds, r)) image ∙ append-nil _

  module _ (ds : List Device) where
    pub outcome_nodes : (image : Image) → outcome (nodes_after t slot ds m) image
        ≡ (
          map (after_instant t) (outcome (after_delivery t slot ds) image),
          outcome (manager_after_delivery t slot m) image,
        )
    unfolding nodes_after
    outcome_nodes image =
        outcome_bind (after_delivery t slot ds)
        (λ heard. nodes_after_devices t slot m (map (after_instant t) heard)) image
        ∙ outcome_last (map (after_instant t) (outcome (after_delivery t slot ds) image)) image

    pub reads_nodes : (image : Image) → reads (nodes_after t slot ds m) image
        ≡ reads (after_delivery t slot ds) image ++ reads (manager_after_delivery t slot m) image
    unfolding nodes_after
    reads_nodes image =
        reads_bind (after_delivery t slot ds)
        (λ heard. nodes_after_devices t slot m (map (after_instant t) heard)) image
        ∙ ap (λ rs. reads (after_delivery t slot ds) image ++ rs)
        (reads_last (map (after_instant t) (outcome (after_delivery t slot ds) image)) image)

    -- the devices hear and run one after another: each the one and then the other
    pub outcome_run : (image : Image) → outcome (nodes_after t slot ds m) image
        ≡ (outcome (each (at_instant t (delivery_of slot)) ds) image, outcome (manager_after_delivery t slot m) image)
    outcome_run image = outcome_nodes image
        ∙ ap (λ (heard : List Device). (heard, outcome (manager_after_delivery t slot m) image))
        (sym (all_outcome t slot ds image))

    pub asked_run : (a b c : Seen Part Content) (x y z : ℕ)
        → IsAsked (each (at_instant t (delivery_of slot)) ds) a b x y
        → IsAsked (manager_after_delivery t slot m) b c y z → IsAsked (nodes_after t slot ds m) a c x z
    asked_run a b c x y z = asked_in_turn (nodes_after t slot ds m) (each (at_instant t (delivery_of slot)) ds)
        (manager_after_delivery t slot m) a b c x y z (rw (reads_nodes a.image, all_reads t slot ds a.image) refl)

pub ruleset nodes_laws = (outcome_run, asked_run)
