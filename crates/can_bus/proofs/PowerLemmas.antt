-- The power-on of a network.
use Rattle.std.proofs.Common.{◌≡◌, ℕ, zero, suc, ◌<◌, ◌≤◌, List, [], ◌∷◌, true, false, None, length, get_or, ◌∙◌, arith}
use Rattle.std.specs.List.{AllByRecursion}
use Rattle.std.proofs.lemmas.List.{append-nil}
use Rattle.image_parts.specs.Asking.{Answer, Seen, outcome, reads, after_reads}
use Rattle.image_parts.proofs.QuestionLemmas.{outcome_bind, reads_bind, followed_last}
use Rattle.image_parts.specs.Contents.{Content, Image}
use Rattle.image_parts.specs.Images.{IsRoster}
use Rattle.cia301.specs.Limits.{bit_rates}
use Rattle.image_parts.specs.declared.part.Part.{Part}
use Rattle.image_parts.specs.declared.roster.Roster.{Roster}
use Rattle.can_frame.specs.Frames.{bit_time}
use Rattle.co_device.specs.Device.{Device, after_power}
use Rattle.nmt_boot.specs.Manager.{Manager, manager_at_power_on}
use Rattle.can_bus.specs.Bus.{Bus, power_on_of, bus_with_power, without_power}
use Rattle.image_parts.specs.Each.{each}

-- no bit rate is 0
not_zero : (xs : List ℕ) (x k : ℕ) → AllByRecursion (λ b. 1 ≤ b) xs → k < length xs → get_or xs k x ≡ x → 1 ≤ x
not_zero [] x k all h e = absurd (omega (arith, h))
not_zero (b ∷ bs) x zero all h e = omega (arith, e, all.0)
not_zero (b ∷ bs) x (suc k) all h e = not_zero bs x k all.1 (omega (arith, h)) e

pub has_rate : (roster : Roster) → IsRoster roster → 1 ≤ roster.bit_rate
has_rate roster is =
    not_zero bit_rates roster.bit_rate is.bit_rate.0 (
      omega arith,
      (omega arith, (omega arith, (omega arith, (omega arith, (omega arith, (omega arith, tt)))))),
    ) is.bit_rate.1
    is.bit_rate.2

module _ (roster : Roster) where
  pub outcome_power_on_of : (image : Image)
      → outcome (power_on_of roster) image
      ≡ bus_with_power roster (outcome (each (after_power true 0) (without_power roster.nodes)) image)
  unfolding power_on_of
  outcome_power_on_of image = outcome_bind (each (after_power true 0) (without_power roster.nodes))
      (λ ds. Answer (bus_with_power roster ds)) image

  pub reads_power_on_of : (image : Image) → reads (power_on_of roster) image
      ≡ reads (each (after_power true 0) (without_power roster.nodes)) image
  unfolding power_on_of
  reads_power_on_of image = reads_bind (each (after_power true 0) (without_power roster.nodes))
      (λ ds. Answer (bus_with_power roster ds)) image ∙ append-nil _

  pub followed_power_on_of : (seen : Seen Part Content)
      → after_reads (power_on_of roster) seen ≡ after_reads (each (after_power true 0)
      (without_power roster.nodes)) seen
  unfolding power_on_of
  followed_power_on_of seen = followed_last (each (after_power true 0) (without_power roster.nodes))
      (bus_with_power roster) seen

  pub switched_on_is : (image : Image) (bit : ℕ) (before after : List Device) (m : Manager)
      → bit ≡ bit_time roster.bit_rate → before ≡ without_power roster.nodes
      → after ≡ outcome (each (after_power true 0) before) image → m ≡ manager_at_power_on roster
      → ◌≡◌ {A = Bus}
      (record {
        spent = false;
        bit_time = bit;
        slots = roster.slots;
        devices = after;
        manager = m;
        wire = None;
        window = 0;
        steps = [];
      })
      (outcome (power_on_of roster) image)
  switched_on_is image bit before after m b f d e = rw (outcome_power_on_of, b, d, f, e)

pub ruleset power_on_laws = (outcome_power_on_of, reads_power_on_of, followed_power_on_of)
