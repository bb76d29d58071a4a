-- What power-on reads, and who hears a frame.
use Rattle.std.proofs.Common.{◌≡◌, ◌==◌, ℕ, List, [], ◌∷◌, true, false, refl, ap, ◌∙◌, arith}
use Rattle.std.specs.List.{flat_map}
use Rattle.std.proofs.lemmas.Bool.Decides.{nat_tests}
use Rattle.image_parts.specs.Asking.{Answer, reads}
use Rattle.image_parts.specs.Contents.{Content, Image, roster_of}
use Rattle.image_parts.specs.declared.part.Part.{Part}
use Rattle.image_parts.specs.declared.part.Part.TheVariants.{Defaults, Roster, Shape}
use Rattle.can_frame.specs.Senders.{device_sender}
use Rattle.co_device.specs.Device as device
use Rattle.co_device.specs.Device.{Device, after_power, after_reset_node}
use Rattle.can_bus.specs.Bus.{delivered_of, power_on, without_power}
use Rattle.image_parts.specs.Each.{each}
use Rattle.device_agenda.specs.Agenda.{hears}
use Rattle.can_bus.specs.Runs.{power_on_reads}
use Rattle.can_bus.specs.declared.slot.Slot.{Slot}
use Rattle.image_parts.proofs.EachLemmas.{reads_each}
use Rattle.can_bus.proofs.PowerLemmas.{reads_power_on_of}

parts_of : Image → ℕ → List (Part × Content)
parts_of image n = (Defaults n, image (Defaults n)) ∷ (Shape n, image (Shape n)) ∷ []

first_reads : (image : Image) (n : ℕ) → reads (after_power true 0 (device.without_power false n)) image
    ≡ (Defaults n, image (Defaults n)) ∷ (Shape n, image (Shape n)) ∷ []
unfolding after_power after_reset_node
first_reads image n = refl

nodes_read : (image : Image) (numbers : List ℕ)
    → reads (each (after_power true 0) (without_power numbers)) image
    ≡ flat_map (λ n. (Defaults n, image (Defaults n)) ∷ (Shape n, image (Shape n)) ∷ []) numbers
nodes_read image [] = refl
nodes_read image (n ∷ numbers) =
    reads_each (after_power true 0) (device.without_power false n) (without_power numbers) image
    ∙ rw (first_reads image n, nodes_read image numbers) refl

pub power_on_reads_all : (image : Image) → reads power_on image ≡ power_on_reads image
unfolding power_on
power_on_reads_all image =
    let roster = roster_of (image Roster) in
    ap (λ rs. (Roster, image Roster) ∷ rs) (reads_power_on_of roster image ∙ nodes_read image roster.nodes)

pub own_frame_unheard : (t : ℕ) (slot : Slot) (d : Device) → device_sender d.number ≡ slot.sender
    → hears t (delivered_of slot) d ≡ Answer d
unfolding hears
own_frame_unheard t slot d e = rw (e, same_number slot.sender) refl
  where
    same_number : (n : ℕ) → (n == n) ≡ true
    same_number n = grind (arith, nat_tests)
