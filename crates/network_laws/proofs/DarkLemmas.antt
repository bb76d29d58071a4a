-- A device without power: it takes nothing, nothing waits and nothing is due.
use Rattle.std.proofs.Common.{◌≡◌, ℕ, Bool, true, false, List, None, refl, sym, ap, ◌∙◌}
use Rattle.image_parts.specs.Asking.{outcome}
use Rattle.can_frame.specs.Frames.{BaseFrame}
use Rattle.image_parts.specs.Contents.{Image}
use Rattle.device_objects.specs.Consumers.{failures_at}
use Rattle.device_pdos.specs.Tpdos.{tpdos_after_inhibit}
use Rattle.co_device.specs.Device.{Device, after_consumers, after_heartbeat, after_initialisation, after_instant}
use Rattle.co_device.specs.Device.{after_power, after_reset_node, after_set, after_timers, after_tpdos, next_due}
use Rattle.co_device.specs.Device.{without_power}
use Rattle.co_device.specs.Receiving.{after_frame, after_reception, reception}
use Rattle.device_agenda.specs.Itself.{StaysItself}
use Rattle.device_agenda.proofs.CaseLemmas.{either, not_both, picked}
use Rattle.device_agenda.proofs.SelfLemmas.{frame_stays, instant_stays}
use Rattle.network_laws.specs.States.{IsDark}

pub frame_untaken : (image : Image) (t : ℕ) (frame : BaseFrame) (d : Device) → d.has_power ≡ false
    → outcome (after_frame t frame d) image ≡ d
unfolding after_frame after_reception reception
frame_untaken image t frame d off = rw off refl

pub set_untaken : (t : ℕ) (place : ℕ × ℕ) (bytes : List ℕ) (d : Device) → d.has_power ≡ false
    → after_set t place bytes d ≡ d
unfolding after_set
set_untaken t place bytes d off = rw off refl

-- what stays as it was stays dark
dark_still : (d e : Device) → StaysItself d e → (d.has_power ≡ false → e ≡ d) → IsDark d → IsDark e
dark_still d e stays untaken h off =
    let was_off : d.has_power ≡ false = sym stays.has_power ∙ off in
    rw (untaken was_off) (h was_off)

pub frame_is_dark : (image : Image) (t : ℕ) (frame : BaseFrame) (d : Device) → IsDark d
    → IsDark (outcome (after_frame t frame d) image)
frame_is_dark image t frame d h = dark_still d _ (frame_stays image t d frame) (frame_untaken image t frame d) h

off_is_dark : (spent : Bool) (number : ℕ) → IsDark (without_power spent number)
off_is_dark spent number off = refl

node_is_dark : (image : Image) (t : ℕ) (d : Device) → IsDark (outcome (after_reset_node t d) image)
unfolding after_reset_node after_initialisation
node_is_dark image t d off = not_both true off refl

pub power_is_dark : (image : Image) (t : ℕ) (on : Bool) (d : Device) → IsDark d
    → IsDark (outcome (after_power on t d) image)
unfolding after_power
power_is_dark image t true d h = picked image IsDark d.has_power _ _ (λ b. h) (λ b. node_is_dark image t d)
power_is_dark image t false d h = either IsDark d.has_power _ d (λ b. off_is_dark d.spent d.number) (λ b. h)

nothing_runs : (t : ℕ) (spent : Bool) (number : ℕ)
    → after_instant t (without_power spent number) ≡ without_power spent number
unfolding after_instant after_timers after_consumers after_heartbeat after_tpdos failures_at tpdos_after_inhibit
nothing_runs t spent number = refl

pub instant_is_dark : (t : ℕ) (d : Device) → IsDark d → IsDark (after_instant t d)
instant_is_dark t d h = dark_still d (after_instant t d) (instant_stays t d)
    (λ off. ap (after_instant t) (h off) ∙ nothing_runs t d.spent d.number ∙ sym (h off)) h

pub nothing_due : (spent : Bool) (number : ℕ) → next_due (without_power spent number) ≡ None
unfolding next_due
nothing_due spent number = refl
