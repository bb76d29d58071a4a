-- The run over due moments is the run.
use Rattle.image_parts.specs.Each.{each}
use Rattle.std.proofs.Common.{true, ◌≡◌, ℕ, zero, suc, ◌+◌, ◌<◌, ◌≤◌, List, [], ◌∷◌, ◌++◌, length, get_or, refl, sym}
use Rattle.std.proofs.Common.{ap, ◌∙◌, arith}
use Rattle.std.specs.Prelude.{All}
use Rattle.std.specs.List.{AllByRecursion}
use Rattle.std.proofs.lemmas.List.Elements.{All-from_recursion}
use Rattle.image_parts.specs.Agenda.{dues, IsSameUnder}
use Rattle.image_parts.specs.Asking.{outcome, reads, turns}
use Rattle.image_parts.proofs.DueLemmas.{dues_same}
use Rattle.image_parts.proofs.QuestionLemmas.{outcome_bind, reads_bind}
use Rattle.can_frame.specs.Frames.{bit_time}
use Rattle.co_device.specs.Device as device
use Rattle.co_device.specs.Device.{Device, after_instant}
use Rattle.image_parts.specs.Contents.{Image, roster_of}
use Rattle.image_parts.specs.Images.{IsImage, IsRoster}
use Rattle.cia301.specs.Limits.{bit_rates}
use Rattle.image_parts.specs.declared.part.Part.TheVariants.{Roster}
use Rattle.image_parts.specs.declared.roster.Roster.{Roster as Network}
use Rattle.device_agenda.specs.Rest.{Rests}
use Rattle.can_bus.specs.Bus.{Bus, instant, power_on, bus_with_power, without_power}
use Rattle.can_bus.specs.Dues.{IsAtRest, IsJustBefore, due_run, least, moments, next_due}
use Rattle.can_bus.specs.Runs.{run}
use Rattle.can_bus.proofs.AfterLemmas.{instant_past}
use Rattle.can_bus.proofs.DueLemmas.{due_from, from_parts, parts_from}
use Rattle.can_bus.proofs.PowerLemmas.{outcome_power_on_of}
use Rattle.can_bus.proofs.QuietLemmas.{quiet}
use Rattle.can_bus.proofs.SettledLemmas.{instant_settles}
use Rattle.can_bus.proofs.TimeLemmas.{in_time_after, in_time_first}

-- ---- the time of a bit

within : (xs : List ℕ) (x k : ℕ) → AllByRecursion (λ b. (1 ≤ b) × (b ≤ 1000)) xs → k < length xs → get_or xs k x ≡ x
    → (1 ≤ x) × (x ≤ 1000)
within [] x k all h e = absurd (omega (arith, h))
within (b ∷ bs) x zero all h e = (omega (arith, e, all.0.0), omega (arith, e, all.0.1))
within (b ∷ bs) x (suc k) all h e = within bs x k all.1 (omega (arith, h)) e

rates : AllByRecursion (λ b. (1 ≤ b) × (b ≤ 1000)) bit_rates
rates = (
  (omega arith, omega arith),
  (
    (omega arith, omega arith),
    (
      (omega arith, omega arith),
      (
        (omega arith, omega arith),
        ((omega arith, omega arith), ((omega arith, omega arith), ((omega arith, omega arith), tt))),
      ),
    ),
  ),
)

bit_lasts : (rate : ℕ) → 1 ≤ rate → rate ≤ 1000 → 1 ≤ bit_time rate
bit_lasts rate h k = search (h, k, arith)

has_bit_time : (roster : Network) → IsRoster roster → 1 ≤ bit_time roster.bit_rate
has_bit_time roster is =
    let limits = within bit_rates roster.bit_rate is.bit_rate.0 rates is.bit_rate.1 is.bit_rate.2 in
    bit_lasts roster.bit_rate limits.0 limits.1

-- ---- from power-on

any_from : (ms : List ℕ) → All (λ m. 0 ≤ m) ms
any_from ms k d h = omega arith

none_sooner : (ms : List ℕ) → least 0 ms ≡ 0
none_sooner [] = refl
none_sooner (m ∷ ms) = let rest = none_sooner ms in omega (arith, rest)

power_on_due : (image : Image) → next_due (outcome power_on image) ≡ 0
unfolding power_on next_due
power_on_due image =
    let roster = roster_of (image Roster) in
    let s : Bus = bus_with_power roster (outcome (each (device.after_power true 0) (without_power roster.nodes)) image)
    in
    rw (outcome_power_on_of roster image) (none_sooner (moments s))

bit_time_first : (image : Image) → IsImage image → 1 ≤ (outcome power_on image).bit_time
unfolding power_on
bit_time_first image fits = rw (outcome_power_on_of (roster_of (image Roster)) image)
    (has_bit_time (roster_of (image Roster)) fits.roster)

none_before : (n : ℕ) → n ≡ 0 → 0 < n → ⊥
none_before n e h = omega (arith, e, h)

pub before_first : (image : Image) → IsImage image → IsJustBefore 0 (outcome power_on image)
before_first image fits = record {
  bit_time = bit_time_first image fits;
  in_time = in_time_first image;
  from = any_from (moments (outcome power_on image));
  rests = λ h. absurd (none_before (next_due (outcome power_on image)) (power_on_due image) h);
}

-- ---- each instant

pub at_rest_after : (image : Image) (t : ℕ) (s : Bus) → IsJustBefore t s → IsAtRest (outcome (instant t s) image).0
at_rest_after image t s h =
    let past = instant_past image t s h.bit_time (parts_from t s h.from) in
    record {
      settled = instant_settles image t s;
      devices = All-from_recursion Rests (outcome (instant t s) image).0.devices past.rest;
    }

pub before_next : (image : Image) → IsImage image → (t : ℕ) (s : Bus) → IsJustBefore t s
    → IsJustBefore (t + 1) (outcome (instant t s) image).0
before_next image fits t s h =
    let past = instant_past image t s h.bit_time (parts_from t s h.from) in
    let next = in_time_after image t s fits h.in_time in
    record {
      bit_time = past.bit_time;
      in_time = next;
      from = from_parts (t + 1)
          (outcome (instant t s) image).0 (record {
            devices = past.devices;
            manager = past.manager;
            slot = past.slot;
            steps = next.from;
          });
      rests = λ soon. at_rest_after image t s h;
    }

pub due_ahead : (t : ℕ) (s : Bus) → IsJustBefore t s → t ≤ next_due s
due_ahead t s h = due_from t s h.in_time.window.from h.from

pub due_past : (image : Image) → IsImage image → (t : ℕ) (s : Bus) → IsJustBefore t s
    → t < next_due (outcome (instant t s) image).0
due_past image fits t s h =
    let ahead = due_ahead (t + 1) (outcome (instant t s) image).0 (before_next image fits t s h) in
    omega (arith, ahead)

pub dues_are_turns : (image : Image) (end k t : ℕ) (s : Bus) → IsImage image → IsJustBefore t s → t + k ≡ end
    → IsSameUnder image (dues instant next_due end k s) (turns instant k t s)
dues_are_turns image end k t s fits h ends =
    dues_same instant next_due image end IsJustBefore due_ahead (λ t s h soon. quiet t s (h.rests soon) soon)
    (before_next image fits) k t s k h ends (omega arith)

-- THE RUN OVER DUE MOMENTS IS THE RUN: the same end, the same lines and the same reads
pub due_run_is_run : (image : Image) (end : ℕ) → IsImage image → IsSameUnder image (due_run end) (run end)
unfolding due_run run
due_run_is_run image end fits =
    let s = outcome power_on image in
    let same = dues_are_turns image end end 0 s fits (before_first image fits) (omega arith) in
    record {
      outcomes = outcome_bind power_on (dues instant next_due end end) image ∙ same.outcomes
          ∙ sym (outcome_bind power_on (turns instant end 0) image);
      reads_same = reads_bind power_on (dues instant next_due end end) image
          ∙ ap (λ rs. reads power_on image ++ rs) same.reads_same
          ∙ sym (reads_bind power_on (turns instant end 0) image);
    }
