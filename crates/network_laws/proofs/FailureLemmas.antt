-- The emergency objects of several failures are those of one after another.
use Rattle.std.proofs.Common.{◌≡◌, ℕ, ◌+◌, Bool, true, false, List, [], ◌∷◌, ◌++◌, append-nil, append_assoc, replicate}
use Rattle.std.proofs.Common.{refl, sym, ap, ◌∙◌}
use Rattle.std.specs.Prelude.{if◌then◌else◌}
use Rattle.std.proofs.lemmas.List.{replicate-append-replicate}
use Rattle.can_frame.specs.WaitingFrames.{waiting}
use Rattle.can_frame.specs.declared.purpose.Purpose.TheVariants.{Emergency}
use Rattle.can_frame.specs.declared.waiting.Waiting.{Waiting}
use Rattle.device_objects.specs.Profile.{emergency_frame, error_register}
use Rattle.co_device.specs.Device.{Device, is_in, with_emergencies, with_emergency}
use Rattle.cia301.specs.declared.nmt_state.NmtState.TheVariants.{Stopped}

module _ (code : ℕ) (d : Device) where
  abbrev Told : Waiting
  Told = waiting Emergency (emergency_frame d.number code (error_register d.learnt d.values))

  abbrev after : ℕ → Device
  after count = record d { waiting = d.waiting ++ replicate count Told }

  pub none_told : with_emergencies 0 code d ≡ d
  none_told = by (is_in Stopped d)
    where
      by : (b : Bool) → (if b then d else after 0) ≡ d
      by true = refl
      by false = ap (λ (frames : List Waiting). record d { waiting = frames }) (append-nil d.waiting)

  pub one_more_told : (count : ℕ) → with_emergencies (count + 1) code d
      ≡ with_emergency code (with_emergencies count code d)
  unfolding with_emergency
  one_more_told count = by (is_in Stopped d) refl
    where
      frames : d.waiting ++ replicate (count + 1) Told ≡ (d.waiting ++ replicate count Told) ++ Told ∷ []
      frames = ap (λ (more : List Waiting). d.waiting ++ more) (sym (replicate-append-replicate count 1 Told))
          ∙ sym (append_assoc d.waiting (replicate count Told) (Told ∷ []))

      by : (b : Bool) → is_in Stopped d ≡ b → (if b then d else after (count + 1))
          ≡ with_emergency code (if b then d else after count)
      by true e = rw e refl
      by false e = rw e (ap (λ (more : List Waiting). record d { waiting = more }) frames)
