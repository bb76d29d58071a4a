-- Devices that sleep through an instant.
use Rattle.std.proofs.Common.{◌≡◌, ℕ, ◌<◌, true, List, [], ◌∷◌, Option, refl, sym, ap, ◌∙◌}
use Rattle.std.specs.Prelude.{IfSome}
use Rattle.std.specs.List.{AllByRecursion}
use Rattle.image_parts.proofs.RecordLemmas.{asked_none}
use Rattle.image_parts.specs.Asking.{Asking, Answer, Seen, bind, outcome}
use Rattle.image_parts.specs.Record.{IsAsked}
use Rattle.image_parts.specs.Each.{each}
use Rattle.co_device.specs.Device.{Device}
use Rattle.image_parts.specs.Contents.{Content, Image}
use Rattle.image_parts.specs.declared.part.Part.{Part}
use Rattle.device_agenda.specs.Agenda.{IsAgendaOf, at_instant, sleeps_through}
use Rattle.device_agenda.specs.Delivered.{Delivered}
use Rattle.device_agenda.specs.declared.agenda.Agenda.{Agenda}

pub idle : {N V A : Type 0} (step : A → Asking N V A) (xs : List A) → AllByRecursion (λ x. step x ≡ Answer x) xs
    → each step xs ≡ Answer xs
idle step [] still = refl
idle {N} {V} {A} step (x ∷ xs) still =
    ap (λ (m : Asking N V A). bind m (λ b. bind (each step xs) (λ bs. Answer (b ∷ bs)))) still.0
    ∙ ap (λ (m : Asking N V (List A)). bind m (λ bs. Answer (x ∷ bs))) (idle step xs still.1)

-- what the law of agendas says
abbrev pub NothingHappens : Type 0
NothingHappens = (a : Agenda) (ds : List Device) (t : ℕ) (delivered : Option Delivered)
    → IfSome delivered (λ d. d.frame.id < 0x800)
    → IsAgendaOf a ds → sleeps_through t delivered a ≡ true
    → AllByRecursion (λ d. at_instant t delivered d ≡ Answer d) ds

module _ (law : NothingHappens) (a : Agenda) (ds : List Device) (t : ℕ) (delivered : Option Delivered)
    (short : IfSome delivered (λ d. d.frame.id < 0x800)) (is : IsAgendaOf a ds)
    (asleep : sleeps_through t delivered a ≡ true) where
  all_idle : each (at_instant t delivered) ds ≡ Answer ds
  all_idle = idle (at_instant t delivered) ds (law a ds t delivered short is asleep)

  pub idle_state : (image : Image) → ds ≡ outcome (each (at_instant t delivered) ds) image
  idle_state image = sym (ap (λ (m : Asking Part Content (List Device)). outcome m image) all_idle)

  pub idle_asked : (seen : Seen Part Content) (asks : ℕ)
      → IsAsked (each (at_instant t delivered) ds) seen seen asks asks
  idle_asked seen asks = asked_none (each (at_instant t delivered) ds) ds seen asks all_idle
