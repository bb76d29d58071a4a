-- What the events of a scenario do, by windows of ten milliseconds (this profile's own).
use Rattle.std.specs.Prelude.{◌≡◌, ℕ, true, ◌+◌, ◌*◌, List, [], ◌∷◌, Option, Some, None, option_map, option_and_then}
use Rattle.std.specs.Prelude.{filter_map}
use Rattle.std.specs.FinMap.{get}
use Rattle.base.specs.Ranges.{is_between}
use Rattle.co_scenario.specs.Scenario.{events_between, Events}
use Rattle.co_scenario.specs.declared.step.Step.{Step}
use Rattle.co_scenario.specs.declared.timed_event.TimedEvent.{TimedEvent}
use Rattle.co_scenario.specs.declared.timed_step.TimedStep.{TimedStep}
use Rattle.project_plan.specs.Events.{Shapes, step_of}

abbrev pub at_moment : ℕ × ℕ → Step → TimedStep
at_moment moment s = record { number = moment.1; time = moment.0; step = s }

-- what the event of a time and a number does
unfoldable pub timed_step_of : Shapes → Events → ℕ × ℕ → Option TimedStep
timed_step_of shapes events moment = option_map (at_moment moment)
    (option_and_then (λ (e : TimedEvent). step_of shapes e.event) (get events moment.1))

-- THE STEPS OF WINDOW i: what the events of the 10,000 microseconds from 10,000 i on do, by time and then by number
unfoldable pub steps_in : Shapes → Events → ℕ → List TimedStep
steps_in shapes events i = filter_map (timed_step_of shapes events)
    (events_between (10000 * i) (10000 * i + 9999) events)

-- a window without steps is absent
abbrev pub unless_none : List TimedStep → Option (List TimedStep)
unless_none [] = None
unless_none (s ∷ steps) = Some (s ∷ steps)

-- a step does what the event of its number does, at the time of that event, which lies in window i
abbrev pub IsStepIn : Shapes → Events → ℕ → TimedStep → Type 0
IsStepIn shapes events i s =
    (e : TimedEvent) × ((get events s.number ≡ Some e) × (e.time ≡ s.time) × (step_of shapes e.event ≡ Some s.step)
    × (is_between (10000 * i) (10000 * i + 9999) s.time ≡ true))
