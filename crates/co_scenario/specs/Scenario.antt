-- The events of a scenario by their numbers (this profile's own).
use Rattle.std.specs.Prelude.{◌≡◌, ℕ, true, ◌==◌, if◌then◌else◌, List, map, Option, Some, None}
use Rattle.std.specs.List.{filter}
use Rattle.std.specs.Ordering.{nat_cmp, ordering_then}
use Rattle.std.specs.declared.cmp.Ordering.{Ordering}
use Rattle.std.specs.FinMap.{FinMap, entries, from_entries, get, keys}
use Rattle.base.specs.Ranges.{is_between}
use Rattle.co_scenario.specs.declared.event.Event.{Event}
use Rattle.co_scenario.specs.declared.event.Event.TheVariants.{Set, Power, Nmt}
use Rattle.co_scenario.specs.declared.timed_event.TimedEvent.{TimedEvent}

-- a scenario: the event of each number that has one
abbrev pub Events : Type 0
Events = FinMap nat_cmp TimedEvent

-- the node that an event is of; a command to all nodes is of none
abbrev pub node_of : Event → Option ℕ
node_of (Set node index sub text) = Some node
node_of (Power node on) = Some node
node_of (Nmt node command) = if node == 0 then None else Some node

-- ---- events by time

-- events, as (time, number), are in order of time, and those of one time in order of number
abbrev pub moment_cmp : ℕ × ℕ → ℕ × ℕ → Ordering
moment_cmp a b = ordering_then (nat_cmp a.0 b.0) (nat_cmp a.1 b.1)

-- the times and numbers of events, as the keys of a table
abbrev pub Moments : Type 0
Moments = FinMap moment_cmp (Unit {0})

-- those with a time from first to last, both included
abbrev pub moments_of : ℕ → ℕ → List (ℕ × TimedEvent) → List ((ℕ × ℕ) × Unit {0})
moments_of first last events = map (λ e. ((e.1.time, e.0), tt)) (filter (λ e. is_between first last e.1.time) events)

unfoldable pub moments_between : ℕ → ℕ → Events → Moments
moments_between first last events = from_entries (moments_of first last (entries events))

-- THE EVENTS BETWEEN TWO TIMES, both included, as (time, number): by time and then by number
unfoldable pub events_between : ℕ → ℕ → Events → List (ℕ × ℕ)
events_between first last events = keys (moments_between first last events)

-- a number has an event with this time, and the time is from first to last
abbrev pub HasEventBetween : ℕ → ℕ → Events → ℕ × ℕ → Type 0
HasEventBetween first last events moment = (event : TimedEvent)
    × ((get events moment.1 ≡ Some event) × (event.time ≡ moment.0) × (is_between first last moment.0 ≡ true))
