-- The events of a window, in order of time and then of number.
use Rattle.std.specs.Prelude.{◌≤◌, ◌==◌, ℕ, Bool, All, List, [], take, drop, map, Option, filter, nat_le, unwrap_or}
use Rattle.std.specs.List.{AllByRecursion, prefix_len}
use Rattle.std.specs.declared.rc.Rc.{Rc}
use Rattle.image_parts.specs.Images.{IsFree}
use Rattle.image_parts.specs.Shared.{value_behind}
use Rattle.co_scenario.specs.declared.timed_step.TimedStep.{TimedStep}

-- the events of a window that was handed out; none where it is absent
abbrev pub in_window : {Z : Type 0} → Option (Rc (List TimedStep) Z) → List TimedStep
in_window window = unwrap_or (value_behind window) []

-- the events change no object of a PDO, and set values of at most 512 bytes
abbrev pub AreFree : List TimedStep → Type 0
AreFree steps = AllByRecursion (λ step. IsFree step.step) steps

-- the times of events
abbrev pub times : List TimedStep → List ℕ
times steps = map (λ step. step.time) steps

abbrev pub has_time : ℕ → TimedStep → Bool
has_time t step = step.time == t

-- those at the front that have the time t are due
unfoldable pub steps_due : ℕ → List TimedStep → List TimedStep
steps_due t steps = take (prefix_len (has_time t) steps) steps

-- the others stay: an event that has run is forgotten
unfoldable pub steps_left : ℕ → List TimedStep → List TimedStep
steps_left t steps = drop (prefix_len (has_time t) steps) steps

-- no event has a time before t
abbrev pub LieFrom : ℕ → List TimedStep → Type 0
LieFrom t steps = All (λ step. t ≤ step.time) steps

-- those with a time from t on
abbrev pub steps_from : ℕ → List TimedStep → List TimedStep
steps_from t steps = filter (λ step. nat_le t step.time) steps
