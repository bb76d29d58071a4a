-- A run from power-on, its trace, and words of the laws of a bus.
use Rattle.std.specs.Prelude.{◌≡◌, ℕ, ◌+◌, ◌*◌, ◌/◌, ◌<◌, ◌≤◌, nat_le, Bool, List, [], ◌∷◌, All, filter, Option, Some}
use Rattle.std.specs.Prelude.{None}
use Rattle.std.specs.List.{flat_map}
use Rattle.image_parts.specs.Asking.{Asking, bind, outcome, turns}
use Rattle.can_frame.specs.Winner.{contenders, IsWinner, WaitsAt}
use Rattle.can_frame.specs.declared.contender.Contender.{Contender}
use Rattle.can_frame.specs.declared.waiting.Waiting.{Waiting}
use Rattle.image_parts.specs.Contents.{Content, Image, roster_of, steps_of}
use Rattle.image_parts.specs.Images.{AreInOrder}
use Rattle.image_parts.specs.declared.part.Part.{Part}
use Rattle.image_parts.specs.declared.part.Part.TheVariants.{Defaults, Events, Roster, Shape}
use Rattle.bus_devices.specs.Steps.{LieFrom, steps_from}
use Rattle.can_bus.specs.Bus.{Bus, instant, waiting_lists, power_on, slot_of}
use Rattle.co_scenario.specs.declared.timed_step.TimedStep.{TimedStep}
use Rattle.can_bus.specs.Lines.{line_time}
use Rattle.can_bus.specs.declared.line.Line.{Line}
use Rattle.can_bus.specs.declared.slot.Slot.{Slot}

-- from power-on, an instant at each moment before the end
unfoldable pub run : ℕ → Asking Part Content (Bus × List Line)
run end = bind power_on (turns instant end 0)

-- the line has a time up to the horizon
abbrev pub is_shown : ℕ → Line → Bool
is_shown horizon line = nat_le (line_time line) horizon

-- THE TRACE: the lines of the run, an instant at each moment up to the horizon, whose time is at most the horizon
unfoldable pub trace : Image → ℕ → List Line
trace image horizon = filter (is_shown horizon) (outcome (run (horizon + 1)) image).1

-- nothing is on the wire
abbrev pub IsIdle : Option Slot → Type 0
IsIdle None = Unit {0}
IsIdle (Some slot) = ⊥

-- no frame waits at a device or at the manager
pub record NoneWaits (s : Bus) : Type 0 where
  pub devices : All (λ d. d.waiting ≡ []) s.devices
  pub manager : s.manager.waiting ≡ []

-- no frame waits at an idle wire
unfoldable pub IsSettled : Bus → Type 0
IsSettled s = IsIdle s.wire → NoneWaits s

-- the slot is that of the frame w, which waits and wins with c at the moment t
pub record StartsWith (t : ℕ) (s : Bus) (slot : Slot) (c : Contender) (w : Waiting) : Type 0 where
  pub wins : IsWinner (contenders (waiting_lists s.devices s.manager)) (Some c)
  pub waits : WaitsAt (waiting_lists s.devices s.manager) c.sender c.place w
  pub is : slot ≡ slot_of t s.slots s.bit_time c.sender w.frame

-- what power-on reads: the roster, and of each node its values and its entries
abbrev pub power_on_reads : Image → List (Part × Content)
power_on_reads image =
    (Roster, image Roster) ∷ flat_map (λ n. (Defaults n, image (Defaults n)) ∷ (Shape n, image (Shape n)) ∷ [])
    (roster_of (image Roster)).nodes

-- the first of the moments at which windows start, from the moment t on: of the whole multiples of 10,000
pub record IsNextWindow (t moment : ℕ) : Type 0 where
  pub multiple : (i : ℕ) × (moment ≡ 10000 * i)
  pub from : t ≤ moment
  pub first : moment < t + 10000

-- just before the moment t: the next window starts at its moment, and the events that have not run are in order and
-- lie from t on
pub record IsInTime (t : ℕ) (s : Bus) : Type 0 where
  pub window : IsNextWindow t s.window
  pub order : AreInOrder s.steps
  pub from : LieFrom t s.steps

-- the events of the window in which the moment t lies
abbrev pub window_of : Image → ℕ → List TimedStep
window_of image t = steps_of (image (Events (t / 10000)))

-- just before the moment t, within a window: its events from t on have not run
pub record HasItsEvents (image : Image) (t : ℕ) (s : Bus) : Type 0 where
  pub window : IsNextWindow t s.window
  pub steps : t < s.window → s.steps ≡ steps_from t (window_of image t)
