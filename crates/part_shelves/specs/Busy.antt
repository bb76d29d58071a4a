-- At which numbers the windows that are kept have steps.
use Rattle.std.specs.Prelude.{◌≡◌, ℕ, Bool, false, not, ◌==◌, List, length, Option, slice_index_or}
use Rattle.std.specs.Option.{option_map_or}
use Rattle.kept_values.specs.At.{at}
use Rattle.co_scenario.specs.declared.timed_step.TimedStep.{TimedStep}

-- there is a window, and it has steps
abbrev pub has_steps : Option (List TimedStep) → Bool
has_steps window = option_map_or (λ steps. not (length steps == 0)) window false

-- the flags are those of the numbers at which a window with steps is kept
abbrev pub AreBusy : List Bool → List (ℕ × List TimedStep) → Type 0
AreBusy busy kept = (q : ℕ) → slice_index_or busy q false ≡ has_steps (at kept q)
