-- The spans of a trace.
use Rattle.std.specs.Prelude.{ℕ, ◌*◌, ◌<◌, List}
use Rattle.image_parts.specs.Asking.{outcome, turns}
use Rattle.image_parts.specs.Contents.{Image}
use Rattle.can_bus.specs.Bus.{Bus, blank_bus}
use Rattle.can_bus.specs.Dues.{IsJustBefore}
use Rattle.can_bus.specs.declared.line.Line.{Line}
use Rattle.can_bus.specs.Spans.{span}

-- a bus from which span i can be run by due moments
abbrev pub IsReady : ℕ → Bus → Type 0
IsReady i s = 0 < i → IsJustBefore (10000 * i) s

-- all that `count` spans tell from the power-on on
abbrev pub lines_of_spans : Image → ℕ → List Line
lines_of_spans image count = (outcome (turns span count 0 blank_bus) image).1
