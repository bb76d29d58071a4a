-- The spans of a run, and its moments.
use Rattle.std.specs.Prelude.{ℕ, zero, suc, ◌*◌, List}
use Rattle.image_parts.specs.Asking.{Asking, bind, outcome, turns}
use Rattle.image_parts.specs.Contents.{Content, Image}
use Rattle.image_parts.specs.declared.part.Part.{Part}
use Rattle.can_bus.specs.Bus.{Bus, instant, power_on}
use Rattle.can_bus.specs.Runs.{run}
use Rattle.can_bus.specs.declared.line.Line.{Line}

-- SPAN i from a bus: the instants of window i; span 0 begins with the power-on of the network, whatever the bus
-- was before
unfoldable pub span : ℕ → Bus → Asking Part Content (Bus × List Line)
span zero s = bind power_on (turns instant 10000 0)
span (suc i) s = turns instant 10000 (10000 * suc i) s

-- the bus of a run just before the moment t
unfoldable pub bus_at : Image → ℕ → Bus
bus_at image t = (outcome (run t) image).0
