-- Private: the numbers by which the rules are asked of nodes, those that are wanted, and the times that are kept of them.
use Rattle.std.specs.Prelude.{ℕ, ◌==◌, Bool, List, Option, option_map}
use Rattle.std.specs.Option.{unwrap_or}
use Rattle.std.specs.List.{find}
use Rattle.pdo_plan.specs.declared.planned_message.PlannedMessage.{PlannedMessage}
use Rattle.project_plan.specs.Network.{Member}
use Rattle.project_plan.specs.Values.{Numbers, number_among}
use Rattle.project_plan.specs.Wanted.{wanted_by}

-- the numbers that are wanted of a node, by the rules of version 3 or not
abbrev pub numbers_by : Bool → List PlannedMessage → ℕ × Member → Numbers
numbers_by is_three plan e = number_among e.1.sheet (wanted_by is_three plan e)

-- the time of a node among them, 0 where it sends no heartbeat
abbrev pub time_among : List (ℕ × Option ℕ) → ℕ → Option ℕ
time_among ts node = option_map (λ t. unwrap_or t.1 0) (find (λ t. t.0 == node) ts)
