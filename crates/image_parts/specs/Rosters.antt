-- The device that the manager runs in.
use Rattle.std.specs.Prelude.{ℕ, ◌==◌, Bool, List}
use Rattle.std.specs.List.{list_any}
use Rattle.image_parts.specs.declared.roster.Roster.{Roster}

-- one of the numbers is this one
abbrev pub is_among : ℕ → List ℕ → Bool
is_among number nodes = list_any (λ node. node == number) nodes

-- THE CONTROLLER is a node of the manager's number: the device that the manager runs in
abbrev pub has_controller : Roster → Bool
has_controller roster = is_among roster.manager roster.nodes
