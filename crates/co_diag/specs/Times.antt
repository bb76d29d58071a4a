-- Private: the producer heartbeat times by those that are kept of nodes.
use Rattle.std.specs.Prelude.{ℕ, List, Option}
use Rattle.co_project.specs.Project.{Content, is_controller}
use Rattle.co_diag.specs.Rules.{time_by, time_heard}
use Rattle.diag_nodes.specs.Kept.{time_among}

-- that of the manager or a node, as a device hears it
abbrev pub times_heard : Content → List (ℕ × Option ℕ) → ℕ → ℕ → Option ℕ
times_heard p times device node = time_heard (is_controller p device) device (time_by p.manager (time_among times)) node
