-- The rules of heartbeats (CiA 301), over the times of all nodes once they are configured.
use Rattle.std.specs.Prelude.{ℕ, ◌==◌, ◌&&◌, ◌||◌, not, Bool, true, nat_le, if◌then◌else◌, Option, Some, None}
use Rattle.std.specs.Option.{option_map_or}
use Rattle.cia301.specs.ConsumerHeartbeatTimes.{consumed_node, consumer_time}
use Rattle.project_edits.specs.declared.manager_settings.ManagerSettings.{ManagerSettings}

-- the producer heartbeat time of the manager or of a node, by those of the nodes that there are
abbrev pub time_by : ManagerSettings → (ℕ → Option ℕ) → ℕ → Option ℕ
time_by manager times node = if node == manager.id then Some manager.heartbeat_ms else times node

-- a device hears nothing of itself: where the manager runs in it, it watches no node of its own number
abbrev pub time_heard : Bool → ℕ → (ℕ → Option ℕ) → ℕ → Option ℕ
time_heard is_own device time node = if is_own && (node == device) then None else time node

-- A HEARTBEAT CONSUMER IS UNFIT: it is on, and no such node is there, or its heartbeat doesn't come within the time
abbrev pub is_unfit : (ℕ → Option ℕ) → ℕ → Bool
is_unfit time consumer =
    not (consumed_node consumer == 0) && not (consumer_time consumer == 0)
    && option_map_or (λ period. period == 0 || nat_le (consumer_time consumer) period)
    (time (consumed_node consumer)) true
