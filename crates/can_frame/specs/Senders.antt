-- Who sends a frame (this profile's own): the device of a node, or the manager, which may be in the device of a node.
use Rattle.std.specs.Prelude.{ℕ, ◌+◌, ◌*◌}

-- between frames of one identifier those of a lower number go first, and of one number those of the node's device before
-- those of the manager
abbrev pub device_sender : ℕ → ℕ
device_sender number = 2 * number

abbrev pub manager_sender : ℕ → ℕ
manager_sender number = 2 * number + 1
