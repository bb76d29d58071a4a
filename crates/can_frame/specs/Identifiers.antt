-- The identifiers of the predefined connection set (CiA 301), but for those of PDOs. A node is 1 to 127.
use Rattle.std.specs.Prelude.{ℕ, ◌+◌}

-- what the network management commands
abbrev pub nmt_id : ℕ
nmt_id = 0x000

-- the synchronization object
abbrev pub sync_id : ℕ
sync_id = 0x080

-- the time stamp object
abbrev pub time_id : ℕ
time_id = 0x100

-- the emergency object of a node
abbrev pub emergency_id : ℕ → ℕ
emergency_id node = 0x080 + node

-- what the SDO server of a node answers
abbrev pub sdo_answer_id : ℕ → ℕ
sdo_answer_id node = 0x580 + node

-- what the SDO server of a node is asked
abbrev pub sdo_request_id : ℕ → ℕ
sdo_request_id node = 0x600 + node

-- boot-up and heartbeat of a node
abbrev pub error_control_id : ℕ → ℕ
error_control_id node = 0x700 + node
