-- The NMT states of a device (CiA 301).
use Rattle.std.specs.Prelude.{ℕ}
use Rattle.cia301.specs.declared.nmt_state.NmtState.{NmtState}
use Rattle.cia301.specs.declared.nmt_state.NmtState.TheVariants.{PreOperational, Operational, Stopped}

-- the byte by which a heartbeat tells one
abbrev pub state_byte : NmtState → ℕ
state_byte Stopped = 4
state_byte Operational = 5
state_byte PreOperational = 127
