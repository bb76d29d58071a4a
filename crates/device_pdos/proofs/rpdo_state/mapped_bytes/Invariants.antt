use Rattle.std.proofs.Common.{◌≡◌, ◌+◌, drop}
use Rattle.co_dict.specs.Mappings.{mapping_bits}
use Rattle.device_pdos.proofs.rpdo_state.mapped_bytes.Given as goal

-- the bits so far, with those of the entries left, are all
abbrev pub invariant-loop-entry : goal.invariant-loop-entry
invariant-loop-entry l = l.bits + mapping_bits (drop l.entry-index l.mapping) ≡ mapping_bits l.mapping
