use Rattle.std.proofs.Common.{◌≡◌, ◌+◌, drop}
use Rattle.co_dict.specs.Mappings.{mapping_bits}
use Rattle.pdo_rules.specs.Packing.{after_entries, frame_bits}
use Rattle.co_device.specs.Receiving.{device_after_entries, after_entry}
use Rattle.co_device.proofs.device.Device.take_entries.Given as goal

-- the entries that are left, from what stands now, give what all give
abbrev pub invariant-loop-entry : goal.invariant-loop-entry
invariant-loop-entry l =
    let rest = drop l.entry-index l.mapping in
    record {
      all : after_entries (after_entry l.t l.shape) l.position rest (frame_bits l.frame.bytes) l.self
          ≡ device_after_entries l.t l.shape l.mapping l.frame.bytes l.fn.self;
      length : l.position + mapping_bits rest ≡ mapping_bits l.mapping;
    }
