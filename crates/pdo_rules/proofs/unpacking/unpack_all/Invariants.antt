use Rattle.std.proofs.Common.{◌≡◌, ◌+◌, drop}
use Rattle.co_dict.specs.Mappings.{mapping_bits}
use Rattle.pdo_rules.specs.Packing.{after_entries, frame_bits, after_payload, with_bits}
use Rattle.pdo_rules.proofs.unpacking.unpack_all.Given as goal

-- the entries that are left give what all give
abbrev pub invariant-loop-entry : goal.invariant-loop-entry
invariant-loop-entry l =
    let rest = drop l.entry-index l.mapping in
    record {
      all : after_entries (with_bits l.shape) l.position rest (frame_bits l.bytes) l.dict
          ≡ after_payload l.shape l.mapping l.bytes l.fn.dict;
      length : l.position + mapping_bits rest ≡ mapping_bits l.mapping;
    }
