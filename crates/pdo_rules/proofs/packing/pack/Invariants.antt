use Rattle.std.proofs.Common.{◌≡◌, ◌<◌, ◌+◌, ◌*◌, ◌^◌, drop}
use Rattle.co_dict.specs.Mappings.{mapping_bits}
use Rattle.pdo_rules.specs.Bits.{number_of}
use Rattle.pdo_rules.specs.Packing.{packed_bits}
use Rattle.pdo_rules.proofs.packing.pack.Given as goal

-- the bits so far stand below those of the entries that are left
abbrev pub invariant-loop-entry : goal.invariant-loop-entry
invariant-loop-entry l =
    let rest = drop l.entry-index l.mapping in
    record {
      all : l.frame + 2 ^ l.position * number_of (packed_bits l.dict rest) ≡ number_of (packed_bits l.dict l.mapping);
      length : l.position + mapping_bits rest ≡ mapping_bits l.mapping;
      below : l.frame < 2 ^ l.position;
    }
