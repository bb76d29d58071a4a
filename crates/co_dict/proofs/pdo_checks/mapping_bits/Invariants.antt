use Rattle.std.proofs.Common.{◌≡◌, ◌≤◌, ◌*◌, ◌+◌}
use Rattle.co_dict.specs.Mappings.{mapping_bits, mapping_of}
use Rattle.co_dict.proofs.MappingLemmas.{bits_from}
use Rattle.co_dict.proofs.pdo_checks.mapping_bits.Given as goal

-- the bits so far, with those of the entries left, are all
abbrev pub invariant-loop-sub : goal.invariant-loop-sub
invariant-loop-sub l = record {
  all : l.bits + bits_from l.dict l.object l.sub (l.count + 1) ≡ mapping_bits (mapping_of l.dict l.object l.count);
  few : l.bits ≤ 255 * l.sub;
}
