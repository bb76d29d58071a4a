use Rattle.std.proofs.Common.{◌≡◌}
use Rattle.co_dict.specs.Mappings.{mapping_of}
use Rattle.pdo_rules.proofs.configuration.mapping_of_pdo.Given as goal

-- the first entries are read
abbrev pub invariant-loop-i : goal.invariant-loop-i
invariant-loop-i l = l.entries.items ≡ mapping_of l.dict l.mapping l.i
