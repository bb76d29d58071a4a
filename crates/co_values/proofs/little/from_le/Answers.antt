-- The eight bytes of the number that eight bytes are.
use Rattle.std.proofs.Common.{rules, ap, ◌∙◌}
use Rattle.std.proofs.lemmas.List.{take_all}
use Rattle.byteorder.specs.Endian.{little_bytes}
use Rattle.base.proofs.Little.{spelled_again}
use Rattle.co_values.proofs.little.from_le.Goals as goal

pub returns-clause-back : goal.returns-clause-back
returns-clause-back c =
    ap (little_bytes 8) c.read_u64.ensures ∙ spelled_again 8 c.args.bytes (search rules) (λ i. search rules)
    ∙ take_all 8 c.args.bytes (search rules)
