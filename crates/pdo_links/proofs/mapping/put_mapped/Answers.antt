use Rattle.std.proofs.Common.{rules}
use Rattle.pdo_links.proofs.mapping.put_mapped.Goals as goal

pub returns-clause-bytes : goal.returns-clause-bytes
returns-clause-bytes c = λ i. search rules
