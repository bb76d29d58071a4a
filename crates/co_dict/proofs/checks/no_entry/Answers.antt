use Rattle.std.proofs.Common.{refl}
use Rattle.co_dict.proofs.IndexLemmas.{index_test}
use Rattle.co_dict.proofs.checks.no_entry.Goals as goal

pub returns-then-has_index : goal.returns-then-has_index
returns-then-has_index c =
    rw (← index_test c.args.shape.now c.args.index c.has_index.result c.has_index.ensures, c.if-has_index.true) refl

pub returns-else-has_index : goal.returns-else-has_index
returns-else-has_index c =
    rw (← index_test c.args.shape.now c.args.index c.has_index.result c.has_index.ensures, c.if-has_index.false) refl
