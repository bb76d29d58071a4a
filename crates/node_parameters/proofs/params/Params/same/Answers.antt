use Rattle.std.proofs.Common.{ap}
use Rattle.std.specs.FinMap.{entries, same_entries_map}
use Rattle.node_parameters.proofs.params.Params.same.Goals as goal

pub returns : goal.returns
returns c = (
  (λ t. same_entries_map c.args.self.now c.args.other.now (c.same_texts.ensures.0 t)),
  (λ e. c.same_texts.ensures.1 (ap entries e)),
)
