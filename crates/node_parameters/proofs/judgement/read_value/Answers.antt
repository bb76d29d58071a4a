use Rattle.std.proofs.Common.{arith, sym}
use Rattle.co_values.proofs.Read.{Fits-value}
use Rattle.node_parameters.proofs.judgement.read_value.Goals as goal

pub returns-in-Some-clause-fits : goal.returns-in-Some-clause-fits
returns-in-Some-clause-fits c =
    let read = rw c.in-Some.is at c.in_ok-value.ensures.bytes in
    Fits-value c.args.kind c.args.text.now c.in-Some.value.bytes c.args.node (λ i. omega (arith, c.type_inv.text i))
    (sym read)
