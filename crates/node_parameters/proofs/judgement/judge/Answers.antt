use Rattle.std.proofs.Common.{IfOk, subst, sym}
use Rattle.co_values.specs.Values.{Fits}
use Rattle.node_parameters.proofs.ParameterLemmas.{kind_of_entry}
use Rattle.node_parameters.proofs.judgement.judge.Goals as goal

pub returns-clause-fits : goal.returns-clause-fits
returns-clause-fits c =
    let kind = kind_of_entry c.args.device.now c.args.node c.args.index c.args.sub c.in-Some.entry
    (sym c.in-Some.ensures) in
    subst (λ kind. IfOk c.in_ok-given.given (Fits kind)) (sym kind) c.in_ok-given.ensures.fits
