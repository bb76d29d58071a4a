use Rattle.diag_nodes.proofs.AloneLemmas.{keeps_alone}
use Rattle.diag_nodes.proofs.gathering.keep_alone.Goals as goal

pub returns : goal.returns
returns c =
    keeps_alone c.args.plan.now c.args.found.now c.requires c.args.kept.now c.add.new.self c.kept.result.now c.kept.ensures
    c.in_ok-add.ensures.identifiers c.in_ok-add.ensures.consumers c.in_ok-add.ensures.times c.in_ok-add.ensures.counters
