use Rattle.co_scenario.proofs.BetweenLemmas.{keys_between}
use Rattle.co_scenario.proofs.between.in_order.Goals as goal

pub returns : goal.returns
returns c = keys_between c.args.script.now c.args.first c.args.last c.in_ok-moments.moments.entries
    c.in_ok-moments.ensures (λ v. v.items) c.keys.result c.keys.ensures.keys c.keys.ensures.ordered
