use Rattle.std.proofs.Common.{◌≡◌, Some, rules}
use Rattle.std.specs.FinMap.{get}
use Rattle.co_dict.proofs.IndexLemmas.{index_there}
use Rattle.co_dict.proofs.checks.modelled_entry.Goals as goal

pub returns-then-not-is_modelled-clause-refused : goal.returns-then-not-is_modelled-clause-refused
returns-then-not-is_modelled-clause-refused c =
    let there : Some c.in-Some.entry.now ≡ get c.args.shape.now.entries (c.args.index, c.args.sub) = search rules in
    rw (index_there c.args.shape.now c.args.index c.args.sub c.in-Some.entry.now there, ← there) (search rules)

pub returns-clause-granted : goal.returns-clause-granted
returns-clause-granted c =
    let there : Some c.in-Some.entry.now ≡ get c.args.shape.now.entries (c.args.index, c.args.sub) = search rules in
    rw (index_there c.args.shape.now c.args.index c.args.sub c.in-Some.entry.now there, ← there) (search rules)
