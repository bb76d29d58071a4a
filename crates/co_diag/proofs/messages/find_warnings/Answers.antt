use Rattle.std.proofs.Common.{◌≡◌, ℕ, List, [], ◌∷◌, rules}
use Rattle.project_messages.specs.Messages.{by_name}
use Rattle.project_messages.specs.declared.linked.Linked.{Linked}
use Rattle.co_diag.specs.Found.{message_warnings}
use Rattle.co_diag.proofs.MessageFound.{said_in_turn}
use Rattle.diag_nodes.proofs.WalkLemmas.{walk_ends, walk_on}
use Rattle.co_diag.proofs.messages.find_warnings.Goals as goal

pub loop-name-preserved : goal.loop-name-preserved
loop-name-preserved c =
    let e : List ℕ × Linked = (c.in-Some.name.now.items, c.in-Some.linked.now) in
    let left : by_name c.loop-name.name-iterator ≡ e ∷ by_name c.next.new.self = search rules in
    walk_on (message_warnings c.args.project.now) _ c.loop-name.found.items c.find_of_linked.new.found.items e
    (by_name c.next.new.self) (by_name c.loop-name.name-iterator) left
    (said_in_turn c.args.project.now c.in-Some.name.now.items c.deref.result.now c.in-Some.linked.now
    c.loop-name.found.items c.find_of_linked.new.found.items c.deref.ensures.value c.in_ok-find_of_linked.ensures)
    c.loop-name.invariant

pub returns : goal.returns
returns c =
    let ended : by_name c.loop-name.name-iterator ≡ [] = search rules in
    walk_ends (message_warnings c.args.project.now) _ c.loop-name.found.items (by_name c.loop-name.name-iterator) ended
    c.loop-name.invariant
