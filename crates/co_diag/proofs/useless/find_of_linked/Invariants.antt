use Rattle.std.proofs.Common.{◌≡◌, ◌++◌, filter_map}
use Rattle.co_diag.specs.Found.{useless_receive}
use Rattle.co_diag.proofs.useless.find_of_linked.Given as goal

-- with those that are left they are all
abbrev pub invariant-loop-node : goal.invariant-loop-node
invariant-loop-node l = l.found.items
    ++ filter_map (useless_receive l.library.project l.message l.linked) l.node-iterator
    ≡ l.fn.found.items ++ filter_map (useless_receive l.library.project l.message l.linked) l.linked.receives
