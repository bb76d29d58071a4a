use Rattle.std.proofs.Common.{refl, sym}
use Rattle.std.proofs.lemmas.List.{append-nil}
use Rattle.manager_nodes.proofs.QuietLemmas.{nodes_stay, none_times_out}
use Rattle.manager_nodes.proofs.node_table.NodeTable.time_outs.Goals as goal

pub returns-then-is_quiet-clause-state : goal.returns-then-is_quiet-clause-state
returns-then-is_quiet-clause-state c = sym (nodes_stay c.args.t c.args.self.now (c.is_quiet.ensures c.if-is_quiet.true))

pub returns-then-is_quiet-clause-queued : goal.returns-then-is_quiet-clause-queued
returns-then-is_quiet-clause-queued c =
    rw (none_times_out c.args.t c.args.self.now (c.is_quiet.ensures c.if-is_quiet.true)) refl

pub returns-then-is_quiet-clause-notes : goal.returns-then-is_quiet-clause-notes
returns-then-is_quiet-clause-notes c =
    rw (none_times_out c.args.t c.args.self.now (c.is_quiet.ensures c.if-is_quiet.true))
    (sym (append-nil c.args.notes.now))
