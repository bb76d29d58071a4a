use Rattle.std.proofs.Common.{◌≡◌, ◌++◌, map, take, drop}
use Rattle.image_parts.specs.Record.{BeginsWith}
use Rattle.manager_nodes.specs.Table.{node_after, note_of_time_out, queue_after_time_outs, timed_out}
use Rattle.manager_nodes.proofs.node_table.time_out_each.Given as goal

abbrev pub invariant-loop-node : goal.invariant-loop-node
invariant-loop-node l = record {
  state : take l.node-index l.nodes ++ map (node_after l.fn.t) (drop l.node-index l.nodes)
      ≡ map (node_after l.fn.t) l.fn.nodes;
  queued : queue_after_time_outs (timed_out l.fn.t (drop l.node-index l.nodes)) l.waiting
      ≡ queue_after_time_outs (timed_out l.fn.t l.fn.nodes) l.fn.waiting;
  notes_before : BeginsWith l.notes l.fn.notes;
  notes : l.notes ++ map note_of_time_out (timed_out l.fn.t (drop l.node-index l.nodes))
      ≡ l.fn.notes ++ map note_of_time_out (timed_out l.fn.t l.fn.nodes);
}
