use Rattle.std.proofs.Common.{◌≡◌, ◌++◌}
use Rattle.std.specs.FinMap.{entries}
use Rattle.std.specs.List.{flat_map}
use Rattle.project_edits.specs.Lines.{text_of}
use Rattle.project_script.specs.Script.{node_edits}
use Rattle.project_script.proofs.script.write_nodes.Given as goal

abbrev pub invariant-loop-id : goal.invariant-loop-id
invariant-loop-id l = l.out.items ++ flat_map text_of (flat_map node_edits l.id-iterator)
    ≡ l.fn.out.items ++ flat_map text_of (flat_map node_edits (entries l.project.nodes))
