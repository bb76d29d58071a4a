use Rattle.std.proofs.Common.{◌≡◌, ◌++◌, map}
use Rattle.std.specs.List.{flat_map}
use Rattle.project_edits.specs.Lines.{text_of}
use Rattle.project_script.specs.Script.{receive_edit}
use Rattle.project_script.proofs.script.write_receives.Given as goal

abbrev pub invariant-loop-node : goal.invariant-loop-node
invariant-loop-node l = l.out.items ++ flat_map text_of (map (receive_edit l.name) l.node-iterator)
    ≡ l.fn.out.items ++ flat_map text_of (map (receive_edit l.name) l.receives)
