use Rattle.std.proofs.Common.{◌≡◌, ◌++◌, map}
use Rattle.std.specs.FinMap.{entries}
use Rattle.std.specs.List.{flat_map}
use Rattle.project_edits.specs.Lines.{text_of}
use Rattle.project_script.specs.Script.{param_edit}
use Rattle.project_script.proofs.script.write_params.Given as goal

abbrev pub invariant-loop-index : goal.invariant-loop-index
invariant-loop-index l = l.out.items ++ flat_map text_of (map (param_edit l.id) l.index-iterator)
    ≡ l.fn.out.items ++ flat_map text_of (map (param_edit l.id) (entries l.params))
