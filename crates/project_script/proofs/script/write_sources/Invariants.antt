use Rattle.std.proofs.Common.{◌≡◌, ◌++◌, map}
use Rattle.std.specs.List.{flat_map}
use Rattle.project_edits.specs.Lines.{text_of}
use Rattle.project_script.specs.Script.{source_edit}
use Rattle.project_script.proofs.script.write_sources.Given as goal

abbrev pub invariant-loop-position : goal.invariant-loop-position
invariant-loop-position l = l.out.items ++ flat_map text_of (map (source_edit l.name) l.position-iterator)
    ≡ l.fn.out.items ++ flat_map text_of (map (source_edit l.name) l.sources)
