use Rattle.std.proofs.Common.{◌≡◌, ◌++◌, map}
use Rattle.std.specs.FinMap.{entries}
use Rattle.std.specs.List.{flat_map}
use Rattle.project_edits.specs.Lines.{text_of}
use Rattle.project_script.specs.Script.{text_edit}
use Rattle.project_messages.specs.Messages.{by_name}
use Rattle.project_script.proofs.script.write_texts.Given as goal

abbrev pub invariant-loop-name : goal.invariant-loop-name
invariant-loop-name l = l.out.items ++ flat_map text_of (map text_edit (by_name l.name-iterator))
    ≡ l.fn.out.items ++ flat_map text_of (map text_edit (entries l.project.texts))
