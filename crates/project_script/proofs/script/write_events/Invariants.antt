use Rattle.std.proofs.Common.{◌≡◌, ◌++◌, map}
use Rattle.std.specs.FinMap.{entries}
use Rattle.std.specs.List.{flat_map}
use Rattle.project_edits.specs.Lines.{text_of}
use Rattle.project_script.specs.Script.{event_edit}
use Rattle.project_script.proofs.script.write_events.Given as goal

abbrev pub invariant-loop-number : goal.invariant-loop-number
invariant-loop-number l = l.out.items ++ flat_map text_of (map event_edit l.number-iterator)
    ≡ l.fn.out.items ++ flat_map text_of (map event_edit (entries l.events))
