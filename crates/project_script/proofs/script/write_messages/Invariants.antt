use Rattle.std.proofs.Common.{◌≡◌, ◌++◌}
use Rattle.std.specs.FinMap.{entries}
use Rattle.std.specs.List.{flat_map, All}
use Rattle.project_edits.specs.Lines.{text_of}
use Rattle.project_messages.specs.Messages.{by_name, IsLinked}
use Rattle.project_script.specs.Script.{message_edits}
use Rattle.project_script.proofs.script.write_messages.Given as goal

-- what is written and what the rest has is the whole, and the rest keeps to the limits of messages
abbrev pub invariant-loop-name : goal.invariant-loop-name
invariant-loop-name l = record {
  whole : l.out.items ++ flat_map text_of (flat_map message_edits (by_name l.name-iterator))
      ≡ l.fn.out.items ++ flat_map text_of (flat_map message_edits (entries l.messages));
  rest : All (λ e. IsLinked e.1) (by_name l.name-iterator);
}
