use Rattle.std.proofs.Common.{◌≡◌, ◌↔◌}
use Rattle.std.specs.FinMap.{entries}
use Rattle.project_messages.specs.Messages.{by_name}
use Rattle.co_project.proofs.texts.same_texts.Given as goal

-- what is left is the same just where all is
abbrev pub invariant-loop-name : goal.invariant-loop-name
invariant-loop-name l = (by_name l.name-iterator ≡ by_name l.others) ↔ (entries l.a ≡ entries l.b)
