use Rattle.std.proofs.Common.{◌≡◌, ◌++◌}
use Rattle.std.specs.FinMap.{entries}
use Rattle.std.specs.List.{All}
use Rattle.project_messages.specs.Messages.{by_name, IsLinked}
use Rattle.pdo_choices.specs.Had.{had_by, withheld_by}
use Rattle.pdo_plan.specs.Plan.{clean, plan_after, plan_of}
use Rattle.pdo_choices.specs.Limits.{IsWithin}
use Rattle.pdo_stations.specs.Devices.{devices_of}
use Rattle.pdo_stations.specs.Shown.{nodes_of}
use Rattle.pdo_choices.specs.Taken.{devices_known, had_in}
use Rattle.pdo_plan.proofs.planning.plan.Given as goal

-- the plan so far and that of the rest are the whole plan, the tables have what its clean ones have, and all keep to
-- their limits
abbrev pub invariant-messages : goal.invariant-messages
invariant-messages l = record {
  whole : l.plan.items ++ plan_after (withheld_by (devices_of l.is_three l.fn.controller (nodes_of l.nodes)) (entries l.messages))
      (devices_of l.is_three l.fn.controller (nodes_of l.nodes)) (clean l.plan.items) (by_name l.name-iterator)
      ≡ plan_of (devices_of l.is_three l.fn.controller (nodes_of l.nodes)) (entries l.messages);
  stations : devices_known l.taken ≡ devices_of l.is_three l.fn.controller (nodes_of l.nodes);
  taken : had_in l.taken ≡ had_by (withheld_by (devices_of l.is_three l.fn.controller (nodes_of l.nodes)) (entries l.messages)) (clean l.plan.items);
  within : All IsWithin (clean l.plan.items);
  rest : All (λ e. IsLinked e.1) (by_name l.name-iterator);
}
