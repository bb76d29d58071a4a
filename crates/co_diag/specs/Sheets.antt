-- Private: what is found of nodes by the entries that their data sheets say have to be looked at.
use Rattle.std.specs.Prelude.{List, ◌++◌, filter_map}
use Rattle.std.specs.FinMap.{entries}
use Rattle.std.specs.List.{flat_map}
use Rattle.co_project.specs.Project.{Content}
use Rattle.project_plan.specs.Network.{members, plan_of_project}
use Rattle.diag_lines.specs.declared.diag.Diag.{Diag}
use Rattle.co_diag.specs.Found.{message_faults, message_warnings, other_counters, shared_identifiers, skipped_lines}
use Rattle.co_diag.specs.Found.{idle_event, other_heartbeats, unfit_consumers, unfit_event, vendor_findings}
use Rattle.diag_nodes.specs.Found.{unreadable_defaults}
use Rattle.diag_nodes.specs.Sheets.{faults_of_node}

-- what is found of the nodes by their data sheets, and then the rest
unfoldable pub diagnostics_met : Content → List Diag
diagnostics_met p =
    flat_map faults_of_node (members p) ++ flat_map unreadable_defaults (members p) ++ unfit_consumers p
    ++ shared_identifiers p ++ other_counters p ++ other_heartbeats p ++ flat_map message_faults (plan_of_project p)
    ++ flat_map (message_warnings p) (entries p.messages) ++ filter_map (unfit_event p) (entries p.events)
    ++ filter_map (idle_event p) (entries p.events)
    ++ flat_map skipped_lines (entries p.texts) ++ vendor_findings p
