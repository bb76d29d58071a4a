-- Private: what is found of a node by the entries that its data sheet says have to be looked at.
use Rattle.std.specs.Prelude.{ℕ, List, ◌++◌, filter_map}
use Rattle.std.specs.FinMap.{entries}
use Rattle.project_plan.specs.Network.{Member}
use Rattle.project_plan.specs.GivenParameters.{given_places}
use Rattle.diag_lines.specs.declared.diag.Diag.{Diag}
use Rattle.diag_nodes.specs.Found.{parameter_diagnostic}

-- the faults of a node's own parameters, and of those that its data sheet gives
unfoldable pub faults_of_node : ℕ × Member → List Diag
faults_of_node e = filter_map (λ own. parameter_diagnostic e own.0) (entries e.1.node.params)
    ++ filter_map (parameter_diagnostic e) (given_places e.1.sheet.sections)
