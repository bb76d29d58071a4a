-- Which TPDOs of a node send once it is configured (CiA 301), and for which messages of a project.
use Rattle.std.specs.Prelude.{◌≡◌, ℕ, Bool}
use Rattle.cia301.specs.PdoObjects.{tpdo_object}
use Rattle.co_project.specs.Project.{Content}
use Rattle.eds_device.specs.Entries.{shape_of}
use Rattle.pdo_choices.specs.declared.clean.Clean.{Clean}
use Rattle.pdo_rules.specs.Working.{works}
use Rattle.project_plan.specs.Network.{Member}
use Rattle.project_plan.specs.Nodes.{Sends}
use Rattle.project_plan.specs.Values.{values_after}

-- A TPDO OF A NODE IS ON once the node is configured: it works by the values that its writes leave over its defaults
abbrev pub is_on : Content → Member → ℕ → ℕ → Bool
is_on project m id number = works (shape_of m.sheet id) (values_after project m id) (tpdo_object number)

-- by it the node sends a message that the project's plan finds clean
abbrev pub SendsBy : Content → ℕ → ℕ → Type 0
SendsBy project id number = (c : Clean) × Sends project id c × (c.message.tpdo ≡ number)
