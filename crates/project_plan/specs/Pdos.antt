-- Which of a node's writes are to a PDO (CiA 301): to its communication object or to its mapping object.
use Rattle.std.specs.Prelude.{◌≡◌, ℕ, ◌==◌, ◌||◌, Bool, true, if◌then◌else◌, List, Contains, filter}
use Rattle.concise_dcf.specs.declared.write.Write.{Write}
use Rattle.cia301.specs.PdoObjects.{mapping_object, tpdo_object}
use Rattle.project_edits.specs.Versions.{is_three}
use Rattle.co_project.specs.Project.{Content}
use Rattle.pdo_choices.specs.declared.clean.Clean.{Clean}
use Rattle.pdo_choices.specs.declared.consumer.Consumer.{Consumer}
use Rattle.pdo_stations.specs.Devices.{as_made}
use Rattle.pdo_plan.specs.Plan.{clean}
use Rattle.vendor_pdos.specs.Parameters.{parameter_default}
use Rattle.pdo_links.specs.Order.{IsOfUnused as SwitchesOff}
use Rattle.pdo_links.specs.VendorWrites.{vendor_rpdo_writes, vendor_tpdo_writes}
use Rattle.pdo_links.specs.Writes.{rpdo_writes, tpdo_writes}
use Rattle.project_plan.specs.Network.{Member, plan_of_project}

-- a write is to the PDO with this communication object
abbrev pub is_to_pdo : ℕ → Write → Bool
is_to_pdo object w = (w.index == object) || (w.index == mapping_object object)

-- the writes to the PDO, among all and in their order
unfoldable pub to_pdo : ℕ → List Write → List Write
to_pdo object ws = filter (is_to_pdo object) ws

-- the writes of the TPDO by which a node of a project sends a message, by the rules of the project's version
abbrev pub sent_writes : Content → Member → ℕ → Clean → List Write
sent_writes project m id c =
    if is_three project.version then vendor_tpdo_writes (as_made m.sheet id) c else tpdo_writes m.sheet id c

-- and those of the RPDO by which it takes one
abbrev pub taken_writes : Content → Member → ℕ → Clean → Consumer → List Write
taken_writes project m id c k =
    if is_three project.version then vendor_rpdo_writes (as_made m.sheet id) c k else rpdo_writes c k

-- a write of the TPDO by which a node sends one of the clean messages, or of the RPDO by which it takes one
abbrev pub IsOfSent : Content → Member → ℕ → Write → Type 0
IsOfSent project m id w = (c : Clean) × Contains (clean (plan_of_project project)) c × (c.message.node ≡ id)
    × Contains (sent_writes project m id c) w

abbrev pub IsOfTaken : Content → Member → ℕ → Write → Type 0
IsOfTaken project m id w = (c : Clean) × Contains (clean (plan_of_project project)) c
    × ((k : Consumer) × Contains c.consumers k × (k.node ≡ id) × Contains (taken_writes project m id c k) w)

-- in version 3: a write that switches off a PDO of a node that none of them uses
abbrev pub IsOfUnused : Content → Member → ℕ → Write → Type 0
IsOfUnused project m id w = (is_three project.version ≡ true)
    × SwitchesOff (clean (plan_of_project project)) (as_made m.sheet id) id w

-- in version 3: a parameter of the TPDO of a message has this number by default
abbrev pub StandsByDefault : Content → Member → ℕ → Clean → ℕ → ℕ → Type 0
StandsByDefault project m id c sub number = (is_three project.version ≡ true)
    × (parameter_default (as_made m.sheet id) (tpdo_object c.message.tpdo) sub ≡ number)
