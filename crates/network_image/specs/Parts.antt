-- Which numbers have parts, and which parts these are.
use Rattle.std.specs.Prelude.{◌≡◌, ℕ, List, Some, None, slice_get}
use Rattle.eds_device.specs.Entries.{defaults_of, shape_of}
use Rattle.eds_device.specs.Identity.{identity}
use Rattle.eds_device.specs.Sheets.{Sheet}
use Rattle.pdo_links.specs.Writes.{node_writes}
use Rattle.project_edits.specs.Versions.{is_three}
use Rattle.project_plan.specs.Network.{plan_of_project}
use Rattle.co_project.specs.declared.node.Node.{Node}
use Rattle.co_project.specs.Project.{Content as Project, is_controller}
use Rattle.concise_dcf.specs.declared.write.Write.{Write}
use Rattle.project_plan.specs.Controller.{defaults_held, own_writes, shape_held}
use Rattle.image_parts.specs.Contents.{DefaultsAre, ShapeIs, ExpectIs, BootIs}
use Rattle.image_parts.specs.declared.part.Part.TheVariants as part
use Rattle.network_image.specs.Image.{image_of}

-- the writes of a node: those of its parameters and of the plan
abbrev pub writes_by : Project → ℕ → Node → Sheet → List Write
writes_by project id node sheet = node_writes (is_three project.version) (plan_of_project project) node.params sheet id

-- the parts of a node are those of the device that this data sheet describes, and its writes; where the manager runs in
-- it, it holds these from its power-on on, and has no producer heartbeat time
pub record HasParts (project : Project) (id : ℕ) (node : Node) (sheet : Sheet) : Type 0 where
  pub defaults : image_of project (part.Defaults id)
      ≡ DefaultsAre (Some (defaults_held (own_writes project id (writes_by project id node sheet)) (defaults_of sheet id)))
  pub shape : image_of project (part.Shape id) ≡ ShapeIs (Some (shape_held (is_controller project id) (shape_of sheet id)))
  pub expect : image_of project (part.Expect id) ≡ ExpectIs (Some (record { numbers = identity sheet id }))
  pub writes : (place : ℕ) → image_of project (part.Boot id place)
      ≡ BootIs (slice_get (writes_by project id node sheet) place)

-- a number has none
pub record HasNoParts (project : Project) (id : ℕ) : Type 0 where
  pub defaults : image_of project (part.Defaults id) ≡ DefaultsAre None
  pub shape : image_of project (part.Shape id) ≡ ShapeIs None
  pub expect : image_of project (part.Expect id) ≡ ExpectIs None
  pub writes : (place : ℕ) → image_of project (part.Boot id place) ≡ BootIs None
