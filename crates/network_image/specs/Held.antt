-- What the program holds of a node: the same for each, whichever part is asked for.
use Rattle.std.specs.Prelude.{ℕ, List, [], ◌∷◌, refl}
use Rattle.std.specs.Coded.{Coded, code_by, coded×, coded_list}
use Rattle.std.specs.FinMap.{FinMap, insert}
use Rattle.std.specs.Ordering.{nat_cmp}
use Rattle.concise_dcf.specs.declared.write.Write.{Write}
use Rattle.co_dict.specs.Shapes.{Shaped}
use Rattle.co_dict.specs.Values.{Values}
use Rattle.project_plan.specs.Network.{writes_of, Member}
use Rattle.co_project.specs.Project.{Content as Project, is_controller}
use Rattle.project_plan.specs.Controller.{defaults_held, own_writes, shape_held}
use Rattle.std.specs.List.{AllByRecursion}
use Rattle.image_parts.specs.Images.{AreInOrder, IsWithin}
use Rattle.image_parts.specs.declared.identity.Identity.{Identity}
use Rattle.co_scenario.specs.declared.timed_step.TimedStep.{TimedStep}
use Rattle.eds_device.specs.Entries.{defaults_of, shape_of}
use Rattle.eds_device.specs.Identity.{identity}

-- a node's parts
pub record PartsOfNode : Type 0 where
  pub defaults : Values
  pub shape : Shaped
  pub expect : Identity
  pub writes : List Write

-- they are stored one by one
abbrev pub parts_code : Coded Values → Coded Shaped → Coded Identity → Coded Write → Coded PartsOfNode
parts_code values_code shape_code identity_code write_code =
    code_by (Values × (Shaped × (Identity × List Write)))
    (coded× values_code (coded× shape_code (coded× identity_code (coded_list write_code))))
    (λ h. (h.defaults, (h.shape, (h.expect, h.writes))))
    (λ t. record { defaults = t.0; shape = t.1.0; expect = t.1.1.0; writes = t.1.1.1 }) (λ _. refl)

-- nodes by number
abbrev pub AllHeld : Type 0
AllHeld = FinMap nat_cmp PartsOfNode

-- the steps of the windows that have any
abbrev pub Windows : Type 0
Windows = FinMap nat_cmp (List TimedStep)

-- each step of a window has its time there and sets no PDO object, and they are in order
abbrev pub IsWindow : ℕ → List TimedStep → Type 0
IsWindow i steps = AllByRecursion (IsWithin i) steps × AreInOrder steps

-- a window with its steps, where it has any
abbrev pub with_steps : ℕ → List TimedStep → Windows → Windows
with_steps i [] windows = windows
with_steps i (s ∷ steps) windows = insert windows i (s ∷ steps)

-- the parts of a node that is made of its EDS
abbrev pub held_of : Project → ℕ → Member → PartsOfNode
held_of project node m = record {
  defaults = defaults_held (own_writes project node (writes_of project m node)) (defaults_of m.sheet node);
  shape = shape_held (is_controller project node) (shape_of m.sheet node);
  expect = record { numbers = identity m.sheet node };
  writes = writes_of project m node;
}
