-- What parts are, by what they are built from, is the image's.
use Rattle.std.proofs.Common.{◌≡◌, ◌∙◌, ℕ, Bool, true, false, List, Option, Some, None, is_some, option_map}
use Rattle.std.proofs.Common.{option_and_then, slice_get, refl, sym, ap}
use Rattle.std.specs.Prelude.{if◌then◌else◌}
use Rattle.concise_dcf.specs.declared.write.Write.{Write}
use Rattle.co_project.specs.declared.node.Node.{Node}
use Rattle.co_project.specs.Project.{Content as Project, is_controller}
use Rattle.co_project.specs.Tables.{node_at}
use Rattle.eds_device.specs.Entries.{defaults_of, shape_of}
use Rattle.eds_device.specs.Identity.{identity}
use Rattle.eds_device.specs.Sheets.{Sheet}
use Rattle.project_parts.proofs.PlanLemmas.{writes_are_of}
use Rattle.project_plan.specs.Controller.{defaults_held, own_writes, shape_held}
use Rattle.project_plan.specs.Events.{shape_of_node}
use Rattle.project_plan.specs.Network.{device_at, member_at, with_sheet, writes_of, Member}
use Rattle.network_image.specs.Image.{defaults_of_node, identity_of_node, write_of_node}
use Rattle.project_parts.specs.Given.{device_from, device_of_node, own_given, writes_from}
use Rattle.project_parts.specs.Made.{device_parts, writes_made}
use Rattle.project_parts.specs.declared.device_at.DeviceAt.{DeviceAt}
use Rattle.project_parts.specs.declared.device_parts.DeviceParts.{DeviceParts}

module _ (p : Project) (n : ℕ) where
  -- what a member has by its EDS
  abbrev pub own_parts : Member → DeviceParts
  own_parts m = record {
    defaults = defaults_held (own_writes p n (writes_of p m n)) (defaults_of m.sheet n);
    shape = shape_held (is_controller p n) (shape_of m.sheet n);
    expect = record { numbers = identity m.sheet n };
  }

  abbrev member : Node → Sheet → Member
  member node sheet = record { node = node; sheet = sheet }

  -- the writes that it holds by itself
  own_is : (m : Member) → member_at p n ≡ Some m → own_given p n ≡ own_writes p n (writes_of p m n)
  own_is m is = by (is_controller p n)
    where
      by : (t : Bool) → (let none : Option (List Write) = None
          in (if t then option_map writes_made (writes_from p n) else none) ≡ (if t then Some (writes_of p m n) else none))
      by true = writes_are_of p n ∙ ap (option_map (λ (m : Member). writes_of p m n)) is
      by false = refl

  -- there are some where the manager runs in it
  some_own : (ws : List Write) → is_some (own_writes p n ws) ≡ is_controller p n
  some_own ws = by (is_controller p n)
    where
      by : (t : Bool) → (let none : Option (List Write) = None in is_some (if t then Some ws else none) ≡ t)
      by true = refl
      by false = refl

  -- what is made of a device is made of the node with its EDS
  by_sheet : {X : Type 0} (made : DeviceAt → X) (own : Member → X)
      → ((m : Member) → member_at p n ≡ Some m
      → made (record { device = m.sheet; node = n; own = own_given p n }) ≡ own m)
      → option_map made (device_from p n) ≡ option_map own (member_at p n)
  unfolding member_at
  by_sheet made own same = by (node_at p.nodes n) refl
    where
      one : (node : Node) → node_at p.nodes n ≡ Some node → (o : Option Sheet) → device_at p node.eds ≡ o
          → option_map made (option_map (λ d. record { device = d; node = n; own = own_given p n }) o)
          ≡ option_map own (option_map (member node) o)
      one node known None none = refl
      one node known (Some sheet) there =
          ap Some (same (member node sheet)
          (ap (option_and_then (with_sheet p)) known ∙ ap (option_map (member node)) there))

      by : (o : Option Node) → node_at p.nodes n ≡ o
          → option_map made (option_and_then (device_of_node p n) o)
          ≡ option_map own (option_and_then (with_sheet p) o)
      by None none = refl
      by (Some node) known = one node known (device_at p node.eds) refl

  same_defaults : (m : Member) → member_at p n ≡ Some m
      → defaults_held (own_given p n) (defaults_of m.sheet n) ≡ (own_parts m).defaults
  same_defaults m is = ap (λ (own : Option (List Write)). defaults_held own (defaults_of m.sheet n)) (own_is m is)

  same_shape : (m : Member) → member_at p n ≡ Some m
      → shape_held (is_some (own_given p n)) (shape_of m.sheet n) ≡ (own_parts m).shape
  same_shape m is = ap (λ (t : Bool). shape_held t (shape_of m.sheet n)) (ap is_some (own_is m is) ∙ some_own (writes_of p m n))

  pub parts_by : option_map device_parts (device_from p n) ≡ option_map own_parts (member_at p n)
  unfolding device_parts
  parts_by = by_sheet device_parts own_parts (λ m is. λ i. record {
    defaults = same_defaults m is i;
    shape = same_shape m is i;
    expect = record { numbers = identity m.sheet n };
  })

  pub defaults_are : defaults_of_node p n ≡ option_map (λ d. (device_parts d).defaults) (device_from p n)
  unfolding defaults_of_node device_parts
  defaults_are = sym (by_sheet (λ d. (device_parts d).defaults) (λ m. (own_parts m).defaults) same_defaults)

  pub shapes_are : shape_of_node p n ≡ option_map (λ d. (device_parts d).shape) (device_from p n)
  unfolding shape_of_node device_parts
  shapes_are = sym (by_sheet (λ d. (device_parts d).shape) (λ m. (own_parts m).shape) same_shape)

  pub expects_are : identity_of_node p n ≡ option_map (λ d. (device_parts d).expect) (device_from p n)
  unfolding identity_of_node device_parts
  expects_are = sym (by_sheet (λ d. (device_parts d).expect) (λ m. (own_parts m).expect) (λ m is. refl))

  pub writes_are : (place : ℕ) → write_of_node p n place
      ≡ option_and_then (λ ws. slice_get ws place) (option_map writes_made (writes_from p n))
  unfolding write_of_node
  writes_are place =
      by (member_at p n) ∙ ap (option_and_then (λ (ws : List Write). slice_get ws place)) (sym (writes_are_of p n))
    where
      by : (o : Option Member) → option_and_then (λ (m : Member). slice_get (writes_of p m n) place) o
          ≡ option_and_then (λ (ws : List Write). slice_get ws place) (option_map (λ (m : Member). writes_of p m n) o)
      by None = refl
      by (Some m) = refl
