-- What events set in the devices of now.
use Rattle.std.proofs.Common.{◌≡◌, ◌∙◌, ◌&&◌, Bool, true, false, ℕ, List, Option, Some, None, option_map, option_and_then, refl, sym, ap}
use Rattle.std.specs.FinMap.{get, remove}
use Rattle.std.specs.Result.{result_ok}
use Rattle.base.proofs.TableLemmas.{removed_elsewhere, removed_there}
use Rattle.co_dict.proofs.PlaceLemmas.{places_exact, places_total}
use Rattle.co_dict.specs.Shapes.{Shaped}
use Rattle.co_dict.specs.declared.entry.Entry.{Entry}
use Rattle.node_parameters.specs.Judgement.{set_bytes}
use Rattle.co_project.specs.declared.node.Node.{Node}
use Rattle.co_project.specs.Project.{Content as Project, is_controller}
use Rattle.co_project.specs.Tables.{node_at}
use Rattle.eds_device.specs.Entries.{entry_at, shape_of}
use Rattle.eds_device.specs.Sheets.{Sheet}
use Rattle.eds_device.proofs.LawLemmas.{shape_at}
use Rattle.part_shelves.specs.SheetText.{sheet_made}
use Rattle.part_shelves.proofs.SlotLemmas.{sheet_read}
use Rattle.part_shelves.specs.Slots.{sheet_kept, Slots}
use Rattle.project_plan.specs.Controller.{producer_time, shape_held}
use Rattle.project_plan.specs.Events.{bytes_set, shape_of_node}
use Rattle.project_plan.specs.Network.{device_at, member_at, with_sheet, Member}
use Rattle.network_image.specs.Controller.{is_producer_time}
use Rattle.network_image.specs.Devices.{HoldsDevices}
use Rattle.network_image.proofs.ControllerLemmas.{another, its_time}

module _ (p : Project) (devices : Slots) (n index sub : ℕ) (text : List ℕ) where
  abbrev in_shape : Option Shaped → Option (List ℕ)
  in_shape o =
      option_and_then (λ (shape : Shaped). result_ok (set_bytes (get shape.entries (index, sub)) text n)) o

  abbrev shape_by : Member → Shaped
  shape_by m = shape_held (is_controller p n) (shape_of m.sheet n)

  abbrev at_node : Option Node → Option (List ℕ)
  at_node o = in_shape (option_map shape_by (option_and_then (with_sheet p) o))

  abbrev of_sheet : Node → Option Sheet → Option (List ℕ)
  of_sheet node o = in_shape (option_map shape_by (option_map (λ sheet. record { node = node; sheet = sheet }) o))

  abbrev in_device : Option Sheet → Option (List ℕ)
  in_device o = option_and_then (λ (sheet : Sheet). result_ok (set_bytes (entry_at sheet n index sub) text n)) o

  -- no node
  pub none_set : None ≡ node_at p.nodes n → None ≡ bytes_set (shape_of_node p) n index sub text
  unfolding shape_of_node member_at
  none_set none = ap at_node none

  -- the producer heartbeat time of the controller
  pub time_set : is_controller p n ≡ true → is_producer_time (index, sub) ≡ true
      → None ≡ bytes_set (shape_of_node p) n index sub text
  unfolding shape_of_node set_bytes
  time_set own test = by (member_at p n)
    where
      absent : (shape : Shaped) → get (shape_held (is_controller p n) shape).entries (index, sub) ≡ None
      absent shape =
          ap (λ (b : Bool). get (shape_held b shape).entries (index, sub)) own
          ∙ ap (get (remove shape.entries producer_time)) (its_time (index, sub) test)
          ∙ removed_there places_total places_exact shape.entries producer_time

      by : (o : Option Member) → None ≡ in_shape (option_map shape_by o)
      by None = refl
      by (Some m) = ap (λ (e : Option Entry). result_ok (set_bytes e text n)) (sym (absent (shape_of m.sheet n)))

  -- a node whose device isn't held
  pub absent_set : (node : Node) → HoldsDevices p devices → Some node ≡ node_at p.nodes n
      → None ≡ option_map sheet_made (sheet_kept devices node.eds)
      → None ≡ bytes_set (shape_of_node p) n index sub text
  unfolding shape_of_node member_at
  absent_set node holds there none =
      let device : device_at p node.eds ≡ None =
      sym (none ∙ ap (option_map sheet_made) (holds n node (sym there)) ∙ sheet_read p node.eds) in
      sym (ap (of_sheet node) device) ∙ ap at_node there

  -- any other entry
  module _ (other : is_controller p n && is_producer_time (index, sub) ≡ false) where
    held : (shape : Shaped) → get (shape_held (is_controller p n) shape).entries (index, sub) ≡ get shape.entries (index, sub)
    held shape = by (is_controller p n) other
      where
        by : (b : Bool) → b && is_producer_time (index, sub) ≡ false
            → get (shape_held b shape).entries (index, sub) ≡ get shape.entries (index, sub)
        by true apart =
            removed_elsewhere places_total places_exact shape.entries producer_time (index, sub) (another (index, sub) apart)
        by false apart = refl

    by_sheet : (node : Node) (o : Option Sheet) → in_device o ≡ of_sheet node o
    by_sheet node None = refl
    by_sheet node (Some sheet) =
        ap (λ (e : Option Entry). result_ok (set_bytes e text n))
        (sym (held (shape_of sheet n) ∙ shape_at sheet n index sub))

    -- a node with the device that is held
    pub device_set : (node : Node) (device : Option Sheet) → HoldsDevices p devices → Some node ≡ node_at p.nodes n
        → device ≡ option_map sheet_made (sheet_kept devices node.eds)
        → in_device device ≡ bytes_set (shape_of_node p) n index sub text
    unfolding shape_of_node member_at
    device_set node device holds there is =
        ap in_device (is ∙ ap (option_map sheet_made) (holds n node (sym there)) ∙ sheet_read p node.eds)
        ∙ by_sheet node (device_at p node.eds) ∙ ap at_node there
