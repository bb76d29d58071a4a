-- Which numbers have parts.
use Rattle.std.proofs.Common.{◌≡◌, ◌∙◌, ℕ, List, true, Option, Some, None, IfSome, option_map, option_and_then, refl}
use Rattle.std.proofs.Common.{ap, subst, slice_get}
use Rattle.std.specs.FinMap.{contains_key}
use Rattle.co_dict.specs.Shapes.{Shaped}
use Rattle.co_dict.specs.Values.{Values}
use Rattle.eds_device.specs.Entries.{defaults_of, shape_of}
use Rattle.eds_device.specs.Identity.{identity}
use Rattle.eds_device.specs.Sheets.{Sheet, sheet_of}
use Rattle.project_edits.specs.Versions.{is_three}
use Rattle.project_plan.specs.Controller.{defaults_held, own_writes, shape_held}
use Rattle.project_plan.specs.Network.{member_at, with_sheet, writes_of, Member}
use Rattle.co_project.specs.declared.node.Node.{Node}
use Rattle.co_project.specs.Project.{Content as Project, is_controller}
use Rattle.co_project.specs.Sound.{IsSound}
use Rattle.co_project.specs.Tables.{node_at, text_at}
use Rattle.co_project.proofs.SoundLemmas.{nodes_have_texts}
use Rattle.image_parts.specs.Contents.{BootIs, DefaultsAre, ExpectIs, ShapeIs}
use Rattle.image_parts.specs.declared.identity.Identity.{Identity}
use Rattle.project_plan.specs.Events.{shape_of_node}
use Rattle.network_image.specs.Image.{defaults_of_node, identity_of_node, write_of_node}
use Rattle.network_image.specs.Parts.{HasNoParts, HasParts}

module _ (p : Project) (id : ℕ) where
  abbrev expected : Member → Identity
  expected m = record { numbers = identity m.sheet id }

  abbrev defaults_by : Member → Values
  defaults_by m = defaults_held (own_writes p id (writes_of p m id)) (defaults_of m.sheet id)

  abbrev shape_by : Member → Shaped
  shape_by m = shape_held (is_controller p id) (shape_of m.sheet id)

  -- a number that isn't a node's
  pub no_parts : node_at p.nodes id ≡ None → HasNoParts p id
  unfolding defaults_of_node shape_of_node identity_of_node write_of_node member_at
  no_parts none =
      let member : member_at p id ≡ None = ap (option_and_then (with_sheet p)) none in
      record {
        defaults = ap (λ (o : Option Member). DefaultsAre (option_map defaults_by o)) member;
        shape = ap (λ (o : Option Member). ShapeIs (option_map shape_by o)) member;
        expect = ap (λ (o : Option Member). ExpectIs (option_map expected o)) member;
        writes = λ place. ap (λ (o : Option Member). BootIs
            (option_and_then (λ (m : Member). slice_get (writes_of p m id) place) o)) member;
      }

  -- one that is
  parts_of_member : (m : Member) → member_at p id ≡ Some m → HasParts p id m.node m.sheet
  unfolding defaults_of_node shape_of_node identity_of_node write_of_node writes_of
  parts_of_member m member = record {
    defaults = ap (λ (o : Option Member). DefaultsAre (option_map defaults_by o)) member;
    shape = ap (λ (o : Option Member). ShapeIs (option_map shape_by o)) member;
    expect = ap (λ (o : Option Member). ExpectIs (option_map expected o)) member;
    writes = λ place. ap (λ (o : Option Member). BootIs
        (option_and_then (λ (m : Member). slice_get (writes_of p m id) place) o)) member;
  }

  pub its_parts : (node : Node) → IsSound p → node_at p.nodes id ≡ Some node
      → (text : List ℕ) × ((text_at p.texts node.eds ≡ Some text) × HasParts p id node (sheet_of (is_three p.version) text))
  unfolding member_at
  its_parts node sound there = by (text_at p.texts node.eds) refl
    where
      known : contains_key p.texts node.eds ≡ true
      known = subst (λ (o : Option Node). IfSome o (λ n. contains_key p.texts n.eds ≡ true)) there
          (nodes_have_texts p id sound)

      by : (o : Option (List ℕ)) → text_at p.texts node.eds ≡ o
          → (text : List ℕ) × ((text_at p.texts node.eds ≡ Some text) × HasParts p id node (sheet_of (is_three p.version) text))
      by None absent = cc known
      by (Some text) found =
          let made : Sheet → Member = λ sheet. record { node = node; sheet = sheet } in (
            text,
            (
              found,
              parts_of_member (made (sheet_of (is_three p.version) text)) (ap (option_and_then (with_sheet p)) there
                  ∙ ap (λ (o : Option (List ℕ)). option_map made (option_map (sheet_of (is_three p.version)) o)) found),
            ),
          )
