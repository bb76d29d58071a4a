-- What a node of a project has, and that of a sound one.
use Rattle.std.proofs.Common.{◌≡◌, ◌∙◌, ℕ, true, not, List, Option, Some, None, Ok, IfSome, option_map, option_and_then}
use Rattle.std.proofs.Common.{refl, sym, ap, subst}
use Rattle.std.specs.FinMap.{get}
use Rattle.ini_text.specs.Content.{content_of}
use Rattle.base.proofs.EachLemmas.{each_found}
use Rattle.cia301.specs.PdoObjects.{is_of_pdos}
use Rattle.project_edits.specs.Edits.{IsSetting}
use Rattle.project_edits.specs.Versions.{is_three}
use Rattle.eds_device.specs.Faults.{device_of}
use Rattle.eds_device.specs.Sheets.{Sheet, sheet_of}
use Rattle.co_project.specs.declared.node.Node.{Node}
use Rattle.co_project.specs.Project.{Content}
use Rattle.co_project.specs.Sound.{AreParams, IsNodeOf, IsSound}
use Rattle.co_project.specs.Tables.{node_at, text_at}
use Rattle.co_project.proofs.SoundLemmas.{texts_are_devices}
use Rattle.project_plan.specs.Network.{member_at, with_sheet, Member}

-- the node of a number with the text of its EDS
pub record IsMember (p : Content) (id : ℕ) (m : Member) : Type 0 where
  pub node : node_at p.nodes id ≡ Some m.node
  pub text : List ℕ
  pub there : text_at p.texts m.node.eds ≡ Some text
  pub read : sheet_of (is_three p.version) text ≡ m.sheet

abbrev made : Node → Sheet → Member
made node sheet = record { node = node; sheet = sheet }

pub member : (p : Content) (id : ℕ) (m : Member) → member_at p id ≡ Some m → IsMember p id m
unfolding member_at
member p id m found = by (node_at p.nodes id) refl found
  where
    with : (node : Node) → node_at p.nodes id ≡ Some node → (o : Option (List ℕ)) → text_at p.texts node.eds ≡ o
        → option_map (made node) (option_map (sheet_of (is_three p.version)) o) ≡ Some m → IsMember p id m
    with node known None none is = cc
    with node known (Some text) there is =
        let same : made node (sheet_of (is_three p.version) text) ≡ m = cc in
        let itself : node ≡ m.node = ap (λ (x : Member). x.node) same in
        record {
          node = known ∙ ap Some itself;
          text = text;
          there = ap (λ (n : Node). text_at p.texts n.eds) (sym itself) ∙ there;
          read = ap (λ (x : Member). x.sheet) same;
        }

    by : (o : Option Node) → node_at p.nodes id ≡ o → option_and_then (with_sheet p) o ≡ Some m → IsMember p id m
    by None none is = cc
    by (Some node) known is = with node known (text_at p.texts node.eds) refl is

module _ (p : Content) (id : ℕ) (m : Member) (sound : IsSound p) (of : IsMember p id m) where
  pub is_node : IsNodeOf p id m.node
  is_node = each_found (IsNodeOf p) p.nodes id m.node sound.nodes of.node

  -- its EDS is the text of a device
  pub is_device : device_of of.text ≡ Ok (content_of of.text)
  is_device = subst (λ (o : Option (List ℕ)). IfSome o (λ text. device_of text ≡ Ok (content_of text))) of.there
      (texts_are_devices p m.node.eds sound)

  -- its parameters are settings
  pub is_setting : (place : ℕ × ℕ) (text : List ℕ) → get m.node.params place ≡ Some text
      → IsSetting place.0 place.1 text
  unfolding AreParams IsNodeOf
  is_setting place text there = each_found (λ (place : ℕ × ℕ) text. IsSetting place.0 place.1 text) m.node.params place
      text is_node.6.1 there

  -- none of them is of an object of PDOs
  pub no_pdo_params : (place : ℕ × ℕ) → is_of_pdos place.0 ≡ true → get m.node.params place ≡ None
  unfolding IsSetting
  no_pdo_params place pdo = by (get m.node.params place) refl
    where
      by : (o : Option (List ℕ)) → get m.node.params place ≡ o → o ≡ None
      by None e = refl
      by (Some text) e = let own : not (is_of_pdos place.0) ≡ true = (is_setting place text e).1
          in let turned : not true ≡ true = ap not (sym pdo) ∙ own in cc
