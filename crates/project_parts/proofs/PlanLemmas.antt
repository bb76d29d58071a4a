-- The parts that are kept are the project's own.
use Rattle.std.proofs.Common.{◌≡◌, ◌⊎◌, inl, inr, ◌∙◌, ℕ, Bool, true, false, IsTrue, List, Option, Some, None, option_map}
use Rattle.std.proofs.Common.{option_and_then, refl, sym, ap, subst}
use Rattle.std.specs.FinMap.{entries}
use Rattle.concise_dcf.specs.declared.write.Write.{Write}
use Rattle.concise_dcf.specs.Concise.{text_of as concise_text}
use Rattle.ini_text.specs.Change.{text_of}
use Rattle.eds_device.specs.Sheets.{Sheet}
use Rattle.eds_dcf.specs.Dcf.{dcf_sections}
use Rattle.pdo_stations.specs.Devices.{devices_of}
use Rattle.pdo_plan.specs.Plan.{plan_of, IsMadeFor}
use Rattle.pdo_plan.specs.declared.planned_message.PlannedMessage.{PlannedMessage}
use Rattle.pdo_links.specs.Writes.{node_writes}
use Rattle.project_edits.specs.Versions.{is_three}
use Rattle.co_project.specs.declared.node.Node.{Node}
use Rattle.co_project.specs.Project.{Content as Project, controller_of}
use Rattle.co_project.specs.Tables.{node_at}
use Rattle.project_plan.specs.Network.{Member, member_at, plan_of_project, with_sheet, writes_of}
use Rattle.project_plan.proofs.NetworkLemmas.{made_for_member, sheets_are}
use Rattle.project_parts.specs.Made.{concise_made, dcf_made, plan_made, writes_made}
use Rattle.project_parts.specs.Given.{concise_from, dcf_from, dcf_of_node, plan_from, writes_from}
use Rattle.project_plan.specs.Network.{device_at}
use Rattle.project_parts.specs.Given.{writes_of_node}
use Rattle.project_parts.specs.Written.{AreValuesOf}
use Rattle.project_parts.specs.declared.writes_from.WritesFrom.{WritesFrom}

-- a node with the device of its EDS
abbrev member : Node → Sheet → Member
member node sheet = record { node = node; sheet = sheet }

-- a plan that in versions 1 and 2 is made for a node with its device, told of the same plan and device
pub made_so : (is : Bool) (old plan : List PlannedMessage) (own device : Sheet) (n : ℕ) → plan ≡ old → device ≡ own
    → (is ≡ false → IsMadeFor old own n) → is ≡ false → IsMadeFor plan device n
made_so is old plan own device n same alike made e =
    subst (λ (d : Sheet). IsMadeFor plan d n) (sym alike)
    (subst (λ (ps : List PlannedMessage). IsMadeFor ps own n) (sym same) (made e))

-- of one of two versions, or made for the node
pub either : {X : Type 0} (is : Bool) → (is ≡ false → X) → IsTrue is ⊎ X
either true made = inl refl
either false made = inr (made refl)

-- writes that are values of the entries of one device are such of the same device
pub values_of : (d e : Sheet) (ws vs : List Write) → d ≡ e → ws ≡ vs → AreValuesOf d ws → AreValuesOf e vs
values_of d e ws vs same alike are =
    subst (λ (ws : List Write). AreValuesOf e ws) alike (subst (λ (d : Sheet). AreValuesOf d ws) same are)

module _ (p : Project) where
  -- the plan
  pub plan_is : plan_made (plan_from p) ≡ plan_of_project p
  unfolding plan_made plan_of_project
  plan_is =
      ap (λ (ns : List (ℕ × Sheet)). plan_of (devices_of (is_three p.version) (controller_of p) ns) (entries p.messages))
      (sym (sheets_are p))

  module _ (n : ℕ) where
    abbrev written : Member → List Write
    written m = node_writes (is_three p.version) (plan_of_project p) m.node.params m.sheet n

    abbrev dcf_text : Member → List ℕ
    dcf_text m = text_of (dcf_sections m.sheet n m.node.name p.bitrate (written m))

    -- its writes, over the plan that is kept
    same_writes : (node : Node) (d : Sheet)
        → node_writes (is_three p.version) (plan_made (plan_from p)) node.params d n
        ≡ node_writes (is_three p.version) (plan_of_project p) node.params d n
    same_writes node d = ap (λ (plan : List PlannedMessage). node_writes (is_three p.version) plan node.params d n) plan_is

    -- the writes of a node
    pub writes_are_of : option_map writes_made (writes_from p n)
        ≡ option_map (λ (m : Member). writes_of p m n) (member_at p n)
    unfolding writes_made member_at writes_of
    writes_are_of = by (node_at p.nodes n)
      where
        made : (node : Node) (o : Option Sheet)
            → option_map writes_made (option_map (λ d. record {
              is_three = is_three p.version;
              plan = plan_made (plan_from p);
              params = node.params;
              device = d;
              node = n;
            }) o)
            ≡ option_map written (option_map (member node) o)
        made node None = refl
        made node (Some sheet) = ap (λ (w : List Write). Some w) (same_writes node sheet)

        by : (o : Option Node) → option_map writes_made (option_and_then (writes_of_node p n) o)
            ≡ option_map written (option_and_then (with_sheet p) o)
        by None = refl
        by (Some node) = made node (device_at p node.eds)

    -- its concise DCF
    pub concise_is_of : option_map concise_made (concise_from p n)
        ≡ option_map (λ (m : Member). concise_text (writes_of p m n)) (member_at p n)
    unfolding concise_made
    concise_is_of = two (writes_from p n) ∙ ap (option_map concise_text) writes_are_of ∙ three (member_at p n)
      where
        two : (o : Option WritesFrom) → option_map concise_made (option_map (λ w. record { writes = writes_made w }) o)
            ≡ option_map concise_text (option_map writes_made o)
        two None = refl
        two (Some w) = refl

        three : (o : Option Member) → option_map concise_text (option_map (λ (m : Member). writes_of p m n) o)
            ≡ option_map (λ (m : Member). concise_text (writes_of p m n)) o
        three None = refl
        three (Some m) = refl

    -- its DCF
    pub dcf_is_of : option_map dcf_made (dcf_from p n)
        ≡ option_map (λ (m : Member). text_of (dcf_sections m.sheet n m.node.name p.bitrate (writes_of p m n)))
        (member_at p n)
    unfolding dcf_made writes_made member_at writes_of
    dcf_is_of = by (node_at p.nodes n)
      where
        made : (node : Node) (o : Option Sheet)
            → option_map dcf_made (option_map (λ (w : WritesFrom). record {
              device = w.device;
              name = node.name;
              rate = p.bitrate;
              writes = writes_made w;
              node = n;
            }) (option_map (λ d. record {
              is_three = is_three p.version;
              plan = plan_made (plan_from p);
              params = node.params;
              device = d;
              node = n;
            }) o))
            ≡ option_map dcf_text (option_map (member node) o)
        made node None = refl
        made node (Some sheet) =
            ap (λ (ws : List Write). Some (text_of (dcf_sections sheet n node.name p.bitrate ws))) (same_writes node sheet)

        by : (o : Option Node) → option_map dcf_made (option_and_then (dcf_of_node p n) o)
            ≡ option_map dcf_text (option_and_then (with_sheet p) o)
        by None = refl
        by (Some node) = made node (device_at p node.eds)

  -- ---- whom the plan is made for

  member_there : (n : ℕ) (node : Node) (sheet : Sheet) → Some node ≡ node_at p.nodes n
      → device_at p node.eds ≡ Some sheet → member_at p n ≡ Some (member node sheet)
  unfolding member_at
  member_there n node sheet known is =
      ap (option_and_then (with_sheet p)) (sym known) ∙ ap (option_map (member node)) is

  -- in versions 1 and 2 the plan that is kept is made for each node with its device
  pub made_for : is_three p.version ≡ false → (n : ℕ) (node : Node) (device : Sheet) → Some node ≡ node_at p.nodes n
      → Some device ≡ device_at p node.eds → IsMadeFor (plan_made (plan_from p)) device n
  made_for old n node device known there =
      subst (λ (plan : List PlannedMessage). IsMadeFor plan device n) (sym plan_is)
      (made_for_member p n (member node device) old (member_there n node device known (sym there)))

  -- and so where it is known that the version is one of these
  pub made_as_asked : (is : Bool) → is ≡ is_three p.version → (n : ℕ) (node : Node) (device : Sheet)
      → Some node ≡ node_at p.nodes n → Some device ≡ device_at p node.eds
      → is ≡ false → IsMadeFor (plan_made (plan_from p)) device n
  made_as_asked is same n node device known there old = made_for (sym same ∙ old) n node device known there
