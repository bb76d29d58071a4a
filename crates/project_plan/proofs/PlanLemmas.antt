-- The plan of messages over the devices of a project's nodes is the plan of the project.
use Rattle.std.proofs.Common.{◌≡◌, ◌∙◌, ◌⊎◌, inl, inr, ℕ, ◌==◌, Bool, true, false, cond, List, [], ◌∷◌, Option, Some, None, is_some}
use Rattle.std.proofs.Common.{option_map, option_and_then, filter_map, refl, sym, ap}
use Rattle.std.specs.FinMap.{entries, find, get-entries}
use Rattle.std.specs.Prelude.{if◌then◌else◌}
use Rattle.std.specs.List.{cons_option}
use Rattle.std.specs.Option.{option_map_or}
use Rattle.std.specs.Map.{lookup}
use Rattle.std.specs.Ordering.{eq_by_cmp, nat_cmp}
use Rattle.std.proofs.lemmas.Bool.{eqb-true}
use Rattle.base.proofs.EachLemmas.{each_found}
use Rattle.project_edits.specs.Versions.{is_three}
use Rattle.project_messages.specs.Messages.{is_of_messages}
use Rattle.co_project.specs.declared.node.Node.{Node}
use Rattle.co_project.specs.Project.{Content, controller_of}
use Rattle.co_project.specs.Sound.{IsNodeOf, IsSound}
use Rattle.co_project.specs.Tables.{node_at, text_at}
use Rattle.eds_device.specs.Entries.{dummy_allowed, entry_at}
use Rattle.eds_device.specs.Sheets.{Sheet, sheet_of}
use Rattle.pdo_stations.specs.Devices.{Devices, as_made, devices_of}
use Rattle.pdo_plan.specs.Plan.{plan_of}
use Rattle.pdo_plan.proofs.NamedLemmas.{named_alike}
use Rattle.project_plan.specs.Network.{Member, device_at, member_at, plan_of_project, sheets_of_members, with_sheet}
use Rattle.project_plan.proofs.NamedLemmas.{numbered}
use Rattle.project_plan.proofs.NetworkLemmas.{described_at, eq_by_cmp_same, numbered_sheet, sheets_are}

module _ (p : Content) (id : ℕ) where
  -- a number without a node has no data sheet
  unlisted : (nodes : List (ℕ × Node)) → find nat_cmp id nodes ≡ None
      → lookup (λ n. n == id) (filter_map (numbered_sheet p) nodes) ≡ None
  unlisted [] none = refl
  unlisted (e ∷ nodes) none = by (eq_by_cmp nat_cmp id e.0) refl none (unlisted nodes)
    where
      another : eq_by_cmp nat_cmp id e.0 ≡ false → (t : Bool) → (e.0 == id) ≡ t → t ≡ false
      another other true same = sym (eq_by_cmp_same e.0 id (eqb-true e.0 id same)) ∙ other
      another other false apart = refl

      skipped : (o : Option Sheet) → (e.0 == id) ≡ false
          → lookup (λ n. n == id) (filter_map (numbered_sheet p) nodes) ≡ None
          → lookup (λ n. n == id) (cons_option (option_map (numbered e.0) o) (filter_map (numbered_sheet p) nodes)) ≡ None
      skipped None apart rest = rest
      skipped (Some sheet) apart rest = ap (λ t. cond t (Some sheet)
          (lookup (λ n. n == id) (filter_map (numbered_sheet p) nodes))) apart ∙ rest

      by : (t : Bool) → eq_by_cmp nat_cmp id e.0 ≡ t → cond t (Some e.1) (find nat_cmp id nodes) ≡ None
          → (find nat_cmp id nodes ≡ None → lookup (λ n. n == id) (filter_map (numbered_sheet p) nodes) ≡ None)
          → lookup (λ n. n == id) (filter_map (numbered_sheet p) (e ∷ nodes)) ≡ None
      by true same is rest = cc
      by false other is rest = skipped (device_at p e.1.eds) (another other (e.0 == id) refl) (rest is)

  unlisted_all : node_at p.nodes id ≡ None → lookup (λ n. n == id) (sheets_of_members p) ≡ None
  unlisted_all none =
      ap (λ (ns : List (ℕ × Sheet)). lookup (λ n. n == id) ns) (sheets_are p)
      ∙ unlisted (entries p.nodes) (sym (get-entries p.nodes id) ∙ none)

  -- the data sheet of a node is there
  sheet_there : IsSound p → (node : Node) → node_at p.nodes id ≡ Some node → is_some (device_at p node.eds) ≡ true
  unfolding IsNodeOf
  sheet_there sound node known =
      by (text_at p.texts node.eds) (each_found (IsNodeOf p) p.nodes id node sound.nodes known).5
    where
      by : (o : Option (List ℕ)) → is_some o ≡ true → is_some (option_map (sheet_of (is_three p.version)) o) ≡ true
      by None some = cc
      by (Some text) some = refl

  -- each number has the data sheet of its member
  looked_up : IsSound p → lookup (λ n. n == id) (sheets_of_members p) ≡ option_map (λ (m : Member). m.sheet)
      (member_at p id)
  unfolding member_at
  looked_up sound = by (node_at p.nodes id) refl
    where
      with : (node : Node) → node_at p.nodes id ≡ Some node → (o : Option Sheet) → device_at p node.eds ≡ o
          → is_some o ≡ true
          → lookup (λ n. n == id) (sheets_of_members p) ≡ option_map (λ (m : Member). m.sheet) (with_sheet p node)
      with node known None none some = cc
      with node known (Some sheet) there some =
          let m : Member = record { node = node; sheet = sheet } in
          let made : with_sheet p node ≡ Some m =
          ap (option_map (λ sheet. let n : Member = record { node = node; sheet = sheet } in n)) there in
          described_at p id m (ap (option_and_then (with_sheet p)) known ∙ made)
          ∙ ap (option_map (λ (m : Member). m.sheet)) (sym made)

      by : (o : Option Node) → node_at p.nodes id ≡ o
          → lookup (λ n. n == id) (sheets_of_members p) ≡ option_map (λ (m : Member). m.sheet)
          (option_and_then (with_sheet p) o)
      by None none = unlisted_all none
      by (Some node) known = with node known (device_at p node.eds) refl (sheet_there sound node known)

-- the devices by the data sheet of each number
abbrev devices_by : Bool → Option ℕ → (ℕ → Option Sheet) → Devices
devices_by is_three controller sheets = record {
  entry = λ node place. option_and_then (λ sheet. entry_at sheet node place.0 place.1) (sheets node);
  dummy = λ node kind. option_map_or (λ sheet. dummy_allowed sheet.sections kind) (sheets node) false;
  vendor = if is_three then Some (λ node. option_map (λ sheet. as_made sheet node) (sheets node)) else None;
  controller = controller;
}

module _ (p : Content) (nodes : List (ℕ × Sheet)) (sound : IsSound p) where
  over : (b : Bool) → ((id : ℕ) → (b ≡ true) ⊎ (is_of_messages id p.messages ≡ true)
      → lookup (λ n. n == id) nodes ≡ option_map (λ (m : Member). m.sheet) (member_at p id))
      → plan_of (devices_of b (controller_of p) nodes) (entries p.messages)
      ≡ plan_of (devices_of b (controller_of p) (sheets_of_members p)) (entries p.messages)
  over true are = ap (λ (f : ℕ → Option Sheet). plan_of (devices_by true (controller_of p) f) (entries p.messages))
      (λ i id. (are id (inl refl) ∙ sym (looked_up p id sound)) i)
  over false are = named_alike (controller_of p) nodes (sheets_of_members p) p.messages
      (λ id named. are id (inr named) ∙ sym (looked_up p id sound))

pub planned_over_members : (p : Content) (nodes : List (ℕ × Sheet)) → IsSound p
    → ((id : ℕ) → (is_three p.version ≡ true) ⊎ (is_of_messages id p.messages ≡ true)
    → lookup (λ n. n == id) nodes ≡ option_map (λ (m : Member). m.sheet) (member_at p id))
    → plan_of (devices_of (is_three p.version) (controller_of p) nodes) (entries p.messages) ≡ plan_of_project p
unfolding plan_of_project
planned_over_members p nodes sound are = over p nodes sound (is_three p.version) are
