-- Whom the plan of a project is made for.
use Rattle.std.proofs.Common.{◌≡◌, ◌∙◌, ℕ, ◌==◌, Bool, true, false, cond, List, [], ◌∷◌, map, filter_map, Option, Some}
use Rattle.std.proofs.Common.{None, option_map, option_and_then, refl, sym, ap, subst}
use Rattle.std.specs.FinMap.{entries, find, get, get-entries}
use Rattle.std.specs.Cmp.{tied_itself}
use Rattle.std.specs.List.{cons_option}
use Rattle.std.specs.Map.{lookup}
use Rattle.std.specs.Ordering.{eq_by_cmp, is_eq, nat_cmp}
use Rattle.std.proofs.lemmas.Bool.{eq-eqb, eqb-true}
use Rattle.std.proofs.lemmas.Cmp.{nat_cmp_total}
use Rattle.std.proofs.lemmas.Map.Lookups.{exact_unsigned}
use Rattle.base.proofs.TableLemmas.{alike}
use Rattle.co_project.specs.declared.node.Node.{Node}
use Rattle.co_project.specs.Project.{Content, controller_of}
use Rattle.co_project.specs.Tables.{node_at}
use Rattle.pdo_plan.proofs.MadeLemmas.{made_for}
use Rattle.pdo_stations.specs.Devices.{devices_of}
use Rattle.pdo_plan.specs.Plan.{IsMadeFor, plan_of}
use Rattle.project_edits.specs.Versions.{is_three}
use Rattle.project_plan.specs.Network.{Member, device_at, member_at, member_by, members, plan_of_project}
use Rattle.project_plan.specs.Network.{sheets_of_members, with_sheet}
use Rattle.project_plan.proofs.NamedLemmas.{numbered}
use Rattle.eds_device.specs.Sheets.{Sheet}

pub eq_by_cmp_same : (a b : ℕ) → a ≡ b → eq_by_cmp nat_cmp b a ≡ true
eq_by_cmp_same a b same = ap (λ n. eq_by_cmp nat_cmp b n) same ∙ ap is_eq (tied_itself nat_cmp_total b)

module _ (project : Content) where
  -- a number with the data sheet of its node
  abbrev pub numbered_sheet : ℕ × Node → Option (ℕ × Sheet)
  numbered_sheet e = option_map (numbered e.0) (device_at project e.1.eds)

  abbrev sheet_by : ℕ × Member → ℕ × Sheet
  sheet_by e = (e.0, e.1.sheet)

  sheets_among : (es : List (ℕ × Node)) → map sheet_by (filter_map (member_by project) es)
      ≡ filter_map numbered_sheet es
  sheets_among [] = refl
  sheets_among (e ∷ es) =
      by (device_at project e.1.eds) (filter_map (member_by project) es)
      ∙ ap (cons_option (numbered_sheet e)) (sheets_among es)
    where
      by : (o : Option Sheet) (rest : List (ℕ × Member))
          → map sheet_by (cons_option (option_map (λ m. (e.0, m))
          (option_map (λ sheet. record { node = e.1; sheet = sheet }) o)) rest)
          ≡ cons_option (option_map (numbered e.0) o) (map sheet_by rest)
      by None rest = refl
      by (Some sheet) rest = refl

  -- the data sheets of the members one after the other
  pub sheets_are : sheets_of_members project ≡ filter_map numbered_sheet (entries project.nodes)
  unfolding sheets_of_members members
  sheets_are = sheets_among (entries project.nodes)

module _ (project : Content) (id : ℕ) where
  abbrev pub at_id : List (ℕ × Sheet) → Option Sheet
  at_id nodes = lookup (λ n. n == id) nodes

  -- a node of another number
  skipped : (e : ℕ × Node) (nodes : List (ℕ × Sheet)) → (e.0 == id) ≡ false → (o : Option Sheet)
      → at_id (cons_option (option_map (numbered e.0) o) nodes) ≡ at_id nodes
  skipped e nodes other None = refl
  skipped e nodes other (Some sheet) = ap (λ t. cond t (Some sheet) (at_id nodes)) other

  -- a node of this one
  taken : (e : ℕ × Node) (nodes : List (ℕ × Sheet)) (sheet : Sheet) → (e.0 == id) ≡ true
      → device_at project e.1.eds ≡ Some sheet → at_id (cons_option (numbered_sheet project e) nodes) ≡ Some sheet
  taken e nodes sheet same there =
      ap (λ o. at_id (cons_option (option_map (numbered e.0) o) nodes)) there
      ∙ ap (λ t. cond t (Some sheet) (at_id nodes)) same

  -- the data sheet of a node that is listed
  listed : (node : Node) (sheet : Sheet) → device_at project node.eds ≡ Some sheet → (nodes : List (ℕ × Node))
      → find nat_cmp id nodes ≡ Some node → at_id (filter_map (numbered_sheet project) nodes) ≡ Some sheet
  listed node sheet there [] found = cc
  listed node sheet there (e ∷ nodes) found = by (eq_by_cmp nat_cmp id e.0) refl found (listed node sheet there nodes)
    where
      another : eq_by_cmp nat_cmp id e.0 ≡ false → (t : Bool) → (e.0 == id) ≡ t → t ≡ false
      another other true same = sym (eq_by_cmp_same e.0 id (eqb-true e.0 id same)) ∙ other
      another other false apart = refl

      by : (t : Bool) → eq_by_cmp nat_cmp id e.0 ≡ t → cond t (Some e.1) (find nat_cmp id nodes) ≡ Some node
          → (find nat_cmp id nodes ≡ Some node → at_id (filter_map (numbered_sheet project) nodes) ≡ Some sheet)
          → at_id (filter_map (numbered_sheet project) (e ∷ nodes)) ≡ Some sheet
      by true same is rest =
          let itself : e.1 ≡ node = cc in
          taken e (filter_map (numbered_sheet project) nodes) sheet
          (eq-eqb e.0 id (sym (alike nat_cmp_total exact_unsigned id e.0 same)))
          (ap (λ (n : Node). device_at project n.eds) itself ∙ there)
      by false other is rest = skipped e (filter_map (numbered_sheet project) nodes) (another other (e.0 == id) refl)
          (device_at project e.1.eds) ∙ rest is

  -- the data sheet of a member
  pub described_at : (m : Member) → member_at project id ≡ Some m → at_id (sheets_of_members project) ≡ Some m.sheet
  unfolding member_at
  described_at m found =
      ap (λ (ns : List (ℕ × Sheet)). at_id ns) (sheets_are project) ∙ by (node_at project.nodes id) refl found
    where
      with : (node : Node) → get project.nodes id ≡ Some node → (o : Option Sheet) → device_at project node.eds ≡ o
          → option_map (λ sheet. record { node = node; sheet = sheet }) o ≡ Some m
          → at_id (filter_map (numbered_sheet project) (entries project.nodes)) ≡ Some m.sheet
      with node known None none is = cc
      with node known (Some sheet) there is =
          let same : sheet ≡ m.sheet = cc in
          listed node sheet there (entries project.nodes) (sym (get-entries project.nodes id) ∙ known) ∙ ap Some same

      by : (o : Option Node) → get project.nodes id ≡ o → option_and_then (with_sheet project) o ≡ Some m
          → at_id (filter_map (numbered_sheet project) (entries project.nodes)) ≡ Some m.sheet
      by None none is = cc
      by (Some node) known is = with node known (device_at project node.eds) refl is

  -- the plan is made for it
  pub made_for_member : (m : Member) → is_three project.version ≡ false → member_at project id ≡ Some m
      → IsMadeFor (plan_of_project project) m.sheet id
  unfolding plan_of_project
  made_for_member m old found =
      subst (λ (b : Bool). IsMadeFor (plan_of (devices_of b (controller_of project) (sheets_of_members project)) (entries project.messages))
      m.sheet id) (sym old)
      (made_for (controller_of project) (sheets_of_members project) id m.sheet (described_at m found) (entries project.messages))
