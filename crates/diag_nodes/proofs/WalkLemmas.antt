-- What walks over the nodes of a project find.
use Rattle.std.proofs.Common.{◌≡◌, ℕ, List, [], ◌∷◌, ◌++◌, filter_map, Option, Some, None, refl, sym, ap}
use Rattle.std.proofs.Common.{append_assoc, append-nil, ◌∙◌}
use Rattle.std.specs.Prelude.{option_map}
use Rattle.std.specs.FinMap.{entries}
use Rattle.std.specs.List.{cons_option, flat_map}
use Rattle.std.specs.Option.{option_map_or}
use Rattle.eds_device.specs.Sheets.{Sheet}
use Rattle.co_project.specs.declared.node.Node.{Node}
use Rattle.co_project.specs.Project.{Content}
use Rattle.project_plan.specs.Network.{Member, device_at, member_by, member_of, members}
use Rattle.diag_nodes.specs.Devices.{of_node}

-- ---- walks

-- one more element of a walk
pub walk_on : {X Y : Type 0} (f : X → List Y) (old found more : List Y) (x : X) (rest left : List X) → left ≡ x ∷ rest
    → more ≡ found ++ f x
    → found ++ flat_map f left ≡ old → more ++ flat_map f rest ≡ old
walk_on f old found more x rest left is now so_far =
    ap (λ ys. ys ++ flat_map f rest) now ∙ append_assoc found (f x) (flat_map f rest)
    ∙ ap (λ xs. found ++ flat_map f xs) (sym is) ∙ so_far

-- the end of a walk
pub walk_ends : {X Y : Type 0} (f : X → List Y) (old found : List Y) (rest : List X) → rest ≡ []
    → found ++ flat_map f rest ≡ old → found ≡ old
walk_ends f old found rest ended so_far = sym (append-nil found) ∙ ap (λ xs. found ++ flat_map f xs) (sym ended)
    ∙ so_far

-- ---- nodes

module _ {X : Type 0} (f : ℕ × Member → List X) (p : Content) where
  members_among : (es : List (ℕ × Node)) → flat_map (of_node f p) es
      ≡ flat_map f (filter_map (member_by p) es)
  members_among [] = refl
  members_among (e ∷ es) = ap (λ xs. of_node f p e ++ xs) (members_among es) ∙ by (device_at p e.1.eds)
    where
      there : List (ℕ × Member)
      there = filter_map (member_by p) es

      by : (o : Option Sheet) → option_map_or (λ d. f (member_of e.0 e.1 d)) o [] ++ flat_map f there
          ≡ flat_map f (cons_option (option_map (λ m. (e.0, m))
          (option_map (λ sheet. record { node = e.1; sheet = sheet }) o)) there)
      by None = refl
      by (Some sheet) = refl

  -- what is found of all nodes is what is found of their members
  pub all_members : flat_map (of_node f p) (entries p.nodes) ≡ flat_map f (members p)
  unfolding members
  all_members = members_among (entries p.nodes)

-- what is found of a member is that of its node, where the node has that device
pub found_there : {X : Type 0} (f : ℕ × Member → List X) (p : Content) (e : ℕ × Node) (device : Sheet)
    (found : ℕ × Member) (old new : List X) → device_at p e.1.eds ≡ Some device → found ≡ member_of e.0 e.1 device
    → new ≡ old ++ f found → new ≡ old ++ of_node f p e
found_there f p e device found old new there is now =
    now ∙ ap (λ m. old ++ f m) is
    ∙ sym (ap (λ o. old ++ option_map_or (λ d. f (member_of e.0 e.1 d)) o []) there)
