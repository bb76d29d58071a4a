-- Steps of bringing parts up to date, as they are written.
use Rattle.std.proofs.Common.{◌≡◌, ◌∙◌, ℕ, Bool, true, false, ◌==◌, ◌+◌, ◌-◌, ◌^◌, min, if◌then◌else◌, List, []}
use Rattle.std.proofs.Common.{Option, Some, None, IfSome, IfNone, option_map, option_and_then, refl, sym, ap, subst}
use Rattle.std.specs.Option.{option_map_or}
use Rattle.std.proofs.lemmas.Bool.{eqb-true}
use Rattle.std.proofs.lemmas.Option.{same_Some}
use Rattle.eds_device.specs.Sheets.{Sheet}
use Rattle.co_project.specs.declared.node.Node.{Node}
use Rattle.co_project.specs.Project.{is_controller, Content as Project}
use Rattle.co_project.specs.Tables.{node_at}
use Rattle.concise_dcf.specs.declared.write.Write.{Write}
use Rattle.kept_values.specs.At.{at}
use Rattle.kept_values.specs.Shelved.{kept_at, Shelved}
use Rattle.kept_values.specs.Work.{Refreshes, Rises, Work}
use Rattle.kept_values.specs.Stale.{AreBrought}
use Rattle.kept_values.proofs.Brought.{is_there, none, refreshes_built}
use Rattle.kept_parts.proofs.KindLemmas.{KeptAt}
use Rattle.kept_parts.proofs.StepLemmas.{writes_shown}
use Rattle.kept_parts.specs.Kept.{kept_inputs}
use Rattle.project_parts.specs.Given.{device_from, device_of_node, inputs_of, own_given, same_part, writes_from}
use Rattle.project_parts.specs.Made.{writes_made, written_made}
use Rattle.project_parts.specs.Reached.{for_own, for_writes}
use Rattle.project_parts.specs.Written.{DeviceWithWrites}
use Rattle.project_parts.specs.declared.part.Part.{Part}
use Rattle.project_plan.specs.Network.{device_at}
use Rattle.project_parts.specs.declared.device_at.DeviceAt.{DeviceAt}
use Rattle.kept_parts.specs.declared.kept_parts.KeptParts.{KeptParts}

-- a device with its number offers itself
pub offered_is : (now from : Option DeviceAt) → now ≡ from → option_map (λ d. d) now ≡ from
offered_is None from is = is
offered_is (Some d) from is = is

module _ (p : Project) (n : ℕ) where
  abbrev with_number : Option (List Write) → Sheet → DeviceAt
  with_number own d = record { device = d; node = n; own = own }

  numbered : (o : Option Node)
      → option_map (with_number (own_given p n)) (option_and_then (λ node. device_at p node.eds) o)
      ≡ option_and_then (device_of_node p n) o
  numbered None = refl
  numbered (Some node) = refl

  -- the device of a node, given its number
  pub device_value : (device : Option Sheet) (own : Option (List Write)) (result : Option DeviceAt)
      → result ≡ option_map (with_number own) device → own ≡ own_given p n
      → device ≡ option_and_then (λ node. device_at p node.eds) (node_at p.nodes n) → result ≡ device_from p n
  device_value device own result is given from =
      is ∙ ap (λ (ws : Option (List Write)). option_map (with_number ws) device) given
      ∙ ap (option_map (with_number (own_given p n))) from ∙ numbered (node_at p.nodes n)

  -- and that of now, where it is found
  pub common_value : (node : Node) (name : List ℕ) (found : Sheet) (now : DeviceAt)
      → Some node ≡ node_at p.nodes n → name ≡ node.eds → device_at p name ≡ Some found
      → Some now ≡ device_from p n → Some (record now { device = found }) ≡ device_from p n
  common_value node name found now there named is from =
      let here : device_from p n ≡ Some (with_number (own_given p n) found) =
      ap (option_and_then (device_of_node p n)) (sym there)
      ∙ ap (option_map (with_number (own_given p n))) (ap (device_at p) (sym named) ∙ is) in
      let same : now ≡ with_number (own_given p n) found = same_Some now (with_number (own_given p n) found) (from ∙ here) in
      ap (λ (d : DeviceAt). Some (record d { device = found })) same ∙ sym here

  pub common_or : (node : Node) (name : List ℕ) (found : Option Sheet) (now : DeviceAt)
      → Some node ≡ node_at p.nodes n → name ≡ node.eds → IfSome found (λ device. device_at p name ≡ Some device)
      → Some now ≡ device_from p n
      → Some (option_map_or (λ (d : Sheet). record now { device = d }) found now) ≡ device_from p n
  common_or node name None now there named is from = from
  common_or node name (Some found) now there named is from = common_value node name found now there named is from

-- ---- the writes that a node holds by itself

module _ (p : Project) (n : ℕ) where
  pub own_shown : is_controller p n ≡ true → (written : Option DeviceWithWrites)
      → written ≡ option_map written_made (writes_from p n)
      → option_map (λ (w : DeviceWithWrites). w.writes) written ≡ own_given p n
  own_shown own written is =
      writes_shown (writes_from p n) written is
      ∙ sym (ap (λ (t : Bool). let none : Option (List Write) = None in
      if t then option_map writes_made (writes_from p n) else none) own)

  pub own_none : is_controller p n ≡ false → None ≡ own_given p n
  own_none other = sym (ap (λ (t : Bool). let none : Option (List Write) = None in
      if t then option_map writes_made (writes_from p n) else none) other)

  -- what is reached for them
  pub own_reached : is_controller p n ≡ true → for_writes p n ≡ for_own p n
  own_reached own = sym (ap (λ (t : Bool). let none : List Part = [] in if t then for_writes p n else none) own)

  pub none_reached : is_controller p n ≡ false → [] ≡ for_own p n
  none_reached other = sym (ap (λ (t : Bool). let none : List Part = [] in if t then for_writes p n else none) other)

  -- nothing, where the manager doesn't run in it
  pub none_brought : (k : KeptParts) (m : Work) → is_controller p n ≡ false
      → AreBrought same_part (inputs_of p) (for_own p n) (kept_inputs k) (kept_inputs k) m m
  none_brought k m other =
      subst (λ (ps : List Part). AreBrought same_part (inputs_of p) ps (kept_inputs k) (kept_inputs k) m m)
      (none_reached other) (none same_part (inputs_of p) (kept_inputs k) m)

  pub own_brought : (k l : KeptParts) (m o : Work) → is_controller p n ≡ true
      → AreBrought same_part (inputs_of p) (for_writes p n) (kept_inputs k) (kept_inputs l) m o
      → AreBrought same_part (inputs_of p) (for_own p n) (kept_inputs k) (kept_inputs l) m o
  own_brought k l m o own brought =
      subst (λ (ps : List Part). AreBrought same_part (inputs_of p) ps (kept_inputs k) (kept_inputs l) m o)
      (own_reached own) brought

-- ---- what is kept at a number

abbrev pub with_nodes : KeptParts → Shelved DeviceAt → KeptParts
with_nodes k shelf = record k { nodes = shelf }

-- what is of now already
pub settled_kept : {X : Type 0} (key : ℕ) (now : Option X) (old new : Shelved X) → new.kept ≡ old.kept
    → kept_at old key ≡ now → KeptAt key now old new
settled_kept {X} key now old new same current q =
    ap (λ (entries : List (ℕ × X)). at entries q) same ∙ by (q == key) refl
  where
    by : (t : Bool) → (q == key) ≡ t → kept_at old q ≡ (if t then now else kept_at old q)
    by true e = ap (kept_at old) (eqb-true q key e) ∙ current
    by false e = refl

-- what isn't of now
pub other_kept : {X : Type 0} (first last now from : X) (result : Bool) → now ≡ from
    → (first ≡ now → result ≡ true) → result ≡ false → last ≡ first → last ≡ from → ⊥
other_kept first last now from result is settled stale same e =
    let true_so = settled (sym same ∙ e ∙ sym is) in
    cc

-- what wasn't is built
pub built : (p : Project) (key : ℕ) (kept now : Option DeviceAt) (m n : Work)
    → option_map (λ d. d) now ≡ device_from p key → (kept ≡ device_from p key → ⊥)
    → IfSome now (λ _. n ≡ record m { parts = min (m.parts + 1) (2 ^ 64 - 1) }) → IfNone now (n ≡ m) → Rises m n
    → Refreshes kept (option_map (λ d. d) now) m n
built p key kept now m n is stale counted nothing rises =
    refreshes_built kept (option_map (λ d. d) now) now m n (λ e. stale (e ∙ is)) (is_there (λ d. d) now) counted nothing
    rises
