-- Steps of bringing parts up to date, as they are written.
use Rattle.std.proofs.Common.{◌≡◌, ℕ, List, [], ◌∷◌, Option, Some, None, refl, sym, ap, ◌∙◌, subst, option_map}
use Rattle.std.proofs.Common.{IfSome, Bool, true, false, ◌+◌, ◌-◌, ◌^◌, ◌==◌, min, if◌then◌else◌, option_and_then}
use Rattle.std.proofs.lemmas.Bool.{eqb-true}
use Rattle.std.specs.Option.{option_map_or}
use Rattle.eds_device.specs.Sheets.{Sheet}
use Rattle.project_edits.specs.Versions.{is_three}
use Rattle.project_messages.specs.Messages.{Named}
use Rattle.co_project.specs.declared.node.Node.{Node}
use Rattle.co_project.specs.Project.{Content as Project}
use Rattle.co_project.specs.Tables.{node_at}
use Rattle.project_plan.specs.Network.{device_at}
use Rattle.kept_values.specs.At.{at}
use Rattle.kept_values.specs.Shelved.{Shelved, Single, kept_at}
use Rattle.kept_values.specs.Work.{Refreshes, Rises, Work}
use Rattle.kept_values.specs.Stale.{AreBrought}
use Rattle.kept_values.proofs.Brought.{refreshes_built}
use Rattle.part_shelves.specs.Slots.{Slots}
use Rattle.project_parts.specs.Written.{DeviceWithWrites}
use Rattle.project_parts.specs.Made.{plan_made, writes_made, written_made}
use Rattle.project_parts.specs.Offered.{concise_by}
use Rattle.kept_parts.specs.Kept.{kept_inputs}
use Rattle.project_parts.specs.Given.{concise_from, dcf_from, dcf_of_node, inputs_of, plan_from, same_part, writes_from}
use Rattle.project_parts.specs.Reached.{own_device}
use Rattle.project_parts.specs.declared.plan_from.PlanFrom.{PlanFrom}
use Rattle.project_parts.specs.declared.concise_from.ConciseFrom.{ConciseFrom}
use Rattle.project_parts.specs.declared.dcf_from.DcfFrom.{DcfFrom}
use Rattle.project_parts.specs.declared.writes_from.WritesFrom.{WritesFrom}
use Rattle.project_parts.specs.declared.part.Part.{Part}
use Rattle.project_parts.specs.declared.part.Part.TheVariants as part
use Rattle.kept_parts.specs.declared.kept_parts.KeptParts.{KeptParts}

module _ (p : Project) (a b : KeptParts) (m n : Work) where
  abbrev pub Brings : List Part → Type 0
  Brings parts = AreBrought same_part (inputs_of p) parts (kept_inputs a) (kept_inputs b) m n

  pub named_so : (name eds : List ℕ) → name ≡ eds → Brings (part.Device name ∷ []) → Brings (part.Device eds ∷ [])
  named_so name eds same brings = subst (λ (e : List ℕ). Brings (part.Device e ∷ [])) same brings

  pub own_brought : (id : ℕ) (node : Node) (name : List ℕ) → Some node ≡ node_at p.nodes id → name ≡ node.eds
      → Brings (part.Device name ∷ []) → Brings (own_device p id)
  own_brought id node name there same brings =
      subst (λ (o : Option Node). Brings (option_map_or (λ (node : Node). part.Device node.eds ∷ []) o [])) there
      (named_so name node.eds same brings)

-- ---- the plan

-- a plan of other inputs is built
pub plan_built : (p : Project) (old : Option PlanFrom) (now : PlanFrom) (m n : Work) → now ≡ plan_from p
    → (old ≡ Some (plan_from p) → ⊥) → n ≡ record m { parts = min (m.parts + 1) (2 ^ 64 - 1) } → Rises m n
    → Refreshes old (Some now) m n
plan_built p old now m n is stale counted rises =
    refreshes_built old (Some now) (Some now) m n (λ e. stale (e ∙ ap Some is)) refl counted tt rises

single : Option PlanFrom → Bool → Single PlanFrom
single k f = record { kept = k; fresh = f }

-- a plan of these inputs has its mark taken
pub plan_settled : (old new : Single PlanFrom) (now : PlanFrom) → old.kept ≡ Some now
    → new ≡ record old { fresh = true } → new ≡ record { kept = Some now; fresh = true }
unfolding single
plan_settled old new now kept settled = settled ∙ ap (λ k. single k true) kept

abbrev pub with_plan : KeptParts → Single PlanFrom → KeptParts
with_plan k plan = record k { plan = plan }

-- ---- the writes of a node

-- what is shown of writes that are kept with their device
pub writes_shown : (from : Option WritesFrom) (written : Option DeviceWithWrites) → written ≡ option_map written_made from
    → option_map (λ (w : DeviceWithWrites). w.writes) written ≡ option_map writes_made from
writes_shown None written is = ap (option_map (λ (w : DeviceWithWrites). w.writes)) is
writes_shown (Some from) written is = ap (option_map (λ (w : DeviceWithWrites). w.writes)) is

-- ---- the files of a node

pub writes_are : (p : Project) (id : ℕ) (now : Option ConciseFrom) (written : Option DeviceWithWrites)
    → now ≡ option_map concise_by written → written ≡ option_map written_made (writes_from p id)
    → now ≡ concise_from p id
writes_are p id now written is are = is ∙ ap (option_map concise_by) are ∙ by (writes_from p id)
  where
    by : (o : Option WritesFrom) → option_map concise_by (option_map written_made o)
        ≡ option_map (λ w. record { writes = writes_made w }) o
    by None = refl
    by (Some w) = refl

-- ---- devices of now

-- what was found is all that there is
pub all_there_is : {X : Type 0} (found all : Option X) → found ≡ all → IfSome found (λ x. all ≡ Some x)
all_there_is None all is = tt
all_there_is (Some x) all is = sym is

abbrev pub with_devices : KeptParts → Slots → KeptParts
with_devices k devices = record k { devices = devices }

-- ---- the template of a node's device

-- what is of the device of its EDS is of its own
pub own_template : (p : Project) (id : ℕ) (node : Node) (eds : List ℕ) (found : Option Sheet)
    → Some node ≡ node_at p.nodes id → eds ≡ node.eds → IfSome found (λ t. device_at p eds ≡ Some t)
    → IfSome found (λ t. option_and_then (λ n. device_at p n.eds) (node_at p.nodes id) ≡ Some t)
own_template p id node eds None there same h = tt
own_template p id node eds (Some t) there same h =
    ap (option_and_then (λ (n : Node). device_at p n.eds)) (sym there) ∙ ap (device_at p) (sym same) ∙ h

-- what a node's writes and its DCF are made from, by its device
abbrev writes_by : Project → ℕ → Node → Sheet → WritesFrom
writes_by p id node device = record {
  is_three = is_three p.version;
  plan = plan_made (plan_from p);
  params = node.params;
  device = device;
  node = id;
}

abbrev dcf_by : Project → ℕ → Node → WritesFrom → DcfFrom
dcf_by p id node w = record {
  device = w.device;
  name = node.name;
  rate = p.bitrate;
  writes = writes_made w;
  node = id;
}

-- and so of the one that the DCF is made from
pub of_own_device : (p : Project) (id : ℕ) (found : Option Sheet) (t : Sheet) (d : DcfFrom)
    → IfSome found (λ t. option_and_then (λ n. device_at p n.eds) (node_at p.nodes id) ≡ Some t)
    → found ≡ Some t → dcf_from p id ≡ Some d → t ≡ d.device
of_own_device p id None t d h is e = absurd (cc)
of_own_device p id (Some x) t d h is e = let same : x ≡ t = cc in sym same ∙ by (node_at p.nodes id) h e
  where
    on : (node : Node) (v : Option Sheet) → v ≡ Some x
        → option_map (dcf_by p id node) (option_map (writes_by p id node) v) ≡ Some d → x ≡ d.device
    on node None h e = absurd (cc)
    on node (Some y) h e =
        let first : y ≡ x = cc in
        sym first ∙ ap (λ (o : Option DcfFrom). option_map_or (λ (f : DcfFrom). f.device) o y) e

    by : (o : Option Node) → option_and_then (λ n. device_at p n.eds) o ≡ Some x
        → option_and_then (dcf_of_node p id) o ≡ Some d → x ≡ d.device
    by None h e = absurd (cc)
    by (Some node) h e = on node (device_at p node.eds) h e

-- ---- the DCF of a node

abbrev pub with_dcf : KeptParts → Shelved DcfFrom → KeptParts
with_dcf k dcf = record k { dcf = dcf }

-- one of these inputs has its mark taken
pub dcf_settled : (key : ℕ) (now : Option DcfFrom) (old new : Shelved DcfFrom) → kept_at old key ≡ now
    → new.kept ≡ old.kept → (q : ℕ) → kept_at new q ≡ (if q == key then now else kept_at old q)
dcf_settled key now old new here same q = ap (λ (es : List (ℕ × DcfFrom)). at es q) same ∙ by (q == key) refl
  where
    by : (t : Bool) → (q == key) ≡ t → kept_at old q ≡ (if t then now else kept_at old q)
    by true e = ap (kept_at old) (eqb-true q key e) ∙ here
    by false e = refl

-- where it has other inputs, all is as before
pub dcf_unsettled : (k later : KeptParts) (dcf : Shelved DcfFrom) → dcf ≡ k.dcf → later ≡ with_dcf k dcf → later ≡ k
dcf_unsettled k later dcf stale same = same ∙ ap (with_dcf k) stale
