-- An edit that drops nothing leaves each name of an EDS and each number of a node.
use Rattle.std.proofs.Common.{◌≡◌, ◌∙◌, ℕ, Bool, true, false, not, cond, List, Option, Some, None, Ok, is_some, refl, ap}
use Rattle.std.proofs.Common.{subst}
use Rattle.std.specs.Cmp.{IsTotalOrder}
use Rattle.std.specs.FinMap.{contains_key, get, get-insert, insert, FinMap}
use Rattle.std.specs.Ordering.{eq_by_cmp}
use Rattle.std.specs.declared.cmp.Ordering.{Ordering}
use Rattle.std.proofs.lemmas.Cmp.{nat_cmp_total, nat_list_cmp_total}
use Rattle.project_edits.specs.declared.edit.Edit.{Edit}
use Rattle.project_edits.specs.declared.edit.Edit.TheVariants as edit
use Rattle.co_project.specs.declared.node.Node.{Node}
use Rattle.co_project.specs.Project.{accept, Content as Project}
use Rattle.co_project.specs.Tables.{with_need, Nodes, Texts}
use Rattle.project_parts.specs.declared.part.Part.{Part}
use Rattle.project_parts.specs.declared.part.Part.TheVariants as part
use Rattle.project_parts.specs.Gone.{drops, is_gone}
use Rattle.project_parts.proofs.EditLemmas.{made, taken_as, with_node}

-- a key stays where one is put
key_stays : {K X : Type 0} {R : K → K → Ordering} → IsTotalOrder R → (m : FinMap R X) (k : K) (v : X) (q : K)
    → contains_key m q ≡ true → contains_key (insert m k v) q ≡ true
key_stays {R = R} total m k v q there =
    ap is_some (get-insert total m k v q) ∙ by (eq_by_cmp R q k)
  where
    by : (t : Bool) → is_some (cond t (Some v) (get m q)) ≡ true
    by true = refl
    by false = there

node_stays : (nodes : Nodes) (id : ℕ) (change : Node → Node) (o : Option Node) (n : ℕ)
    → contains_key nodes n ≡ true → contains_key (with_node nodes id change o) n ≡ true
node_stays nodes id change None n there = there
node_stays nodes id change (Some node) n there = key_stays nat_cmp_total nodes id (change node) n there

-- a project with all that another has
record HasAllOf (p q : Project) : Type 0 where
  texts : (name : List ℕ) → contains_key p.texts name ≡ true → contains_key q.texts name ≡ true
  nodes : (n : ℕ) → contains_key p.nodes n ≡ true → contains_key q.nodes n ≡ true

module _ (p : Project) where
  -- neither names nor numbers are others
  as_it_was : (q : Project) → q.texts ≡ p.texts → q.nodes ≡ p.nodes → HasAllOf p q
  as_it_was q texts nodes = record {
    texts = λ name there. ap (λ (m : Texts). contains_key m name) texts ∙ there;
    nodes = λ n there. ap (λ (m : Nodes). contains_key m n) nodes ∙ there;
  }

  with_more : (q : Project) → q.texts ≡ p.texts
      → ((n : ℕ) → contains_key p.nodes n ≡ true → contains_key q.nodes n ≡ true) → HasAllOf p q
  with_more q texts nodes = record {
    texts = λ name there. ap (λ (m : Texts). contains_key m name) texts ∙ there;
    nodes = nodes;
  }

  has_all : (e : Edit) → drops e ≡ false → HasAllOf p (made p e)
  has_all (edit.Version version) kept = as_it_was _ refl refl
  has_all (edit.Bitrate rate) kept = as_it_was _ refl refl
  has_all (edit.Horizon time) kept = as_it_was _ refl refl
  has_all (edit.Manager m) kept = as_it_was _ refl refl
  has_all (edit.TimeStamps stamps) kept = as_it_was _ refl refl
  has_all (edit.SyncCounter n) kept = as_it_was _ refl refl
  has_all (edit.Eds name text) kept = record {
    texts = λ q there. key_stays nat_list_cmp_total p.texts name text q there;
    nodes = λ n there. there;
  }
  has_all (edit.DropEds name) kept = cc
  has_all (edit.Node id name eds) kept =
      with_more _ refl (λ n there. key_stays nat_cmp_total p.nodes id _ n there)
  has_all (edit.Need id mandatory) kept =
      with_more _ refl (λ n there. node_stays p.nodes id (with_need mandatory) (get p.nodes id) n there)
  has_all (edit.DropNode id) kept = cc
  has_all (edit.Param id index sub text) kept =
      with_more _ refl (λ n there. node_stays p.nodes id _ (get p.nodes id) n there)
  has_all (edit.Unparam id index sub) kept =
      with_more _ refl (λ n there. node_stays p.nodes id _ (get p.nodes id) n there)
  has_all (edit.Message name m) kept = as_it_was _ refl refl
  has_all (edit.Start name n) kept = as_it_was _ refl refl
  has_all (edit.DropMessage name) kept = as_it_was _ refl refl
  has_all (edit.Source name position index sub) kept = as_it_was _ refl refl
  has_all (edit.Unsource name position) kept = as_it_was _ refl refl
  has_all (edit.Sink name position node index sub) kept = as_it_was _ refl refl
  has_all (edit.Unsink name position node) kept = as_it_was _ refl refl
  has_all (edit.Receive name node rpdo event) kept = as_it_was _ refl refl
  has_all (edit.Unreceive name node) kept = as_it_was _ refl refl
  has_all (edit.Event number e) kept = as_it_was _ refl refl
  has_all (edit.DropEvent number) kept = as_it_was _ refl refl

gone : (s t : Bool) → (s ≡ true → t ≡ true) → not t ≡ true → not s ≡ true
gone true true stays none = cc
gone true false stays none = let still = stays refl in cc
gone false t stays none = refl

was_gone : (p q : Project) → HasAllOf p q → (a : Part) → is_gone q a ≡ true → is_gone p a ≡ true
was_gone p q all (part.Device name) none = gone (contains_key p.texts name) (contains_key q.texts name) (all.texts name) none
was_gone p q all part.Plan none = cc
was_gone p q all (part.Writes n) none = gone (contains_key p.nodes n) (contains_key q.nodes n) (all.nodes n) none
was_gone p q all (part.Concise n) none = gone (contains_key p.nodes n) (contains_key q.nodes n) (all.nodes n) none
was_gone p q all (part.Dcf n) none = gone (contains_key p.nodes n) (contains_key q.nodes n) (all.nodes n) none
was_gone p q all part.Roster none = cc
was_gone p q all (part.Node n) none = gone (contains_key p.nodes n) (contains_key q.nodes n) (all.nodes n) none
was_gone p q all (part.Window i) none = cc
was_gone p q all part.Diagnostics none = cc

-- what the project hasn't after an edit that drops nothing, it hadn't before
pub gone_before : (p q : Project) (e : Edit) → accept p e ≡ Ok q → drops e ≡ false → (a : Part)
    → is_gone q a ≡ true → is_gone p a ≡ true
gone_before p q e taken kept a none =
    was_gone p q (subst (HasAllOf p) (taken_as p q e taken) (has_all p e kept)) a none
