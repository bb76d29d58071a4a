-- All parts that a simulation reads, one after another.
use Rattle.std.proofs.Common.{◌≡◌, ◌∙◌, ℕ, ◌+◌, Bool, true, false, cond, ◌||◌, List, [], ◌∷◌, ◌++◌, map, Option, Some}
use Rattle.std.proofs.Common.{None}
use Rattle.std.proofs.Common.{append_assoc, refl, sym, ap, subst, arith, suc}
use Rattle.std.specs.Cmp.{tied_itself}
use Rattle.std.specs.Prelude.{if◌then◌else◌}
use Rattle.std.specs.FinMap.{entries, find, get-entries}
use Rattle.std.specs.List.{list_any}
use Rattle.std.specs.Option.{option_map_or}
use Rattle.std.specs.Ordering.{eq_by_cmp, is_eq, nat_cmp}
use Rattle.std.proofs.lemmas.Cmp.{nat_list_cmp_total}
use Rattle.std.proofs.lemmas.List.{append-nil}
use Rattle.std.proofs.lemmas.List.Folds.{list_any-append}
use Rattle.kept_values.specs.Stale.{AreBrought}
use Rattle.kept_values.specs.Work.{Work}
use Rattle.kept_values.proofs.Brought.{both, none, option_map_back}
use Rattle.co_project.specs.declared.node.Node.{Node}
use Rattle.co_project.specs.Project.{is_controller, Content as Project}
use Rattle.co_project.specs.Tables.{node_at}
use Rattle.part_shelves.specs.SheetText.{sheet_given}
use Rattle.part_shelves.specs.Slots.{sheet_kept}
use Rattle.kept_parts.specs.declared.kept_parts.KeptParts.{KeptParts}
use Rattle.project_parts.specs.declared.part.Part.{Part}
use Rattle.project_parts.specs.declared.part.Part.TheVariants as part
use Rattle.kept_parts.specs.Kept.{kept_inputs, AreHeld, IsOf}
use Rattle.project_parts.specs.Given.{inputs_of, same_part, OfDevice}
use Rattle.project_parts.specs.Reached.{for_node, for_nodes, for_own, for_plan, for_writes, of_node, of_nodes, own_device, parts_for}
use Rattle.project_parts.specs.Reached.{reached_by_trace, windows_below}
use Rattle.network_image.specs.Devices.{HoldsDevices}
use Rattle.kept_parts.proofs.CurrentLemmas.{itself}
use Rattle.kept_parts.proofs.Stays.{brought_now, brought_without, still_now}

pub or_left : (s t : Bool) → s ≡ true → (s || t) ≡ true
or_left s t h = ap (λ b. b || t) h

pub or_right : (s t : Bool) → t ≡ true → (s || t) ≡ true
or_right true t h = refl
or_right false t h = h

pub or_none : (s : Bool) → (s || false) ≡ true → s ≡ true
or_none true h = refl
or_none false h = h

-- the device of a node is among those of all nodes
any_node : (f : Part → Bool) (n : ℕ) (node : Node) (es : List (ℕ × Node)) → find nat_cmp n es ≡ Some node
    → f (part.Device node.eds) ≡ true → list_any f (map of_node es) ≡ true
any_node f n node [] there h = cc
any_node f n node (e ∷ es) there h = by (eq_by_cmp nat_cmp n e.0) there (λ later. any_node f n node es later h)
  where
    by : (t : Bool) → cond t (Some e.1) (find nat_cmp n es) ≡ Some node
        → (find nat_cmp n es ≡ Some node → list_any f (map of_node es) ≡ true)
        → (f (part.Device e.1.eds) || list_any f (map of_node es)) ≡ true
    by true there rest =
        let one : e.1 ≡ node = cc in
        or_left (f (part.Device e.1.eds)) _ (ap (λ (x : Node). f (part.Device x.eds)) one ∙ h)
    by false there rest = or_right (f (part.Device e.1.eds)) _ (rest there)

module _ (p : Project) where
  abbrev pub Brings : List Part → KeptParts → KeptParts → Work → Work → Type 0
  Brings ps a b m n = AreBrought same_part (inputs_of p) ps (kept_inputs a) (kept_inputs b) m n

  known : (n : ℕ) (node : Node) → node_at p.nodes n ≡ Some node → find nat_cmp n (entries p.nodes) ≡ Some node
  known n node there = sym (get-entries p.nodes n) ∙ there

  own_in_plan : (f : Part → Bool) (n : ℕ) → list_any f (own_device p n) ≡ true
      → list_any f (for_plan p) ≡ true
  own_in_plan f n h = by (node_at p.nodes n) refl h
    where
      by : (o : Option Node) → node_at p.nodes n ≡ o
          → list_any f (option_map_or (λ (node : Node). part.Device node.eds ∷ []) o []) ≡ true
          → list_any f (for_plan p) ≡ true
      by None none h = cc
      by (Some node) there h =
          list_any-append f (of_nodes p) (part.Plan ∷ [])
          ∙ or_left _ _ (any_node f n node (entries p.nodes) (known n node there) (or_none _ h))

  both_in_plan : (f : Part → Bool) (n : ℕ) → list_any f (for_plan p ++ own_device p n) ≡ true
      → list_any f (for_plan p) ≡ true
  both_in_plan f n h = by (list_any f (for_plan p)) refl (sym (list_any-append f (for_plan p) _) ∙ h)
    where
      by : (t : Bool) → list_any f (for_plan p) ≡ t → (t || list_any f (own_device p n)) ≡ true
          → list_any f (for_plan p) ≡ true
      by true is h = is
      by false is h = own_in_plan f n h

  -- ---- the devices of the nodes

  pub holds_by : (k : KeptParts) → ((n : ℕ) (node : Node) → node_at p.nodes n ≡ Some node
      → kept_inputs k (part.Device node.eds) ≡ inputs_of p (part.Device node.eds))
      → HoldsDevices p k.devices
  holds_by k are n node there =
      option_map_back OfDevice (λ x y e. cc) (sheet_kept k.devices node.eds) (sheet_given p node.eds) (are n node there)

  device_among : (n : ℕ) (node : Node) → node_at p.nodes n ≡ Some node
      → list_any (same_part (part.Device node.eds)) (of_nodes p) ≡ true
  device_among n node there =
      any_node (same_part (part.Device node.eds)) n node (entries p.nodes) (known n node there)
      (ap is_eq (tied_itself nat_list_cmp_total node.eds))

  pub holds_brought : (a b : KeptParts) (m n : Work)
      → Brings (of_nodes p) a b m n → HoldsDevices p b.devices
  holds_brought a b m n x =
      holds_by b (λ id node there.
      brought_now same_part (inputs_of p) (of_nodes p) (kept_inputs a) (kept_inputs b) m n x
      (part.Device node.eds) (device_among id node there))

  pub holds_planned : (k : KeptParts) → AreHeld p (for_plan p) k → HoldsDevices p k.devices
  unfolding AreHeld
  holds_planned k are =
      holds_by k (λ id node there.
      are (part.Device node.eds)
      (list_any-append (same_part (part.Device node.eds)) (of_nodes p) (part.Plan ∷ [])
      ∙ or_left _ _ (any_node (same_part (part.Device node.eds)) id node (entries p.nodes) (known id node there)
      (ap is_eq (tied_itself nat_list_cmp_total node.eds)))))

  -- ---- where the plan is

  pub held_brought : (ps : List Part) (a b : KeptParts) (m n : Work) → Brings ps a b m n → AreHeld p ps b
  unfolding AreHeld
  held_brought ps a b m n x = brought_now same_part (inputs_of p) ps (kept_inputs a) (kept_inputs b) m n x

  pub still_held : (ps qs : List Part) (a b : KeptParts) (m n : Work) → Brings ps a b m n → AreHeld p qs a
      → AreHeld p qs b
  unfolding AreHeld
  still_held ps qs a b m n x are = still_now same_part (inputs_of p) ps qs (kept_inputs a) (kept_inputs b) m n x are

  -- what is reached before what a node has by its device is held, where the plan and its writes are
  before_held : (n : ℕ) (a : KeptParts) → AreHeld p (for_plan p) a → AreHeld p (for_writes p n) a
      → AreHeld p (for_own p n ++ own_device p n) a
  unfolding AreHeld
  before_held n a plan writes r there =
      by (list_any (same_part r) (for_own p n)) refl (sym (list_any-append (same_part r) (for_own p n) (own_device p n)) ∙ there)
    where
      in_writes : (t : Bool)
          → (let none : List Part = [] in list_any (same_part r) (if t then for_writes p n else none) ≡ true)
          → list_any (same_part r) (for_writes p n) ≡ true
      in_writes true h = h
      in_writes false h = cc

      by : (t : Bool) → list_any (same_part r) (for_own p n) ≡ t → (t || list_any (same_part r) (own_device p n)) ≡ true
          → kept_inputs a r ≡ inputs_of p r
      by true is h = writes r (in_writes (is_controller p n) is)
      by false is h = plan r (own_in_plan (same_part r) n h)

  own_without : (n : ℕ) (q : Part) (a b : KeptParts) (k m : Work) → AreHeld p (for_plan p) a → AreHeld p (for_writes p n) a
      → Brings (for_own p n ++ own_device p n ++ q ∷ []) a b k m → Brings (q ∷ []) a b k m
  unfolding AreHeld
  own_without n q a b k m plan writes x =
      brought_without same_part (inputs_of p) itself (for_own p n ++ own_device p n) (q ∷ []) (kept_inputs a) (kept_inputs b) k m
      (before_held n a plan writes) x

  writes_without : (n : ℕ) (a b : KeptParts) (k m : Work) → AreHeld p (for_plan p) a
      → Brings (parts_for p (part.Writes n)) a b k m → Brings (part.Writes n ∷ []) a b k m
  unfolding AreHeld
  writes_without n a b k m are x =
      let before : List Part = for_plan p ++ own_device p n in
      brought_without same_part (inputs_of p) itself before (part.Writes n ∷ []) (kept_inputs a) (kept_inputs b) k m
      (λ r there. are r (both_in_plan (same_part r) n there)) x

  module _ (n : ℕ) (a b c : KeptParts) (k l m : Work) (plan : AreHeld p (for_plan p) a)
      (one : Brings (parts_for p (part.Writes n)) a b k l)
      (two : Brings (parts_for p (part.Node n)) b c l m) where
    plan_b : AreHeld p (for_plan p) b
    plan_b = still_held (parts_for p (part.Writes n)) (for_plan p) a b k l one plan

    pub plan_still : AreHeld p (for_plan p) c
    plan_still = still_held (parts_for p (part.Node n)) (for_plan p) b c l m two plan_b

    pub node_brought : Brings (for_node n) a c k m
    node_brought =
        both same_part (inputs_of p) (part.Writes n ∷ []) (part.Node n ∷ []) (kept_inputs a) (kept_inputs b) (kept_inputs c) k l m
        (writes_without n a b k l plan one)
        (own_without n (part.Node n) b c l m plan_b (held_brought (for_writes p n) a b k l one) two)

-- ---- node after node

pub for_nodes-append : (xs ys : List (ℕ × Node)) → for_nodes (xs ++ ys) ≡ for_nodes xs ++ for_nodes ys
for_nodes-append [] ys = refl
for_nodes-append (x ∷ xs) ys =
    ap (λ ps. for_node x.0 ++ ps) (for_nodes-append xs ys) ∙ sym (append_assoc (for_node x.0) (for_nodes xs) (for_nodes ys))

-- the nodes before the rest are done
pub record NodesSoFar (p : Project) (rest : List (ℕ × Node)) (a b : KeptParts) (k m : Work) : Type 0 where
  pub done : List (ℕ × Node)
  pub all : done ++ rest ≡ entries p.nodes
  pub brought : Brings p (for_nodes done) a b k m
  pub plan : AreHeld p (for_plan p) b
  pub is : IsOf p b

pub nodes_start : (p : Project) (rest : List (ℕ × Node)) (a : KeptParts) (k : Work) → rest ≡ entries p.nodes
    → AreHeld p (for_plan p) a → IsOf p a → NodesSoFar p rest a a k k
nodes_start p rest a k e plan is =
    record { done = []; all = e; brought = none same_part (inputs_of p) (kept_inputs a) k; plan = plan; is = is }

pub nodes_more : (p : Project) (e : ℕ × Node) (rest : List (ℕ × Node)) (a b c : KeptParts) (k m n : Work)
    → NodesSoFar p (e ∷ rest) a b k m → Brings p (for_node e.0) b c m n → AreHeld p (for_plan p) c → IsOf p c
    → NodesSoFar p rest a c k n
nodes_more p e rest a b c k m n s x plan is =
    record {
      done = s.done ++ e ∷ [];
      all = append_assoc s.done (e ∷ []) rest ∙ s.all;
      brought =
          rw (for_nodes-append s.done (e ∷ []))
          (both same_part (inputs_of p) (for_nodes s.done) (for_node e.0) (kept_inputs a) (kept_inputs b) (kept_inputs c) k m n s.brought x);
      plan = plan;
      is = is;
    }

pub nodes_brought : (p : Project) (a b : KeptParts) (k m : Work) → NodesSoFar p [] a b k m
    → Brings p (for_nodes (entries p.nodes)) a b k m
nodes_brought p a b k m s =
    subst (λ (es : List (ℕ × Node)). Brings p (for_nodes es) a b k m) (sym (append-nil s.done) ∙ s.all) s.brought

-- ---- window after window

pub record WindowsSoFar (p : Project) (i : ℕ) (a b : KeptParts) (k m : Work) : Type 0 where
  pub brought : Brings p (windows_below i) a b k m
  pub holds : HoldsDevices p b.devices
  pub is : IsOf p b

pub windows_start : (p : Project) (a : KeptParts) (k : Work) → HoldsDevices p a.devices → IsOf p a
    → WindowsSoFar p 0 a a k k
unfolding windows_below
windows_start p a k holds is =
    record { brought = none same_part (inputs_of p) (kept_inputs a) k; holds = holds; is = is }

pub windows_more : (p : Project) (i : ℕ) (a b c : KeptParts) (k m n : Work) → WindowsSoFar p i a b k m
    → Brings p (part.Window i ∷ []) b c m n → c.devices ≡ b.devices → IsOf p c → WindowsSoFar p (i + 1) a c k n
unfolding windows_below
windows_more p i a b c k m n s x same is =
    let next : suc i ≡ i + 1 = omega arith in
    record {
      brought =
          subst (λ (j : ℕ). Brings p (windows_below j) a c k n) next
          (both same_part (inputs_of p) (windows_below i) (part.Window i ∷ []) (kept_inputs a) (kept_inputs b) (kept_inputs c)
          k m n s.brought x);
      holds = subst (HoldsDevices p) (sym same) s.holds;
      is = is;
    }

-- ---- all of them

pub all_brought : (p : Project) (a b c d e : KeptParts) (k l m o q : Work) → Brings p (for_plan p) a b k l
    → Brings p (part.Roster ∷ []) b c l m → Brings p (for_nodes (entries p.nodes)) c d m o
    → Brings p (windows_below 1001) d e o q → Brings p (reached_by_trace p) a e k q
unfolding reached_by_trace
all_brought p a b c d e k l m o q plan roster nodes windows =
    both same_part (inputs_of p) ((for_plan p ++ part.Roster ∷ []) ++ for_nodes (entries p.nodes)) (windows_below 1001)
    (kept_inputs a) (kept_inputs d) (kept_inputs e) k o q
    (both same_part (inputs_of p) (for_plan p ++ part.Roster ∷ []) (for_nodes (entries p.nodes)) (kept_inputs a) (kept_inputs c) (kept_inputs d)
    k m o
    (both same_part (inputs_of p) (for_plan p) (part.Roster ∷ []) (kept_inputs a) (kept_inputs b) (kept_inputs c) k l m plan roster) nodes)
    windows
