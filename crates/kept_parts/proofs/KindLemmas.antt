-- Each kind of part, brought up to date.
use Rattle.std.proofs.Common.{◌≡◌, ◌⊎◌, inl, inr, ℕ, Bool, true, false, ◌||◌, cond, List, [], ◌∷◌, Option, Some, None}
use Rattle.std.proofs.Common.{◌∙◌, if◌then◌else◌, ◌==◌, is_some, map, refl, sym, ap, subst, option_map}
use Rattle.std.specs.FinMap.{entries, get}
use Rattle.std.specs.Option.{option_map_or}
use Rattle.std.specs.Cmp.{tied_itself}
use Rattle.std.specs.Ordering.{eq_by_cmp, is_eq}
use Rattle.std.proofs.lemmas.Bool.{eqb-true}
use Rattle.std.proofs.lemmas.Cmp.{nat_list_cmp_total}
use Rattle.std.proofs.lemmas.List.Elements.{All-cons, All-head, All-nil, All-tail, All-weaker}
use Rattle.std.proofs.lemmas.Map.Lookups.{exact_bytes}
use Rattle.base.proofs.TableLemmas.{alike}
use Rattle.project_messages.specs.Messages.{name_cmp}
use Rattle.project_edits.specs.Versions.{is_three}
use Rattle.co_project.specs.declared.node.Node.{Node}
use Rattle.co_project.specs.Project.{Content as Project}
use Rattle.co_project.specs.Tables.{text_at}
use Rattle.kept_values.specs.Work.{Work, Refreshes}
use Rattle.kept_values.specs.Shelved.{is_fresh, kept_at, Shelved, Single}
use Rattle.kept_values.specs.Stale.{AreBrought}
use Rattle.kept_values.proofs.Brought.{one, option_map_back, refreshes_kind, refreshes_none, shelf_stands}
use Rattle.part_shelves.specs.SheetText.{sheet_given, sheet_text, SheetText}
use Rattle.part_shelves.specs.Slots.{fresh_at, fresh_slot, sheet_kept, Slots}
use Rattle.kept_parts.specs.Kept.{is_unmarked, kept_inputs, AreOfNow, HaveNoMark, IsClosed, IsOf}
use Rattle.co_scenario.specs.declared.timed_step.TimedStep.{TimedStep}
use Rattle.network_image.specs.Image.{window_steps}
use Rattle.project_parts.specs.Given.{concise_from, dcf_from, device_from, inputs_of, plan_from, roster_from, same_part}
use Rattle.project_parts.specs.Given.{whole, writes_from, OfConcise, OfDcf, OfDevice, OfDiagnostics, OfNode, OfPlan, OfRoster}
use Rattle.project_parts.specs.Given.{OfWindow, OfWrites}
use Rattle.project_parts.specs.declared.diagnostics_from.DiagnosticsFrom.{DiagnosticsFrom}
use Rattle.project_parts.specs.Reached.{of_node, of_nodes}
use Rattle.part_shelves.specs.declared.device_slot.DeviceSlot.{DeviceSlot}
use Rattle.project_parts.specs.declared.plan_from.PlanFrom.{PlanFrom}
use Rattle.project_parts.specs.declared.writes_from.WritesFrom.{WritesFrom}
use Rattle.project_parts.specs.declared.concise_from.ConciseFrom.{ConciseFrom}
use Rattle.project_parts.specs.declared.dcf_from.DcfFrom.{DcfFrom}
use Rattle.project_parts.specs.declared.device_at.DeviceAt.{DeviceAt}
use Rattle.project_parts.specs.declared.roster_from.RosterFrom.{RosterFrom}
use Rattle.project_parts.specs.declared.part.Part.{Part}
use Rattle.project_parts.specs.declared.part.Part.TheVariants as part
use Rattle.kept_parts.specs.declared.kept_parts.KeptParts.{KeptParts}
use Rattle.part_shelves.proofs.SlotLemmas.{StandsAt}

or_true : (s t : Bool) → (s || t) ≡ true → (s ≡ true) ⊎ (t ≡ true)
or_true true t h = inl refl
or_true false t h = inr h

-- at one number of a shelf stands this, and the others stay; none of these loses its mark
abbrev pub KeptAt : {X : Type 0} → ℕ → Option X → Shelved X → Shelved X → Type 0
KeptAt key now old new = (q : ℕ) → kept_at new q ≡ (if q == key then now else kept_at old q)

abbrev pub FreshAt : {X : Type 0} → ℕ → Shelved X → Shelved X → Type 0
FreshAt key old new = (q : ℕ) → is_fresh new q ≡ (q == key || is_fresh old q)

abbrev pub window_from : Project → ℕ → Option (List TimedStep)
window_from p i = Some (window_steps p i)

module _ (p : Project) where
  -- one part is brought up to date, and no other loses its mark
  abbrev pub Stands : Part → KeptParts → KeptParts → Type 0
  Stands named old new = (q : Part) → kept_inputs new q ≡ (if same_part q named then inputs_of p q else kept_inputs old q)

  abbrev pub NoOther : Part → KeptParts → KeptParts → Type 0
  NoOther named old new = (q : Part) → is_unmarked new q ≡ true → (same_part q named ≡ true) ⊎ (is_unmarked old q ≡ true)

  -- what has no mark is of now
  pub of_now : (h : KeptParts) → IsOf p h → AreOfNow p h
  unfolding IsOf
  of_now h is = is.0

  -- the devices of the nodes have no mark where the plan has none
  pub closed : (h : KeptParts) → IsOf p h → IsClosed p h
  unfolding IsOf
  closed h is = is.1

  -- devices without a mark, where no device is another
  same_devices : (old new : KeptParts) → new.devices ≡ old.devices → (es : List (ℕ × Node))
      → HaveNoMark old (map of_node es) → HaveNoMark new (map of_node es)
  same_devices old new same [] all = All-nil (λ q. is_unmarked new q ≡ true)
  same_devices old new same (e ∷ es) all =
      All-cons (λ q. is_unmarked new q ≡ true) (of_node e) (map of_node es)
      (ap (λ (s : Slots). fresh_at s e.1.eds) same
      ∙ All-head (λ q. is_unmarked old q ≡ true) (of_node e) (map of_node es) all)
      (same_devices old new same es (All-tail (λ q. is_unmarked old q ≡ true) (of_node e) (map of_node es) all))

  pub is_of_after : (named : Part) (old new : KeptParts) → IsOf p old → Stands named old new → NoOther named old new
      → IsClosed p new → IsOf p new
  unfolding IsOf
  is_of_after named old new is stands other under = (all, under)
    where
      all : AreOfNow p new
      all q unmarked = stands q ∙ by (same_part q named) refl (other q unmarked)
        where
          by : (t : Bool) → same_part q named ≡ t → (same_part q named ≡ true) ⊎ (is_unmarked old q ≡ true)
              → (if t then inputs_of p q else kept_inputs old q) ≡ inputs_of p q
          by true same o = refl
          by false apart (inl same) = cc
          by false apart (inr unmarked) = is.0 q unmarked

  module _ (h : KeptParts) (is : IsOf p h) where
    -- what has no mark is built from the inputs of now
    pub device_now : (name : List ℕ) → fresh_at h.devices name ≡ true
        → sheet_kept h.devices name ≡ sheet_given p name
    device_now name unmarked =
        option_map_back OfDevice (λ x y e. cc) (sheet_kept h.devices name) (sheet_given p name)
        (of_now h is (part.Device name) unmarked)

    pub plan_now : h.plan.fresh ≡ true → h.plan.kept ≡ Some (plan_from p)
    plan_now unmarked =
        option_map_back OfPlan (λ x y e. cc) h.plan.kept (Some (plan_from p)) (of_now h is part.Plan unmarked)

    pub writes_now : (n : ℕ) → is_fresh h.writes n ≡ true → kept_at h.writes n ≡ writes_from p n
    writes_now n unmarked =
        option_map_back OfWrites (λ x y e. cc) (kept_at h.writes n) (writes_from p n) (of_now h is (part.Writes n) unmarked)

    pub concise_now : (n : ℕ) → is_fresh h.concise n ≡ true → kept_at h.concise n ≡ concise_from p n
    concise_now n unmarked =
        option_map_back OfConcise (λ x y e. cc) (kept_at h.concise n) (concise_from p n) (of_now h is (part.Concise n) unmarked)

    pub dcf_now : (n : ℕ) → is_fresh h.dcf n ≡ true → kept_at h.dcf n ≡ dcf_from p n
    dcf_now n unmarked =
        option_map_back OfDcf (λ x y e. cc) (kept_at h.dcf n) (dcf_from p n) (of_now h is (part.Dcf n) unmarked)

    -- ---- a device

    module _ (name : List ℕ) (new : Slots)
        (s : StandsAt h.devices name new (option_map fresh_slot (sheet_given p name))) where
      abbrev with_devices : KeptParts
      with_devices = record h { devices = new }

      abbrev slot_sheet : Option DeviceSlot → Option SheetText
      slot_sheet o = option_map (λ (s : DeviceSlot). s.kept) o

      abbrev slot_fresh : Option DeviceSlot → Bool
      slot_fresh o = option_map_or (λ (s : DeviceSlot). s.fresh) o false

      kept_fresh : (o : Option SheetText) → slot_sheet (option_map fresh_slot o) ≡ o
      kept_fresh None = refl
      kept_fresh (Some given) = refl

      sheet_stands : (q : List ℕ) → sheet_kept new q
          ≡ (if eq_by_cmp name_cmp q name then sheet_given p q else sheet_kept h.devices q)
      sheet_stands q = ap slot_sheet (s q) ∙ by (eq_by_cmp name_cmp q name) refl
        where
          by : (t : Bool) → eq_by_cmp name_cmp q name ≡ t
              → slot_sheet (cond t (option_map fresh_slot (sheet_given p name)) (get h.devices q))
              ≡ (if t then sheet_given p q else sheet_kept h.devices q)
          by true same =
              kept_fresh (sheet_given p name)
              ∙ ap (sheet_given p) (sym (alike nat_list_cmp_total exact_bytes q name same))
          by false other = refl

      chosen : (t : Bool) (x y : Option SheetText)
          → option_map OfDevice (if t then x else y) ≡ (if t then option_map OfDevice x else option_map OfDevice y)
      chosen true x y = refl
      chosen false x y = refl

      device_stands : Stands (part.Device name) h with_devices
      device_stands (part.Device q) =
          ap (option_map OfDevice) (sheet_stands q)
          ∙ chosen (eq_by_cmp name_cmp q name) (sheet_given p q) (sheet_kept h.devices q)
      device_stands q = refl

      device_other : NoOther (part.Device name) h with_devices
      device_other (part.Device q) unmarked = by (eq_by_cmp name_cmp q name) refl
        where
          by : (t : Bool) → eq_by_cmp name_cmp q name ≡ t
              → (eq_by_cmp name_cmp q name ≡ true) ⊎ (fresh_at h.devices q ≡ true)
          by true same = inl same
          by false apart =
              inr (sym (ap slot_fresh (s q
              ∙ ap (λ t. cond t (option_map fresh_slot (sheet_given p name)) (get h.devices q)) apart)) ∙ unmarked)
      device_other q unmarked = inr unmarked

      kept_slot : (o : Option DeviceSlot) → slot_fresh o ≡ true → (given : Option SheetText) → slot_sheet o ≡ given
          → slot_fresh (option_map fresh_slot given) ≡ true
      kept_slot None unmarked given same = cc
      kept_slot (Some s) unmarked None same = cc
      kept_slot (Some s) unmarked (Some g) same = refl

      -- no device gets a mark
      pub device_keeps : (q : List ℕ) → fresh_at h.devices q ≡ true → fresh_at new q ≡ true
      device_keeps q unmarked = ap slot_fresh (s q) ∙ by (eq_by_cmp name_cmp q name) refl
        where
          by : (t : Bool) → eq_by_cmp name_cmp q name ≡ t
              → slot_fresh (cond t (option_map fresh_slot (sheet_given p name)) (get h.devices q)) ≡ true
          by true same =
              let one : q ≡ name = alike nat_list_cmp_total exact_bytes q name same in
              let here : fresh_at h.devices name ≡ true = sym (ap (fresh_at h.devices) one) ∙ unmarked in
              kept_slot (get h.devices name) here (sheet_given p name) (device_now name here)
          by false apart = unmarked

      pub device_stays : (q : Part) → is_unmarked h q ≡ true → is_unmarked with_devices q ≡ true
      device_stays (part.Device q) unmarked = device_keeps q unmarked
      device_stays part.Plan unmarked = unmarked
      device_stays (part.Writes n) unmarked = unmarked
      device_stays (part.Concise n) unmarked = unmarked
      device_stays (part.Dcf n) unmarked = unmarked
      device_stays part.Roster unmarked = unmarked
      device_stays (part.Node n) unmarked = unmarked
      device_stays (part.Window i) unmarked = unmarked
      device_stays part.Diagnostics unmarked = unmarked

      fresh_there : (o : Option (List ℕ))
          → slot_fresh (option_map fresh_slot (option_map (sheet_text (is_three p.version)) o)) ≡ is_some o
      fresh_there None = refl
      fresh_there (Some text) = refl

      -- it has no mark where there is a text
      pub device_unmarked : fresh_at new name ≡ is_some (text_at p.texts name)
      device_unmarked =
          ap slot_fresh (s name
          ∙ ap (λ t. cond t (option_map fresh_slot (sheet_given p name)) (get h.devices name))
          (ap is_eq (tied_itself nat_list_cmp_total name)))
          ∙ fresh_there (text_at p.texts name)

      device_closed : IsClosed p with_devices
      device_closed unmarked =
          All-weaker (λ q. is_unmarked h q ≡ true) (λ q. is_unmarked with_devices q ≡ true) device_stays
          (of_nodes p) (closed h is unmarked)

      pub device_is_of : IsOf p with_devices
      device_is_of = is_of_after (part.Device name) h with_devices is device_stands device_other device_closed

      pub device_brought : (m n : Work) → Refreshes (sheet_kept h.devices name) (sheet_given p name) m n
          → AreBrought same_part (inputs_of p) (part.Device name ∷ []) (kept_inputs h) (kept_inputs with_devices) m n
      device_brought m n r =
          one same_part (inputs_of p) (part.Device name) (kept_inputs h) (kept_inputs with_devices) m n device_stands
          (refreshes_kind OfDevice (λ x y e. cc) (sheet_kept h.devices name) (sheet_given p name) m n r)

      pub device_value : sheet_kept new name ≡ sheet_given p name
      device_value =
          sheet_stands name ∙ by (eq_by_cmp name_cmp name name) (ap is_eq (tied_itself nat_list_cmp_total name))
        where
          by : (t : Bool) → t ≡ true
              → (if t then sheet_given p name else sheet_kept h.devices name) ≡ sheet_given p name
          by true e = refl
          by false e = cc

    -- ---- the plan

    module _ (new : Single PlanFrom) (now : PlanFrom) (s : new ≡ record { kept = Some now; fresh = true })
        (e : now ≡ plan_from p) where
      abbrev with_plan : KeptParts
      with_plan = record h { plan = new }

      plan_stands : Stands part.Plan h with_plan
      plan_stands part.Plan =
          ap (λ (x : Single PlanFrom). option_map OfPlan x.kept) s ∙ ap (λ f. Some (OfPlan f)) e
      plan_stands q = refl

      plan_other : NoOther part.Plan h with_plan
      plan_other part.Plan unmarked = inl refl
      plan_other q unmarked = inr unmarked

      pub plan_is_of : HaveNoMark h (of_nodes p) → IsOf p with_plan
      plan_is_of none = is_of_after part.Plan h with_plan is plan_stands plan_other
          (λ unmarked. same_devices h with_plan refl (entries p.nodes) none)

      pub plan_brought : (m n : Work) → Refreshes h.plan.kept (Some now) m n
          → AreBrought same_part (inputs_of p) (part.Plan ∷ []) (kept_inputs h) (kept_inputs with_plan) m n
      plan_brought m n r =
          one same_part (inputs_of p) part.Plan (kept_inputs h) (kept_inputs with_plan) m n plan_stands
          (refreshes_kind OfPlan (λ x y e. cc) h.plan.kept (Some (plan_from p)) m n
          (subst (λ (x : PlanFrom). Refreshes h.plan.kept (Some x) m n) e r))

    -- ---- the writes of a node

    module _ (key : ℕ) (new : Shelved WritesFrom) (now : Option WritesFrom) (e : now ≡ writes_from p key)
        (s : KeptAt key now h.writes new) (f : FreshAt key h.writes new) where
      abbrev with_writes : KeptParts
      with_writes = record h { writes = new }

      writes_stands : Stands (part.Writes key) h with_writes
      writes_stands (part.Writes q) =
          shelf_stands OfWrites key (writes_from p) h.writes.kept new.kept
          (subst (λ (x : Option WritesFrom). KeptAt key x h.writes new) e s) q
      writes_stands q = refl

      writes_other : NoOther (part.Writes key) h with_writes
      writes_other (part.Writes q) unmarked = or_true (q == key) (is_fresh h.writes q) (sym (f q) ∙ unmarked)
      writes_other q unmarked = inr unmarked

      pub writes_is_of : IsOf p with_writes
      writes_is_of = is_of_after (part.Writes key) h with_writes is writes_stands writes_other
          (λ unmarked. same_devices h with_writes refl (entries p.nodes) (closed h is unmarked))

      pub writes_brought : (m n : Work) → Refreshes (kept_at h.writes key) now m n
          → AreBrought same_part (inputs_of p) (part.Writes key ∷ []) (kept_inputs h) (kept_inputs with_writes) m n
      writes_brought m n r =
          one same_part (inputs_of p) (part.Writes key) (kept_inputs h) (kept_inputs with_writes) m n writes_stands
          (refreshes_kind OfWrites (λ x y e. cc) (kept_at h.writes key) (writes_from p key) m n
          (subst (λ (x : Option WritesFrom). Refreshes (kept_at h.writes key) x m n) e r))

    -- ---- the concise DCF of a node

    module _ (key : ℕ) (new : Shelved ConciseFrom) (now : Option ConciseFrom) (e : now ≡ concise_from p key)
        (s : KeptAt key now h.concise new) (f : FreshAt key h.concise new) where
      abbrev with_concise : KeptParts
      with_concise = record h { concise = new }

      concise_stands : Stands (part.Concise key) h with_concise
      concise_stands (part.Concise q) =
          shelf_stands OfConcise key (concise_from p) h.concise.kept new.kept
          (subst (λ (x : Option ConciseFrom). KeptAt key x h.concise new) e s) q
      concise_stands q = refl

      concise_other : NoOther (part.Concise key) h with_concise
      concise_other (part.Concise q) unmarked = or_true (q == key) (is_fresh h.concise q) (sym (f q) ∙ unmarked)
      concise_other q unmarked = inr unmarked

      pub concise_is_of : IsOf p with_concise
      concise_is_of = is_of_after (part.Concise key) h with_concise is concise_stands concise_other
          (λ unmarked. same_devices h with_concise refl (entries p.nodes) (closed h is unmarked))

      pub concise_brought : (m n : Work) → Refreshes (kept_at h.concise key) now m n
          → AreBrought same_part (inputs_of p) (part.Concise key ∷ []) (kept_inputs h) (kept_inputs with_concise) m n
      concise_brought m n r =
          one same_part (inputs_of p) (part.Concise key) (kept_inputs h) (kept_inputs with_concise) m n concise_stands
          (refreshes_kind OfConcise (λ x y e. cc) (kept_at h.concise key) (concise_from p key) m n
          (subst (λ (x : Option ConciseFrom). Refreshes (kept_at h.concise key) x m n) e r))

    -- ---- the DCF of a node

    module _ (key : ℕ) (new : Shelved DcfFrom) (now : Option DcfFrom) (e : now ≡ dcf_from p key)
        (s : KeptAt key now h.dcf new) (f : FreshAt key h.dcf new) where
      abbrev with_dcf : KeptParts
      with_dcf = record h { dcf = new }

      dcf_stands : Stands (part.Dcf key) h with_dcf
      dcf_stands (part.Dcf q) =
          shelf_stands OfDcf key (dcf_from p) h.dcf.kept new.kept
          (subst (λ (x : Option DcfFrom). KeptAt key x h.dcf new) e s) q
      dcf_stands q = refl

      dcf_other : NoOther (part.Dcf key) h with_dcf
      dcf_other (part.Dcf q) unmarked = or_true (q == key) (is_fresh h.dcf q) (sym (f q) ∙ unmarked)
      dcf_other q unmarked = inr unmarked

      pub dcf_is_of : IsOf p with_dcf
      dcf_is_of = is_of_after (part.Dcf key) h with_dcf is dcf_stands dcf_other
          (λ unmarked. same_devices h with_dcf refl (entries p.nodes) (closed h is unmarked))

      pub dcf_brought : (m n : Work) → Refreshes (kept_at h.dcf key) now m n
          → AreBrought same_part (inputs_of p) (part.Dcf key ∷ []) (kept_inputs h) (kept_inputs with_dcf) m n
      dcf_brought m n r =
          one same_part (inputs_of p) (part.Dcf key) (kept_inputs h) (kept_inputs with_dcf) m n dcf_stands
          (refreshes_kind OfDcf (λ x y e. cc) (kept_at h.dcf key) (dcf_from p key) m n
          (subst (λ (x : Option DcfFrom). Refreshes (kept_at h.dcf key) x m n) e r))

    -- ---- the roster

    pub roster_now : h.roster.fresh ≡ true → h.roster.kept ≡ Some (roster_from p)
    roster_now unmarked =
        option_map_back OfRoster (λ x y e. cc) h.roster.kept (Some (roster_from p)) (of_now h is part.Roster unmarked)

    module _ (new : Single RosterFrom) (s : new ≡ record { kept = Some (roster_from p); fresh = true }) where
      abbrev with_roster : KeptParts
      with_roster = record h { roster = new }

      roster_stands : Stands part.Roster h with_roster
      roster_stands part.Roster = ap (λ (x : Single RosterFrom). option_map OfRoster x.kept) s
      roster_stands q = refl

      roster_other : NoOther part.Roster h with_roster
      roster_other part.Roster unmarked = inl refl
      roster_other q unmarked = inr unmarked

      pub roster_is_of : IsOf p with_roster
      roster_is_of = is_of_after part.Roster h with_roster is roster_stands roster_other
          (λ unmarked. same_devices h with_roster refl (entries p.nodes) (closed h is unmarked))

      pub roster_brought : (m n : Work) → Refreshes h.roster.kept (Some (roster_from p)) m n
          → AreBrought same_part (inputs_of p) (part.Roster ∷ []) (kept_inputs h) (kept_inputs with_roster) m n
      roster_brought m n r =
          one same_part (inputs_of p) part.Roster (kept_inputs h) (kept_inputs with_roster) m n roster_stands
          (refreshes_kind OfRoster (λ x y e. cc) h.roster.kept (Some (roster_from p)) m n r)

    -- ---- what a node has by its device

    pub node_now : (n : ℕ) → is_fresh h.nodes n ≡ true → kept_at h.nodes n ≡ device_from p n
    node_now n unmarked =
        option_map_back OfNode (λ x y e. cc) (kept_at h.nodes n) (device_from p n)
        (of_now h is (part.Node n) unmarked)

    module _ (key : ℕ) (new : Shelved DeviceAt) (now : Option DeviceAt) (e : now ≡ device_from p key)
        (s : KeptAt key now h.nodes new) (f : FreshAt key h.nodes new) where
      abbrev with_nodes : KeptParts
      with_nodes = record h { nodes = new }

      node_stands : Stands (part.Node key) h with_nodes
      node_stands (part.Node q) =
          shelf_stands OfNode key (device_from p) h.nodes.kept new.kept
          (subst (λ (x : Option DeviceAt). KeptAt key x h.nodes new) e s) q
      node_stands q = refl

      node_other : NoOther (part.Node key) h with_nodes
      node_other (part.Node q) unmarked = or_true (q == key) (is_fresh h.nodes q) (sym (f q) ∙ unmarked)
      node_other q unmarked = inr unmarked

      pub node_is_of : IsOf p with_nodes
      node_is_of = is_of_after (part.Node key) h with_nodes is node_stands node_other
          (λ unmarked. same_devices h with_nodes refl (entries p.nodes) (closed h is unmarked))

      pub node_brought : (m n : Work) → Refreshes (kept_at h.nodes key) now m n
          → AreBrought same_part (inputs_of p) (part.Node key ∷ []) (kept_inputs h) (kept_inputs with_nodes) m n
      node_brought m n r =
          one same_part (inputs_of p) (part.Node key) (kept_inputs h) (kept_inputs with_nodes) m n node_stands
          (refreshes_kind OfNode (λ x y e. cc) (kept_at h.nodes key) (device_from p key) m n
          (subst (λ (x : Option DeviceAt). Refreshes (kept_at h.nodes key) x m n) e r))

    -- ---- a window

    pub window_now : (n : ℕ) → is_fresh h.windows n ≡ true → kept_at h.windows n ≡ window_from p n
    window_now n unmarked =
        option_map_back OfWindow (λ x y e. cc) (kept_at h.windows n) (window_from p n) (of_now h is (part.Window n) unmarked)

    -- a window without a mark needs no look
    pub window_stays : (i : ℕ) → is_fresh h.windows i ≡ true → (m : Work)
        → AreBrought same_part (inputs_of p) (part.Window i ∷ []) (kept_inputs h) (kept_inputs h) m m
    window_stays i unmarked m =
        one same_part (inputs_of p) (part.Window i) (kept_inputs h) (kept_inputs h) m m stands (refreshes_none (kept_inputs h (part.Window i)) (inputs_of p (part.Window i)) m current)
      where
        current : kept_inputs h (part.Window i) ≡ inputs_of p (part.Window i)
        current = ap (option_map OfWindow) (window_now i unmarked)

        by : (j : ℕ) (t : Bool) → (j == i) ≡ t
            → kept_inputs h (part.Window j) ≡ (if t then inputs_of p (part.Window j) else kept_inputs h (part.Window j))
        by j true same =
            let one : j ≡ i = eqb-true j i same in
            ap (λ k. kept_inputs h (part.Window k)) one ∙ current ∙ sym (ap (λ k. inputs_of p (part.Window k)) one)
        by j false other = refl

        stands : Stands (part.Window i) h h
        stands (part.Window j) = by j (j == i) refl
        stands q = refl

    module _ (key : ℕ) (new : Shelved (List TimedStep)) (now : Option (List TimedStep)) (e : now ≡ window_from p key)
        (s : KeptAt key now h.windows new) (f : FreshAt key h.windows new) where
      abbrev with_window : KeptParts
      with_window = record h { windows = new }

      window_stands : Stands (part.Window key) h with_window
      window_stands (part.Window q) =
          shelf_stands OfWindow key (window_from p) h.windows.kept new.kept
          (subst (λ (x : Option (List TimedStep)). KeptAt key x h.windows new) e s) q
      window_stands q = refl

      window_other : NoOther (part.Window key) h with_window
      window_other (part.Window q) unmarked = or_true (q == key) (is_fresh h.windows q) (sym (f q) ∙ unmarked)
      window_other q unmarked = inr unmarked

      pub window_is_of : IsOf p with_window
      window_is_of = is_of_after (part.Window key) h with_window is window_stands window_other
          (λ unmarked. same_devices h with_window refl (entries p.nodes) (closed h is unmarked))

      pub window_brought : (m n : Work) → Refreshes (kept_at h.windows key) now m n
          → AreBrought same_part (inputs_of p) (part.Window key ∷ []) (kept_inputs h) (kept_inputs with_window) m n
      window_brought m n r =
          one same_part (inputs_of p) (part.Window key) (kept_inputs h) (kept_inputs with_window) m n window_stands
          (refreshes_kind OfWindow (λ x y e. cc) (kept_at h.windows key) (window_from p key) m n
          (subst (λ (x : Option (List TimedStep)). Refreshes (kept_at h.windows key) x m n) e r))

    -- ---- the diagnostics

    pub found_now : h.found.fresh ≡ true → h.found.kept ≡ Some (whole p)
    found_now unmarked =
        option_map_back OfDiagnostics (λ x y e. cc) h.found.kept (Some (whole p)) (of_now h is part.Diagnostics unmarked)

    module _ (new : Single DiagnosticsFrom) (s : new ≡ record { kept = Some (whole p); fresh = true }) where
      abbrev with_found : KeptParts
      with_found = record h { found = new }

      found_stands : Stands part.Diagnostics h with_found
      found_stands part.Diagnostics = ap (λ (x : Single DiagnosticsFrom). option_map OfDiagnostics x.kept) s
      found_stands q = refl

      found_other : NoOther part.Diagnostics h with_found
      found_other part.Diagnostics unmarked = inl refl
      found_other q unmarked = inr unmarked

      pub found_is_of : IsOf p with_found
      found_is_of = is_of_after part.Diagnostics h with_found is found_stands found_other
          (λ unmarked. same_devices h with_found refl (entries p.nodes) (closed h is unmarked))

      pub found_brought : (m n : Work) → Refreshes h.found.kept (Some (whole p)) m n
          → AreBrought same_part (inputs_of p) (part.Diagnostics ∷ []) (kept_inputs h) (kept_inputs with_found) m n
      found_brought m n r =
          one same_part (inputs_of p) part.Diagnostics (kept_inputs h) (kept_inputs with_found) m n found_stands
          (refreshes_kind OfDiagnostics (λ x y e. cc) h.found.kept (Some (whole p)) m n r)
