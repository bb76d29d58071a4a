-- What is let go.
use Rattle.std.proofs.Common.{◌≡◌, ◌∙◌, ℕ, Bool, true, false, not, ◌&&◌, List, [], ◌∷◌, map, Option, Some, None, is_some}
use Rattle.std.proofs.Common.{refl, sym, ap, cond, if◌then◌else◌, option_map, subst, Result, Ok, Err, OnOk}
use Rattle.std.specs.FinMap.{contains_key, entries, get, get-retain_keys, retain_keys}
use Rattle.std.specs.List.{list_any}
use Rattle.std.specs.Option.{option_map_or}
use Rattle.std.specs.Result.{is_ok}
use Rattle.std.proofs.lemmas.List.Elements.{All-cons, All-head, All-nil, All-tail, All-weaker}
use Rattle.std.proofs.lemmas.Map.Lookups.{exact_bytes}
use Rattle.project_edits.specs.Versions.{is_three}
use Rattle.project_edits.specs.declared.edit.Edit.{Edit}
use Rattle.kept_values.specs.Shelved.{is_flagged, is_fresh, kept_at, Shelved, Single}
use Rattle.kept_values.specs.Stale.{without, AreBrought}
use Rattle.kept_values.specs.Work.{Work}
use Rattle.kept_values.proofs.Brought.{option_map_back}
use Rattle.co_project.specs.declared.node.Node.{Node}
use Rattle.co_project.specs.Project.{accept, Content as Project}
use Rattle.co_project.specs.Tables.{text_at}
use Rattle.co_scenario.specs.declared.timed_step.TimedStep.{TimedStep}
use Rattle.part_shelves.specs.SheetText.{sheet_given, sheet_text, SheetText}
use Rattle.part_shelves.specs.Slots.{fresh_at, sheet_kept, Slots}
use Rattle.part_shelves.specs.declared.device_slot.DeviceSlot.{DeviceSlot}
use Rattle.project_parts.specs.Given.{inputs_of, same_part, Given, OfConcise, OfDcf, OfDevice, OfDiagnostics, OfNode, OfPlan}
use Rattle.project_parts.specs.Given.{OfRoster, OfWindow, OfWrites}
use Rattle.project_parts.specs.declared.diagnostics_from.DiagnosticsFrom.{DiagnosticsFrom}
use Rattle.project_parts.specs.Gone.{drops, is_gone}
use Rattle.project_parts.specs.Reached.{of_node}
use Rattle.project_parts.specs.declared.plan_from.PlanFrom.{PlanFrom}
use Rattle.project_parts.specs.declared.roster_from.RosterFrom.{RosterFrom}
use Rattle.project_parts.specs.declared.part.Part.{Part}
use Rattle.project_parts.specs.declared.part.Part.TheVariants as part
use Rattle.project_parts.proofs.DropLemmas.{gone_before}
use Rattle.project_parts.proofs.GoneLemmas.{given_none}
use Rattle.kept_parts.specs.Kept.{is_unmarked, kept_inputs, AreHeld, AreOfNow, HaveNoMark, IsOf}
use Rattle.kept_parts.specs.Left.{left_of, HoldsNoneGone, IsSwept}
use Rattle.kept_parts.specs.declared.kept_parts.KeptParts.{KeptParts}

-- what is kept at flagged numbers alone
abbrev pub AreLeft : {X : Type 0} → List Bool → Shelved X → Shelved X → Type 0
AreLeft flags old new = (q : ℕ) → kept_at new q ≡ (if is_flagged flags q then kept_at old q else None)

abbrev slot_sheet : Option DeviceSlot → Option SheetText
slot_sheet o = option_map (λ (s : DeviceSlot). s.kept) o

abbrev slot_fresh : Option DeviceSlot → Bool
slot_fresh o = option_map_or (λ (s : DeviceSlot). s.fresh) o false

-- at a number that no node has nothing is left
pub number_left : (p : Project) (flags : List Bool) → ((q : ℕ) → is_flagged flags q ≡ contains_key p.nodes q)
    → {X G : Type 0} (make : X → G) (old new : Shelved X) → AreLeft flags old new → (n : ℕ)
    → option_map make (kept_at new n) ≡ (if not (contains_key p.nodes n) then None else option_map make (kept_at old n))
number_left p flags nodes make old new left n =
    ap (option_map make) (left n) ∙ by (is_flagged flags n) (contains_key p.nodes n) (nodes n)
  where
    by : (s t : Bool) → s ≡ t → option_map make (if s then kept_at old n else None)
        ≡ (if not t then None else option_map make (kept_at old n))
    by true true e = refl
    by false false e = refl
    by true false e = cc
    by false true e = cc

module _ (p : Project) where
  module _ (old new : KeptParts) (devices : new.devices ≡ retain_keys old.devices (contains_key p.texts)) where
    -- the slot of a name
    slot_left : (name : List ℕ) → get new.devices name ≡ cond (contains_key p.texts name) (get old.devices name) None
    slot_left name =
        ap (λ (s : Slots). get s name) devices
        ∙ get-retain_keys old.devices (contains_key p.texts) name
        (λ x t. ap (contains_key p.texts) (sym (exact_bytes name x t)))

    device_left : (name : List ℕ) → kept_inputs new (part.Device name) ≡ without (is_gone p) (kept_inputs old) (part.Device name)
    device_left name = ap (λ o. option_map OfDevice (slot_sheet o)) (slot_left name) ∙ by (contains_key p.texts name)
      where
        by : (t : Bool) → option_map OfDevice (slot_sheet (cond t (get old.devices name) None))
            ≡ (if not t then None else kept_inputs old (part.Device name))
        by true = refl
        by false = refl

    -- none loses its mark
    device_marked : (name : List ℕ) → fresh_at new.devices name ≡ true → fresh_at old.devices name ≡ true
    device_marked name unmarked = by (contains_key p.texts name) (sym (ap slot_fresh (slot_left name)) ∙ unmarked)
      where
        by : (t : Bool) → slot_fresh (cond t (get old.devices name) None) ≡ true → fresh_at old.devices name ≡ true
        by true unmarked = unmarked
        by false unmarked = cc

    -- and none that is of now gets one
    device_unmarked : (name : List ℕ) → fresh_at old.devices name ≡ true
        → sheet_kept old.devices name ≡ sheet_given p name → fresh_at new.devices name ≡ true
    device_unmarked name unmarked same =
        ap slot_fresh (slot_left name) ∙ by (get old.devices name) (text_at p.texts name) unmarked same
      where
        by : (o : Option DeviceSlot) (text : Option (List ℕ)) → slot_fresh o ≡ true
            → slot_sheet o ≡ option_map (sheet_text (is_three p.version)) text → slot_fresh (cond (is_some text) o None) ≡ true
        by None text unmarked same = cc
        by (Some s) None unmarked same = cc
        by (Some s) (Some text) unmarked same = unmarked

    module _ (flags : List Bool) (nodes : (q : ℕ) → is_flagged flags q ≡ contains_key p.nodes q)
        (plan : new.plan ≡ old.plan) (writes : AreLeft flags old.writes new.writes)
        (concise : AreLeft flags old.concise new.concise) (dcf : AreLeft flags old.dcf new.dcf)
        (roster : new.roster ≡ old.roster) (device_parts : AreLeft flags old.nodes new.nodes)
        (windows : new.windows ≡ old.windows) (found : new.found ≡ old.found) where
      -- what is held is what was, but for what is gone
      pub left : (q : Part) → kept_inputs new q ≡ left_of p old q
      left (part.Device name) = device_left name
      left part.Plan = ap (λ (s : Single PlanFrom). option_map OfPlan s.kept) plan
      left (part.Writes n) = number_left p flags nodes OfWrites old.writes new.writes writes n
      left (part.Concise n) = number_left p flags nodes OfConcise old.concise new.concise concise n
      left (part.Dcf n) = number_left p flags nodes OfDcf old.dcf new.dcf dcf n
      left part.Roster = ap (λ (s : Single RosterFrom). option_map OfRoster s.kept) roster
      left (part.Node n) = number_left p flags nodes OfNode old.nodes new.nodes device_parts n
      left (part.Window i) = ap (λ (s : Shelved (List TimedStep)). option_map OfWindow (kept_at s i)) windows
      left part.Diagnostics = ap (λ (s : Single DiagnosticsFrom). option_map OfDiagnostics s.kept) found

      module _ (same_writes : new.writes.fresh ≡ old.writes.fresh) (same_concise : new.concise.fresh ≡ old.concise.fresh)
          (same_dcf : new.dcf.fresh ≡ old.dcf.fresh) (same_nodes : new.nodes.fresh ≡ old.nodes.fresh) where
        still_marked : (q : Part) → is_unmarked new q ≡ true → is_unmarked old q ≡ true
        still_marked (part.Device name) unmarked = device_marked name unmarked
        still_marked part.Plan unmarked = sym (ap (λ (s : Single PlanFrom). s.fresh) plan) ∙ unmarked
        still_marked (part.Writes n) unmarked = sym (ap (λ (fs : List Bool). is_flagged fs n) same_writes) ∙ unmarked
        still_marked (part.Concise n) unmarked = sym (ap (λ (fs : List Bool). is_flagged fs n) same_concise) ∙ unmarked
        still_marked (part.Dcf n) unmarked = sym (ap (λ (fs : List Bool). is_flagged fs n) same_dcf) ∙ unmarked
        still_marked part.Roster unmarked = sym (ap (λ (s : Single RosterFrom). s.fresh) roster) ∙ unmarked
        still_marked (part.Node n) unmarked = sym (ap (λ (fs : List Bool). is_flagged fs n) same_nodes) ∙ unmarked
        still_marked (part.Window i) unmarked = sym (ap (λ (s : Shelved (List TimedStep)). is_fresh s i) windows) ∙ unmarked
        still_marked part.Diagnostics unmarked = sym (ap (λ (s : Single DiagnosticsFrom). s.fresh) found) ∙ unmarked

        -- it is of the project still
        pub left_is_of : IsOf p old → IsOf p new
        unfolding IsOf
        left_is_of is = (all, λ unmarked. below (entries p.nodes) (is.1 (still_marked part.Plan unmarked)))
          where
            all : AreOfNow p new
            all q unmarked = left q ∙ by (is_gone p q) refl
              where
                by : (t : Bool) → is_gone p q ≡ t → (if t then None else kept_inputs old q) ≡ inputs_of p q
                by true gone = sym (given_none p q gone)
                by false there = is.0 q (still_marked q unmarked)

            one : (name : List ℕ) → is_unmarked old (part.Device name) ≡ true → is_unmarked new (part.Device name) ≡ true
            one name unmarked =
                device_unmarked name unmarked
                (option_map_back OfDevice (λ x y e. cc) (sheet_kept old.devices name) (sheet_given p name)
                (is.0 (part.Device name) unmarked))

            below : (es : List (ℕ × Node)) → HaveNoMark old (map of_node es) → HaveNoMark new (map of_node es)
            below [] none = All-nil (λ q. is_unmarked new q ≡ true)
            below (e ∷ es) none =
                All-cons (λ q. is_unmarked new q ≡ true) (of_node e) (map of_node es)
                (one e.1.eds (All-head (λ q. is_unmarked old q ≡ true) (of_node e) (map of_node es) none))
                (below es (All-tail (λ q. is_unmarked old q ≡ true) (of_node e) (map of_node es) none))

-- ---- what is known of it

-- it says nothing of what is held
pub held_known : (k : KeptParts) (known : Bool) (q : Part) → kept_inputs (record k { swept = known }) q ≡ kept_inputs k q
held_known k known (part.Device name) = refl
held_known k known part.Plan = refl
held_known k known (part.Writes n) = refl
held_known k known (part.Concise n) = refl
held_known k known (part.Dcf n) = refl
held_known k known part.Roster = refl
held_known k known (part.Node n) = refl
held_known k known (part.Window i) = refl
held_known k known part.Diagnostics = refl

pub fresh_known : (k : KeptParts) (known : Bool) (q : Part) → is_unmarked (record k { swept = known }) q ≡ is_unmarked k q
fresh_known k known (part.Device name) = refl
fresh_known k known part.Plan = refl
fresh_known k known (part.Writes n) = refl
fresh_known k known (part.Concise n) = refl
fresh_known k known (part.Dcf n) = refl
fresh_known k known part.Roster = refl
fresh_known k known (part.Node n) = refl
fresh_known k known (part.Window i) = refl
fresh_known k known part.Diagnostics = refl

module _ (p : Project) where
  -- where nothing is held of what is gone, all is left
  pub all_left : (k : KeptParts) → k.swept ≡ true → IsSwept p k → (q : Part) → kept_inputs k q ≡ left_of p k q
  unfolding IsSwept
  all_left k known swept q = by (is_gone p q) refl
    where
      by : (t : Bool) → is_gone p q ≡ t → kept_inputs k q ≡ (if t then None else kept_inputs k q)
      by true gone = swept known q gone
      by false there = refl

  pub known_is_of : (k : KeptParts) (known : Bool) → IsOf p k → IsOf p (record k { swept = known })
  unfolding IsOf
  known_is_of k known is = (
    λ q unmarked. held_known k known q ∙ is.0 q (sym (fresh_known k known q) ∙ unmarked),
    λ unmarked. below (entries p.nodes) (is.1 unmarked),
  )
    where
      below : (es : List (ℕ × Node)) → HaveNoMark k (map of_node es) → HaveNoMark (record k { swept = known }) (map of_node es)
      below es none = All-weaker (λ q. is_unmarked k q ≡ true) (λ q. is_unmarked (record k { swept = known }) q ≡ true)
          (λ q u. fresh_known k known q ∙ u) (map of_node es) none

  -- nothing is known
  pub unknown : (k : KeptParts) → k.swept ≡ false → IsSwept p k
  unfolding IsSwept
  unknown k none = λ known. cc

  -- where parts are brought up to date once what is gone is let go, nothing is held of it
  pub none_gone : (ps : List Part) (old new : KeptParts) (m n : Work)
      → AreBrought same_part (inputs_of p) ps (left_of p old) (kept_inputs new) m n → HoldsNoneGone p new
  none_gone ps old new m n brought q gone =
      ap (λ f. f q) brought.settled_is ∙ by (list_any (same_part q) ps) (is_gone p q) gone
    where
      by : (s t : Bool) → t ≡ true → (if s then inputs_of p q else if t then None else kept_inputs old q) ≡ None
      by true t none = given_none p q gone
      by false true none = refl
      by false false none = cc

  module _ (ps : List Part) (old middle new : KeptParts) (m n : Work)
      (gone : (q : Part) → kept_inputs middle q ≡ left_of p old q)
      (brought : AreBrought same_part (inputs_of p) ps (kept_inputs middle) (kept_inputs new) m n) where
    -- parts that are brought up to date once what is gone is let go
    pub brought_left : (known : Bool)
        → AreBrought same_part (inputs_of p) ps (left_of p old) (kept_inputs (record new { swept = known })) m n
    brought_left known =
        subst (λ (h : Part → Option Given). AreBrought same_part (inputs_of p) ps h
        (kept_inputs (record new { swept = known })) m n) (λ i q. gone q i)
        (subst (λ (h : Part → Option Given). AreBrought same_part (inputs_of p) ps (kept_inputs middle) h m n)
        (λ i q. sym (held_known new known q) i) brought)

    -- nothing is held of what is gone then
    pub brought_swept : (known : Bool) → IsSwept p (record new { swept = known })
    unfolding IsSwept
    brought_swept known e = none_gone ps old (record new { swept = known }) m n (brought_left known)

-- ---- where it succeeded

pub on_ok : {X E P Q : Type 0} → (P → Q) → (r : Result X E) → OnOk r P → OnOk r Q
on_ok to (Ok x) p = to p
on_ok to (Err e) p = tt

module _ (p : Project) where
  -- all that was brought is held
  pub known_held : (ps : List Part) (k : KeptParts) (known : Bool) → AreHeld p ps k
      → AreHeld p ps (record k { swept = known })
  unfolding AreHeld
  known_held ps k known kept_inputs q there = held_known k known q ∙ kept_inputs q there

  -- nothing is known where it failed
  pub swept_if : {X E : Type 0} (r : Result X E) (known : Bool) → known ≡ is_ok r → (k : KeptParts)
      → OnOk r (IsSwept p (record k { swept = known })) → IsSwept p (record k { swept = known })
  swept_if (Ok x) known is k swept = swept
  swept_if (Err e) known is k swept = unknown p (record k { swept = known }) is

-- ---- after an edit

both_true : (s t : Bool) → (s && not t) ≡ true → (s ≡ true) × (t ≡ false)
both_true true true h = cc
both_true true false h = (refl, refl)
both_true false t h = cc

module _ (p : Project) (e : Edit) (old new : KeptParts) (same : (q : Part) → kept_inputs new q ≡ kept_inputs old q)
    (known : new.swept ≡ (old.swept && not (drops e))) where
  pub still_swept : IsSwept p old → IsSwept p new
  unfolding IsSwept
  still_swept swept is q gone = same q ∙ swept (both_true old.swept (drops e) (sym known ∙ is)).0 q gone

  pub swept_after : (q : Project) → IsSwept p old → accept p e ≡ Ok q → IsSwept q new
  unfolding IsSwept
  swept_after q swept taken is a gone =
      let was = both_true old.swept (drops e) (sym known ∙ is) in
      same a ∙ swept was.0 a (gone_before p q e taken was.1 a gone)
