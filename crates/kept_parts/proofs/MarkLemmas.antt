-- Marks.
use Rattle.std.proofs.Common.{◌≡◌, ◌∙◌, ℕ, Bool, true, false, ◌&&◌, ◌||◌, ◌==◌, not, cond, List, [], ◌∷◌, map, Option, Some, None}
use Rattle.std.proofs.Common.{option_map, refl, sym, ap, subst, Ok}
use Rattle.std.specs.Prelude.{if◌then◌else◌}
use Rattle.std.specs.FinMap.{entries, get, get-insert, insert}
use Rattle.std.specs.Option.{option_map_or}
use Rattle.std.specs.Ordering.{eq_by_cmp}
use Rattle.std.proofs.lemmas.Cmp.{nat_list_cmp_total}
use Rattle.std.proofs.lemmas.List.Elements.{All-cons, All-head, All-nil, All-tail}
use Rattle.std.proofs.lemmas.Map.Lookups.{exact_bytes}
use Rattle.base.proofs.TableLemmas.{alike}
use Rattle.project_edits.specs.declared.edit.Edit.{Edit}
use Rattle.project_edits.specs.declared.edit.Edit.TheVariants as edit
use Rattle.project_messages.specs.Messages.{name_cmp}
use Rattle.co_project.specs.declared.node.Node.{Node}
use Rattle.co_project.specs.Project.{accept, controller_of, has_controller, is_controller, Content as Project}
use Rattle.part_shelves.specs.SheetText.{SheetText}
use Rattle.part_shelves.specs.Slots.{fresh_at, marked, sheet_kept, with_fresh, Slots}
use Rattle.kept_parts.specs.Kept.{is_unmarked, kept_inputs, HaveNoMark, IsOf}
use Rattle.kept_parts.specs.Marks.{Marks}
use Rattle.kept_values.specs.At.{at}
use Rattle.kept_values.specs.Shelved.{is_fresh, Shelved, Single}
use Rattle.co_scenario.specs.declared.timed_step.TimedStep.{TimedStep}
use Rattle.project_parts.specs.declared.device_at.DeviceAt.{DeviceAt}
use Rattle.project_parts.specs.Given.{OfDevice, OfNode, OfRoster, OfWindow}
use Rattle.project_parts.specs.declared.roster_from.RosterFrom.{RosterFrom}
use Rattle.project_parts.specs.Reached.{of_node, of_nodes}
use Rattle.project_parts.specs.Touched.{holds_writes, is_held_of, is_of_manager, is_of_network, is_of_node, is_of_text}
use Rattle.project_parts.specs.Touched.{is_planned, is_roster, is_touched, moves_controller, reads_version}
use Rattle.part_shelves.specs.declared.device_slot.DeviceSlot.{DeviceSlot}
use Rattle.project_parts.specs.declared.part.Part.{Part}
use Rattle.project_parts.specs.declared.part.Part.TheVariants as part
use Rattle.kept_parts.specs.declared.kept_parts.KeptParts.{KeptParts}
use Rattle.project_parts.proofs.ControllerLemmas.{no_test}
use Rattle.project_parts.proofs.EditLemmas.{taken_as}
use Rattle.project_parts.proofs.FileLemmas.{nodes_left}
use Rattle.project_parts.proofs.FrameLemmas.{frame}
use Rattle.kept_parts.proofs.GoneLemmas.{fresh_known, held_known}

-- ---- marks of devices

abbrev slot_sheet : Option DeviceSlot → Option SheetText
slot_sheet o = option_map (λ (s : DeviceSlot). s.kept) o

abbrev slot_fresh : Option DeviceSlot → Bool
slot_fresh o = option_map_or (λ (s : DeviceSlot). s.fresh) o false

module _ (slots : Slots) (name : List ℕ) where
  abbrev one_marked : Slots
  one_marked = with_fresh slots name false

  abbrev with_mark : Option DeviceSlot → Slots
  with_mark o = option_map_or (λ (s : DeviceSlot). insert slots name (record s { fresh = false })) o slots

  pub marked_kept : (q : List ℕ) → sheet_kept one_marked q ≡ sheet_kept slots q
  marked_kept q = by (get slots name) refl
    where
      at : (s : DeviceSlot) → get slots name ≡ Some s → (t : Bool) → eq_by_cmp name_cmp q name ≡ t
          → slot_sheet (cond t (Some (record s { fresh = false })) (get slots q)) ≡ sheet_kept slots q
      at s there true same =
          ap slot_sheet (sym there ∙ sym (ap (get slots) (alike nat_list_cmp_total exact_bytes q name same)))
      at s there false apart = refl

      by : (o : Option DeviceSlot) → get slots name ≡ o → sheet_kept (with_mark o) q ≡ sheet_kept slots q
      by None none = refl
      by (Some s) there =
          ap slot_sheet (get-insert nat_list_cmp_total slots name (record s { fresh = false }) q)
          ∙ at s there (eq_by_cmp name_cmp q name) refl

  fresh_at_mark : (q : List ℕ) → fresh_at one_marked q ≡ (not (eq_by_cmp name_cmp q name) && fresh_at slots q)
  fresh_at_mark q = by (get slots name) refl
    where
      none_at : get slots name ≡ None → (t : Bool) → eq_by_cmp name_cmp q name ≡ t
          → fresh_at slots q ≡ (not t && fresh_at slots q)
      none_at none true same =
          ap slot_fresh (ap (get slots) (alike nat_list_cmp_total exact_bytes q name same) ∙ none)
      none_at none false apart = refl

      at : (s : DeviceSlot) (t : Bool)
          → slot_fresh (cond t (Some (record s { fresh = false })) (get slots q)) ≡ (not t && fresh_at slots q)
      at s true = refl
      at s false = refl

      by : (o : Option DeviceSlot) → get slots name ≡ o
          → fresh_at (with_mark o) q ≡ (not (eq_by_cmp name_cmp q name) && fresh_at slots q)
      by None none = none_at none (eq_by_cmp name_cmp q name) refl
      by (Some s) there =
          ap slot_fresh (get-insert nat_list_cmp_total slots name (record s { fresh = false }) q)
          ∙ at s (eq_by_cmp name_cmp q name)

unasked : (asked was : Bool) → (not asked && was) ≡ true → (was ≡ true) × (asked ≡ false)
unasked true was h = cc
unasked false was h = (h, refl)

-- ---- marks of parts

neither : (s t : Bool) → (s || t) ≡ false → (s ≡ false) × (t ≡ false)
neither true t h = cc
neither false t h = (refl, h)

module _ (h : KeptParts) (name : List ℕ) where
  abbrev with_text : KeptParts
  with_text = record h { devices = with_fresh h.devices name false }

  -- the device of an EDS, with the plan and what is made from it, what nodes have by their devices, and the windows
  pub text_marks : (middle : KeptParts) (nodes : Shelved DeviceAt) (windows : Shelved (List TimedStep))
      → Marks is_planned with_text middle → nodes.kept ≡ middle.nodes.kept
      → ((q : ℕ) → is_fresh nodes q ≡ false) → windows.kept ≡ middle.windows.kept
      → ((q : ℕ) → is_fresh windows q ≡ false)
      → Marks (is_of_text name) h (record middle { nodes = nodes; windows = windows })
  text_marks middle nodes windows m same_nodes no_node same_windows no_window =
      record { kept = same; unmarked = less; others = others }
    where
      after : KeptParts
      after = record middle { nodes = nodes; windows = windows }

      same : (q : Part) → kept_inputs after q ≡ kept_inputs h q
      same (part.Device e) = m.kept (part.Device e) ∙ ap (option_map OfDevice) (marked_kept h.devices name e)
      same part.Plan = m.kept part.Plan
      same (part.Writes n) = m.kept (part.Writes n)
      same (part.Concise n) = m.kept (part.Concise n)
      same (part.Dcf n) = m.kept (part.Dcf n)
      same part.Roster = m.kept part.Roster
      same (part.Node n) =
          ap (λ (es : List (ℕ × DeviceAt)). option_map OfNode (at es n)) same_nodes ∙ m.kept (part.Node n)
      same (part.Window i) =
          ap (λ (es : List (ℕ × List TimedStep)). option_map OfWindow (at es i)) same_windows ∙ m.kept (part.Window i)
      same part.Diagnostics = m.kept part.Diagnostics

      less : (q : Part) → is_unmarked after q ≡ true → (is_unmarked h q ≡ true) × (is_of_text name q ≡ false)
      less (part.Device e) u =
          unasked (eq_by_cmp name_cmp e name) (fresh_at h.devices e)
          (sym (fresh_at_mark h.devices name e) ∙ (m.unmarked (part.Device e) u).0)
      less part.Plan u = m.unmarked part.Plan u
      less (part.Writes n) u = m.unmarked (part.Writes n) u
      less (part.Concise n) u = m.unmarked (part.Concise n) u
      less (part.Dcf n) u = m.unmarked (part.Dcf n) u
      less part.Roster u = m.unmarked part.Roster u
      less (part.Node n) u = let none : is_fresh nodes n ≡ false = no_node n in cc
      less (part.Window i) u = let none : is_fresh windows i ≡ false = no_window i in cc
      less part.Diagnostics u = m.unmarked part.Diagnostics u

      others : (q : Part) → is_of_text name q ≡ false → is_unmarked h q ≡ true
          → is_unmarked after q ≡ true
      others (part.Device e) other u =
          m.others (part.Device e) refl
          (fresh_at_mark h.devices name e ∙ ap (λ t. not t && fresh_at h.devices e) other ∙ u)
      others part.Roster other u = m.others part.Roster refl u
      others part.Diagnostics other u = m.others part.Diagnostics refl u
      others part.Plan other u = cc
      others (part.Writes n) other u = cc
      others (part.Concise n) other u = cc
      others (part.Dcf n) other u = cc
      others (part.Node n) other u = cc
      others (part.Window i) other u = cc

-- the plan and what is made from it, with the roster, what the node of a number has by its device, and the windows
pub network_marks : (h : KeptParts) (id : ℕ) (middle : KeptParts) (roster : Single RosterFrom) (nodes : Shelved DeviceAt)
    (windows : Shelved (List TimedStep)) → Marks is_planned h middle → roster ≡ record middle.roster { fresh = false }
    → nodes.kept ≡ middle.nodes.kept → ((q : ℕ) → is_fresh nodes q ≡ (not (q == id) && is_fresh middle.nodes q))
    → windows.kept ≡ middle.windows.kept → ((q : ℕ) → is_fresh windows q ≡ false)
    → Marks (is_of_network id) h (record middle { roster = roster; nodes = nodes; windows = windows })
network_marks h id middle roster nodes windows m is_roster same_nodes no_node same_windows no_window =
    record { kept = same; unmarked = less; others = others }
  where
    after : KeptParts
    after = record middle { roster = roster; nodes = nodes; windows = windows }

    same : (q : Part) → kept_inputs after q ≡ kept_inputs h q
    same (part.Device e) = m.kept (part.Device e)
    same part.Plan = m.kept part.Plan
    same (part.Writes n) = m.kept (part.Writes n)
    same (part.Concise n) = m.kept (part.Concise n)
    same (part.Dcf n) = m.kept (part.Dcf n)
    same part.Roster = ap (λ (s : Single RosterFrom). option_map OfRoster s.kept) is_roster ∙ m.kept part.Roster
    same (part.Node n) =
        ap (λ (es : List (ℕ × DeviceAt)). option_map OfNode (at es n)) same_nodes ∙ m.kept (part.Node n)
    same (part.Window i) =
        ap (λ (es : List (ℕ × List TimedStep)). option_map OfWindow (at es i)) same_windows ∙ m.kept (part.Window i)
    same part.Diagnostics = m.kept part.Diagnostics

    less : (q : Part) → is_unmarked after q ≡ true → (is_unmarked h q ≡ true) × (is_of_network id q ≡ false)
    less (part.Device e) u = m.unmarked (part.Device e) u
    less part.Plan u = m.unmarked part.Plan u
    less (part.Writes n) u = m.unmarked (part.Writes n) u
    less (part.Concise n) u = m.unmarked (part.Concise n) u
    less (part.Dcf n) u = m.unmarked (part.Dcf n) u
    less part.Roster u = let none = ap (λ (s : Single RosterFrom). s.fresh) is_roster in cc
    less (part.Node n) u =
        let was = unasked (n == id) (is_fresh middle.nodes n) (sym (no_node n) ∙ u) in
        ((m.unmarked (part.Node n) was.0).0, was.1)
    less (part.Window i) u = let none : is_fresh windows i ≡ false = no_window i in cc
    less part.Diagnostics u = m.unmarked part.Diagnostics u

    others : (q : Part) → is_of_network id q ≡ false → is_unmarked h q ≡ true
        → is_unmarked after q ≡ true
    others (part.Device e) other u = m.others (part.Device e) refl u
    others part.Plan other u = cc
    others (part.Writes n) other u = cc
    others (part.Concise n) other u = cc
    others (part.Dcf n) other u = cc
    others part.Roster other u = cc
    others (part.Node n) other u =
        no_node n ∙ ap (λ t. not t && is_fresh middle.nodes n) other ∙ m.others (part.Node n) refl u
    others (part.Window i) other u = cc
    others part.Diagnostics other u = m.others part.Diagnostics refl u

-- each device
module _ (old new : Slots) (each : (q : List ℕ) → get new q ≡ option_map marked (get old q)) where
  all_kept : (q : List ℕ) → sheet_kept new q ≡ sheet_kept old q
  all_kept q = ap slot_sheet (each q) ∙ by (get old q)
    where
      by : (o : Option DeviceSlot) → slot_sheet (option_map marked o) ≡ slot_sheet o
      by None = refl
      by (Some s) = refl

  none_fresh : (q : List ℕ) → fresh_at new q ≡ false
  none_fresh q = ap slot_fresh (each q) ∙ by (get old q)
    where
      by : (o : Option DeviceSlot) → slot_fresh (option_map marked o) ≡ false
      by None = refl
      by (Some s) = refl

-- the devices and all that is made of them, and the roster
pub version_marks : (h : KeptParts) (devices : Slots) (middle : KeptParts) (roster : Single RosterFrom)
    (nodes : Shelved DeviceAt) (windows : Shelved (List TimedStep))
    → ((q : List ℕ) → get devices q ≡ option_map marked (get h.devices q))
    → Marks is_planned (record h { devices = devices }) middle → roster ≡ record middle.roster { fresh = false }
    → nodes.kept ≡ middle.nodes.kept → ((q : ℕ) → is_fresh nodes q ≡ false)
    → windows.kept ≡ middle.windows.kept → ((q : ℕ) → is_fresh windows q ≡ false)
    → Marks reads_version h (record middle { roster = roster; nodes = nodes; windows = windows })
version_marks h devices middle roster nodes windows each m is_roster same_nodes no_node same_windows no_window =
    record { kept = same; unmarked = less; others = others }
  where
    after : KeptParts
    after = record middle { roster = roster; nodes = nodes; windows = windows }

    same : (q : Part) → kept_inputs after q ≡ kept_inputs h q
    same (part.Device e) = m.kept (part.Device e) ∙ ap (option_map OfDevice) (all_kept h.devices devices each e)
    same part.Plan = m.kept part.Plan
    same (part.Writes n) = m.kept (part.Writes n)
    same (part.Concise n) = m.kept (part.Concise n)
    same (part.Dcf n) = m.kept (part.Dcf n)
    same part.Roster = ap (λ (s : Single RosterFrom). option_map OfRoster s.kept) is_roster ∙ m.kept part.Roster
    same (part.Node n) =
        ap (λ (es : List (ℕ × DeviceAt)). option_map OfNode (at es n)) same_nodes ∙ m.kept (part.Node n)
    same (part.Window i) =
        ap (λ (es : List (ℕ × List TimedStep)). option_map OfWindow (at es i)) same_windows ∙ m.kept (part.Window i)
    same part.Diagnostics = m.kept part.Diagnostics

    less : (q : Part) → is_unmarked after q ≡ true → (is_unmarked h q ≡ true) × (reads_version q ≡ false)
    less (part.Device e) u =
        let was : fresh_at devices e ≡ true = (m.unmarked (part.Device e) u).0 in
        let none : fresh_at devices e ≡ false = none_fresh h.devices devices each e in
        cc
    less part.Plan u = m.unmarked part.Plan u
    less (part.Writes n) u = m.unmarked (part.Writes n) u
    less (part.Concise n) u = m.unmarked (part.Concise n) u
    less (part.Dcf n) u = m.unmarked (part.Dcf n) u
    less part.Roster u = let none = ap (λ (s : Single RosterFrom). s.fresh) is_roster in cc
    less (part.Node n) u = let none : is_fresh nodes n ≡ false = no_node n in cc
    less (part.Window i) u = let none : is_fresh windows i ≡ false = no_window i in cc
    less part.Diagnostics u = m.unmarked part.Diagnostics u

    others : (q : Part) → reads_version q ≡ false → is_unmarked h q ≡ true → is_unmarked after q ≡ true
    others part.Diagnostics other u = m.others part.Diagnostics refl u
    others (part.Device e) other u = cc
    others part.Plan other u = cc
    others (part.Writes n) other u = cc
    others (part.Concise n) other u = cc
    others (part.Dcf n) other u = cc
    others part.Roster other u = cc
    others (part.Node n) other u = cc
    others (part.Window i) other u = cc

-- marks, and then others
pub both_marks : (a b : Part → Bool) (old middle new : KeptParts) → Marks a old middle → Marks b middle new
    → Marks (λ q. a q || b q) old new
both_marks a b old middle new x y = record {
  kept = λ q. y.kept q ∙ x.kept q;
  unmarked = λ q u. let then_so = y.unmarked q u in
      let was = x.unmarked q then_so.0 in (was.0, ap (λ t. t || b q) was.1 ∙ then_so.1);
  others = λ q other u. let apart = neither (a q) (b q) other in y.others q apart.1 (x.others q apart.0 u);
}

-- the same marks, said otherwise
pub same_marks : (a b : Part → Bool) (old new : KeptParts) → ((q : Part) → a q ≡ b q) → Marks a old new → Marks b old new
same_marks a b old new same m = record {
  kept = m.kept;
  unmarked = λ q u. let was = m.unmarked q u in (was.0, sym (same q) ∙ was.1);
  others = λ q other u. m.others q (same q ∙ other) u;
}

-- nothing is marked
pub no_marks : (h : KeptParts) → Marks (λ q. false) h h
no_marks h = record { kept = λ q. refl; unmarked = λ q u. (u, refl); others = λ q other u. u }

-- what is known of what is let go is no mark
pub known_marks : (asked : Part → Bool) (old new : KeptParts) (known : Bool) → Marks asked old new
    → Marks asked old (record new { swept = known })
known_marks asked old new known m = record {
  kept = λ q. held_known new known q ∙ m.kept q;
  unmarked = λ q u. m.unmarked q (sym (fresh_known new known q) ∙ u);
  others = λ q other u. fresh_known new known q ∙ m.others q other u;
}

-- ---- the node that the manager runs in

nothing_else : (a : Bool) → a ≡ a || false
nothing_else true = refl
nothing_else false = refl

module _ (p : Project) where
  -- what it has by its device
  held_by_own : (id : ℕ) → Some id ≡ controller_of p → (q : Part) → is_held_of id q ≡ holds_writes p q
  held_by_own id is (part.Node n) = by (has_controller p) is
    where
      by : (t : Bool) → (let none : Option ℕ = None in Some id ≡ (if t then Some p.manager.id else none))
          → (n == id) ≡ t && (n == p.manager.id)
      by true is = let same : id ≡ p.manager.id = cc in ap (λ k. n == k) same
      by false is = cc
  held_by_own id is others = refl

  none_held : None ≡ controller_of p → (q : Part) → false ≡ holds_writes p q
  none_held is (part.Node n) = by (has_controller p) is
    where
      by : (t : Bool) → (let none : Option ℕ = None in none ≡ (if t then Some p.manager.id else none))
          → false ≡ t && (n == p.manager.id)
      by true is = cc
      by false is = refl
  none_held is others = refl

  pub own_marks : (old new : KeptParts) (id : ℕ) → Some id ≡ controller_of p → Marks (is_held_of id) old new
      → Marks (holds_writes p) old new
  own_marks old new id is m = same_marks (is_held_of id) (holds_writes p) old new (held_by_own id is) m

  pub no_own_marks : (k : KeptParts) → None ≡ controller_of p → Marks (holds_writes p) k k
  no_own_marks k is = same_marks (λ q. false) (holds_writes p) k k (none_held is) (no_marks k)

  -- parameters of a node that the manager runs in, or doesn't
  pub parameter_marks : (old middle new : KeptParts) (id : ℕ) → is_controller p id ≡ true → Marks (is_of_node id) old middle
      → Marks (is_held_of id) middle new → Marks (λ q. is_of_node id q || is_controller p id && is_held_of id q) old new
  parameter_marks old middle new id own x y =
      same_marks (λ q. is_of_node id q || is_held_of id q) (λ q. is_of_node id q || is_controller p id && is_held_of id q) old new
      (λ q. ap (λ t. is_of_node id q || t && is_held_of id q) (sym own))
      (both_marks (is_of_node id) (is_held_of id) old middle new x y)

  pub file_marks : (old new : KeptParts) (id : ℕ) → is_controller p id ≡ false → Marks (is_of_node id) old new
      → Marks (λ q. is_of_node id q || is_controller p id && is_held_of id q) old new
  file_marks old new id other m =
      same_marks (is_of_node id) (λ q. is_of_node id q || is_controller p id && is_held_of id q) old new
      (λ q. nothing_else (is_of_node id q) ∙ ap (λ t. is_of_node id q || t && is_held_of id q) (sym other)) m

  -- the number of the manager
  pub moved_marks : (old first second new : KeptParts) (id before : ℕ) → moves_controller p id ≡ true → before ≡ p.manager.id
      → Marks is_roster old first → Marks (is_of_network id) first second → Marks (is_held_of before) second new
      → Marks (is_of_manager p id) old new
  moved_marks old first second new id before moves is x y z =
      let both : Part → Bool = λ q. is_of_network id q || is_held_of before q in
      same_marks (λ q. is_roster q || both q) (is_of_manager p id) old new
      (λ q. ap (λ k. is_roster q || (is_of_network id q || is_held_of k q)) is
      ∙ ap (λ t. is_roster q || t && (is_of_network id q || is_held_of p.manager.id q)) (sym moves))
      (both_marks is_roster both old first new x (both_marks (is_of_network id) (is_held_of before) first second new y z))

  pub unmoved_marks : (old new : KeptParts) (id : ℕ) → moves_controller p id ≡ false → Marks is_roster old new
      → Marks (is_of_manager p id) old new
  unmoved_marks old new id stays m =
      same_marks is_roster (is_of_manager p id) old new
      (λ q. nothing_else (is_roster q)
      ∙ ap (λ t. is_roster q || t && (is_of_network id q || is_held_of p.manager.id q)) (sym stays)) m

-- ---- what is held after an edit

-- where the plan isn't touched, no device is
pub plan_below : (p : Project) (e : Edit) (name : List ℕ) → is_touched p e part.Plan ≡ false
    → is_touched p e (part.Device name) ≡ false
plan_below p (edit.Version version) name h = cc
plan_below p (edit.Bitrate rate) name h = refl
plan_below p (edit.Horizon time) name h = refl
plan_below p (edit.Manager m) name h = no_test (moves_controller p m.id)
plan_below p (edit.TimeStamps stamps) name h = refl
plan_below p (edit.SyncCounter n) name h = refl
plan_below p (edit.Eds other text) name h = cc
plan_below p (edit.DropEds other) name h = cc
plan_below p (edit.Node id node eds) name h = refl
plan_below p (edit.Need id mandatory) name h = refl
plan_below p (edit.DropNode id) name h = refl
plan_below p (edit.Param id index sub text) name h = no_test (is_controller p id)
plan_below p (edit.Unparam id index sub) name h = no_test (is_controller p id)
plan_below p (edit.Message message m) name h = refl
plan_below p (edit.Start message n) name h = refl
plan_below p (edit.DropMessage message) name h = refl
plan_below p (edit.Source message position index sub) name h = refl
plan_below p (edit.Unsource message position) name h = refl
plan_below p (edit.Sink message position node index sub) name h = refl
plan_below p (edit.Unsink message position node) name h = refl
plan_below p (edit.Receive message node rpdo event) name h = refl
plan_below p (edit.Unreceive message node) name h = refl
plan_below p (edit.Event number e) name h = refl
plan_below p (edit.DropEvent number) name h = refl

module _ (old new : KeptParts) where
  pub still_of : (asked : Part → Bool) (p : Project) → ((q : List ℕ) → asked part.Plan ≡ false
      → asked (part.Device q) ≡ false) → Marks asked old new → IsOf p old → IsOf p new
  unfolding IsOf
  still_of asked p apart m is = (
    λ q u. m.kept q ∙ is.0 q (m.unmarked q u).0,
    λ u. let was = m.unmarked part.Plan u in
        below (λ name. apart name was.1) (entries p.nodes) (is.1 was.0),
  )
    where
      below : ((name : List ℕ) → asked (part.Device name) ≡ false) → (es : List (ℕ × Node))
          → HaveNoMark old (map of_node es) → HaveNoMark new (map of_node es)
      below other [] all = All-nil (λ q. is_unmarked new q ≡ true)
      below other (e ∷ es) all =
          All-cons (λ q. is_unmarked new q ≡ true) (of_node e) (map of_node es)
          (m.others (of_node e) (other e.1.eds)
          (All-head (λ q. is_unmarked old q ≡ true) (of_node e) (map of_node es) all))
          (below other es (All-tail (λ q. is_unmarked old q ≡ true) (of_node e) (map of_node es) all))

  pub follows : (e : Edit) (p after : Project) → Marks (is_touched p e) old new → IsOf p old → accept p e ≡ Ok after
      → IsOf after new
  unfolding IsOf
  follows e p after m is taken = (
    λ q u. let was = m.unmarked q u in
        m.kept q ∙ is.0 q was.0 ∙ sym (frame p after e q taken was.1),
    λ u. let was = m.unmarked part.Plan u in
        subst (HaveNoMark new) (sym (ap of_nodes (sym (taken_as p after e taken)) ∙ nodes_left p e was.1))
        ((still_of (is_touched p e) p (λ name. plan_below p e name) m is).1 u),
  )
