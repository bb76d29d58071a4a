-- What is held after a refresh, and where nothing is kept.
use Rattle.std.proofs.Common.{◌≡◌, ◌∙◌, ℕ, Bool, true, false, ◌||◌, if◌then◌else◌, List, [], ◌∷◌, ◌++◌, refl, ap}
use Rattle.std.specs.Cmp.{tied_itself}
use Rattle.std.specs.List.{list_any}
use Rattle.std.specs.FinMap.{empty, get-empty}
use Rattle.std.specs.Option.{option_map_or}
use Rattle.std.specs.Ordering.{is_eq}
use Rattle.std.proofs.lemmas.Bool.{eq-eqb}
use Rattle.std.proofs.lemmas.Cmp.{nat_list_cmp_total}
use Rattle.std.proofs.lemmas.List.Folds.{list_any-append}
use Rattle.project_messages.specs.Messages.{name_cmp}
use Rattle.co_project.specs.Project.{Content as Project}
use Rattle.kept_values.specs.Shelved.{is_fresh}
use Rattle.kept_values.specs.Stale.{AreBrought}
use Rattle.kept_values.specs.Work.{Work}
use Rattle.project_parts.specs.Given.{inputs_of, same_part}
use Rattle.project_parts.specs.Reached.{for_own, for_plan, for_writes, of_nodes, own_device, parts_for}
use Rattle.kept_parts.specs.Kept.{is_unmarked, kept_inputs, IsOf}
use Rattle.part_shelves.specs.Slots.{fresh_at, Slots}
use Rattle.part_shelves.specs.declared.device_slot.DeviceSlot.{DeviceSlot}
use Rattle.project_parts.specs.declared.part.Part.{Part}
use Rattle.project_parts.specs.declared.part.Part.TheVariants as part
use Rattle.kept_parts.specs.declared.kept_parts.KeptParts.{KeptParts}

-- the last is among all
any_last : {N : Type 0} (same : N → N → Bool) (ps : List N) (q : N) → same q q ≡ true
    → list_any (same q) (ps ++ q ∷ []) ≡ true
any_last same ps q itself =
    list_any-append (same q) ps (q ∷ []) ∙ ap (λ t. list_any (same q) ps || (t || false)) itself
    ∙ or_one (list_any (same q) ps)
  where
    or_one : (t : Bool) → (t || true) ≡ true
    or_one true = refl
    or_one false = refl

pub itself : (q : Part) → same_part q q ≡ true
itself (part.Device name) = ap is_eq (tied_itself nat_list_cmp_total name)
itself part.Plan = refl
itself (part.Writes n) = eq-eqb n n refl
itself (part.Concise n) = eq-eqb n n refl
itself (part.Dcf n) = eq-eqb n n refl
itself part.Roster = refl
itself (part.Node n) = eq-eqb n n refl
itself (part.Window i) = eq-eqb i i refl
itself part.Diagnostics = refl

module _ (p : Project) where
  last : (ps : List Part) (q : Part) → list_any (same_part q) (ps ++ q ∷ []) ≡ true
  last ps q = any_last same_part ps q (itself q)

  -- a part is among those that are reached for it
  pub reaches : (q : Part) → list_any (same_part q) (parts_for p q) ≡ true
  reaches (part.Device name) = last [] (part.Device name)
  reaches part.Plan = last (of_nodes p) part.Plan
  reaches (part.Writes n) = last (for_plan p ++ own_device p n) (part.Writes n)
  reaches (part.Concise n) = last (for_writes p n) (part.Concise n)
  reaches (part.Dcf n) = last (for_writes p n) (part.Dcf n)
  reaches part.Roster = refl
  reaches (part.Node n) = last (for_own p n ++ own_device p n) (part.Node n)
  reaches (part.Window i) = last (of_nodes p) (part.Window i)
  reaches part.Diagnostics = last (for_plan p) part.Diagnostics

  -- a part that was brought is held as it is to be made now
  pub is_current : (ps : List Part) (a b : KeptParts) (m n : Work)
      → AreBrought same_part (inputs_of p) ps (kept_inputs a) (kept_inputs b) m n → (q : Part) → list_any (same_part q) ps ≡ true
      → kept_inputs b q ≡ inputs_of p q
  is_current ps a b m n brought q there =
      ap (λ f. f q) brought.settled_is ∙ ap (λ t. if t then inputs_of p q else kept_inputs a q) there

-- where each part has a mark
module _ (h : KeptParts) (d : h.devices ≡ empty) (pl : h.plan.fresh ≡ false)
    (w : (q : ℕ) → is_fresh h.writes q ≡ false) (c : (q : ℕ) → is_fresh h.concise q ≡ false)
    (f : (q : ℕ) → is_fresh h.dcf q ≡ false) (r : h.roster.fresh ≡ false)
    (n : (q : ℕ) → is_fresh h.nodes q ≡ false) (s : (q : ℕ) → is_fresh h.windows q ≡ false)
    (wrong : h.found.fresh ≡ false) where
  none_fresh : (q : Part) → is_unmarked h q ≡ false
  none_fresh (part.Device e) =
      ap (λ (s : Slots). fresh_at s e) d
      ∙ ap (λ o. option_map_or (λ (s : DeviceSlot). s.fresh) o false) (get-empty name_cmp e)
  none_fresh part.Plan = pl
  none_fresh (part.Writes id) = w id
  none_fresh (part.Concise id) = c id
  none_fresh (part.Dcf id) = f id
  none_fresh part.Roster = r
  none_fresh (part.Node id) = n id
  none_fresh (part.Window i) = s i
  none_fresh part.Diagnostics = wrong

  pub all_marked : (p : Project) → IsOf p h
  unfolding IsOf
  all_marked p = (
    λ q u. let none : is_unmarked h q ≡ false = none_fresh q in cc,
    λ u. cc,
  )
