-- The image of each project is one, and coherent.
use Rattle.std.proofs.Common.{◌≡◌, ℕ, ◌<◌, Bool, true, false, cond, List, [], ◌∷◌, All, Option, Some, None, IfSome, option_map, option_and_then, refl, sym, ◌∙◌}
use Rattle.std.proofs.Common.{ap, slice_get, subst}
use Rattle.std.specs.Prelude.{if◌then◌else◌}
use Rattle.std.specs.FinMap.{FinMap, get, get-empty, get-insert, get-remove, insert, remove}
use Rattle.std.specs.List.{AllByRecursion}
use Rattle.std.specs.Ordering.{eq_by_cmp}
use Rattle.std.proofs.lemmas.List.Elements.{All-head, All-tail, All-weaker}
use Rattle.base.proofs.TableLemmas.{alike}
use Rattle.co_dict.specs.Places.{place_cmp}
use Rattle.co_dict.specs.Values.{HasLength, HoldEach, Values}
use Rattle.co_dict.specs.declared.entry.Entry.{Entry}
use Rattle.co_dict.proofs.PlaceLemmas.{places_exact, places_total}
use Rattle.co_values.specs.Types.{is_modelled}
use Rattle.eds_device.specs.Entries.{defaults_of, shape_of}
use Rattle.eds_device.proofs.LawLemmas.{shape_at, values_have_lengths}
use Rattle.pdo_links.specs.Writes.{node_writes}
use Rattle.project_edits.specs.Versions.{is_three}
use Rattle.project_plan.specs.Controller.{defaults_held, own_writes, producer_time, shape_held}
use Rattle.project_plan.specs.Network.{member_at, plan_of_project, writes_of, Member}
use Rattle.project_plan.specs.Values.{after_writes}
use Rattle.project_plan.proofs.NetworkLemmas.{made_for_member}
use Rattle.co_project.specs.Project.{Content as Project, is_controller}
use Rattle.co_project.specs.Sound.{IsSound}
use Rattle.image_parts.specs.Contents.{DefaultsAre, ShapeIs, shape_of as shape_in, values_of as values_in}
use Rattle.image_parts.specs.Images.{AreInOrder, FitsShape, greatest_place, IsCoherent, IsImage}
use Rattle.concise_dcf.specs.Writes.{IsSized, place_of}
use Rattle.concise_dcf.specs.declared.write.Write.{Write}
use Rattle.image_parts.specs.Images.{IsWithin}
use Rattle.project_plan.specs.Events.{shape_of_node}
use Rattle.network_image.specs.Image.{defaults_of_node, image_of, window_steps, write_of_node}
use Rattle.network_image.proofs.CountLemmas.{writes_countable, writes_fit}
use Rattle.network_image.proofs.LengthLemmas.{writes_have_lengths, FitsEntry}
use Rattle.network_image.proofs.PointerLemmas.{all_at, place_below}
use Rattle.network_image.proofs.RosterLemmas.{is_roster}
use Rattle.network_image.proofs.StepLemmas.{steps_fit, steps_in_order, steps_said, steps_within}

-- each write has data of 1 to 512 bytes
write_fits : (p : Project) → IsSound p → (node place : ℕ) → IfSome (write_of_node p node place) IsSized
unfolding write_of_node
write_fits p sound node place = by (member_at p node)
  where
    by : (o : Option Member)
        → IfSome (option_and_then (λ (m : Member). slice_get (writes_of p m node) place) o) IsSized
    by None = tt
    by (Some m) = all_at IsSized (writes_of p m node) place (writes_fit p sound node m)

-- and its number is below the greatest
write_ends : (p : Project) → IsSound p
    → (node place : ℕ) → IfSome (write_of_node p node place) (λ write. place < greatest_place)
unfolding write_of_node
write_ends p sound node place = by (member_at p node) refl
  where
    by : (o : Option Member) → member_at p node ≡ o
        → IfSome (option_and_then (λ (m : Member). slice_get (writes_of p m node) place) o)
        (λ write. place < greatest_place)
    by None is = tt
    by (Some m) is = place_below (writes_of p m node) place greatest_place (writes_countable p sound node m is)

-- an entry has a value of its type's length
abbrev HasOne : Entry → Option (List ℕ) → Type 0
HasOne entry o = (bytes : List ℕ) × ((o ≡ Some bytes) × HasLength entry.kind bytes)

module _ (entries : FinMap place_cmp Entry) where
  abbrev FitsEntryOf : Write → Type 0
  FitsEntryOf w = (entry : Entry) → get entries (place_of w) ≡ Some entry → is_modelled entry.kind ≡ true
      → HasLength entry.kind w.bytes

  -- so it is once data of the lengths of their entries' types are written
  still_held : (ws : List Write) (values : Values) → All FitsEntryOf ws → HoldEach entries values
      → HoldEach entries (after_writes values ws)
  still_held [] values fit held = held
  still_held (w ∷ ws) values fit held =
      still_held ws (insert values (place_of w) w.bytes) (All-tail FitsEntryOf w ws fit) now
    where
      now : HoldEach entries (insert values (place_of w) w.bytes)
      now place entry there modelled =
          subst (HasOne entry) (sym (get-insert places_total values (place_of w) w.bytes place))
          (by (eq_by_cmp place_cmp place (place_of w)) refl)
        where
          by : (t : Bool) → eq_by_cmp place_cmp place (place_of w) ≡ t
              → HasOne entry (cond t (Some w.bytes) (get values place))
          by true same = (
            w.bytes,
            (
              refl,
              All-head FitsEntryOf w ws fit entry
                  (ap (get entries) (sym (alike places_total places_exact place (place_of w) same)) ∙ there) modelled,
            ),
          )
          by false other = held place entry there modelled

  -- and without one of them
  held_without : (values : Values) (k : ℕ × ℕ) → HoldEach entries values → HoldEach (remove entries k) (remove values k)
  held_without values k held place entry there modelled =
      subst (HasOne entry) (sym (get-remove places_total values k place))
      (by (eq_by_cmp place_cmp place k) (sym (get-remove places_total entries k place) ∙ there))
    where
      by : (t : Bool) → cond t None (get entries place) ≡ Some entry → HasOne entry (cond t None (get values place))
      by true none = cc
      by false there = held place entry there modelled

-- a node's defaults have, for each modelled entry of its shape, a value of its type's length
module _ (p : Project) (node : ℕ) where
  -- its writes fit its entries
  writes_fit_shape : (m : Member) → member_at p node ≡ Some m
      → All (FitsEntryOf (shape_of m.sheet node).entries) (writes_of p m node)
  unfolding writes_of
  writes_fit_shape m is =
      All-weaker (FitsEntry m.sheet node) (FitsEntryOf (shape_of m.sheet node).entries)
      (λ w fits entry there modelled. fits entry (sym (shape_at m.sheet node w.index w.sub) ∙ there) modelled)
      (node_writes (is_three p.version) (plan_of_project p) m.node.params m.sheet node)
      (writes_have_lengths m.sheet node (is_three p.version) (plan_of_project p) m.node.params
      (λ old. made_for_member p node m old is))

  member_holds : (m : Member) → member_at p node ≡ Some m → (t : Bool)
      → (let own : Option (List Write) = if t then Some (writes_of p m node) else None
      in HoldEach (shape_held t (shape_of m.sheet node)).entries (defaults_held own (defaults_of m.sheet node)))
  member_holds m is true =
      held_without (shape_of m.sheet node).entries
      (after_writes (defaults_of m.sheet node) (writes_of p m node)) producer_time
      (still_held (shape_of m.sheet node).entries (writes_of p m node) (defaults_of m.sheet node) (writes_fit_shape m is)
      (values_have_lengths m.sheet node))
  member_holds m is false = values_have_lengths m.sheet node

  defaults_hold : HoldEach (shape_in (ShapeIs (shape_of_node p node))).entries
      (values_in (DefaultsAre (defaults_of_node p node)))
  unfolding shape_of_node defaults_of_node
  defaults_hold = by (member_at p node) refl
    where
      by : (o : Option Member) → member_at p node ≡ o
          → HoldEach
          (shape_in (ShapeIs (option_map (λ (m : Member). shape_held (is_controller p node) (shape_of m.sheet node)) o))).entries
          (values_in (DefaultsAre (option_map (λ (m : Member).
          defaults_held (own_writes p node (writes_of p m node)) (defaults_of m.sheet node)) o)))
      by None is = λ place entry there modelled. cc (sym (get-empty place_cmp place) ∙ there)
      by (Some m) is = member_holds m is (is_controller p node)

-- what holds of every image holds of that of a project
pub is_image : (p : Project) → IsSound p → IsImage (image_of p)
unfolding window_steps
is_image p sound = record {
  roster = is_roster p sound;
  writes = write_fits p sound;
  last = write_ends p sound;
  within = λ i. steps_said (AllByRecursion (IsWithin i)) tt (window_steps p i)
      (steps_within (shape_of_node p) p sound i);
  ordered = λ i. steps_said AreInOrder tt (window_steps p i) (steps_in_order (shape_of_node p) p.events i);
}

pub coherent : (p : Project) → IsCoherent (image_of p)
unfolding window_steps
coherent p = record {
  defaults = defaults_hold p;
  steps = λ i. steps_said (AllByRecursion (FitsShape (image_of p))) tt (window_steps p i) (steps_fit p i);
}
