-- The device that the manager runs in holds its writes.
use Rattle.std.proofs.Common.{◌≡◌, ◌≢◌, ◌∙◌, ℕ, zero, suc, ◌<◌, ◌≤◌, true, Bool, List, [], ◌∷◌, Option, Some, None}
use Rattle.std.proofs.Common.{option_map, option_and_then, refl, sym, ap, arith, slice_get}
use Rattle.std.specs.Prelude.{if◌then◌else◌}
use Rattle.std.specs.FinMap.{empty, get, get-empty, insert, remove}
use Rattle.base.proofs.TableLemmas.{put_elsewhere, put_there, removed_elsewhere, removed_there}
use Rattle.co_dict.specs.Places.{place_cmp}
use Rattle.co_dict.specs.Shapes.{Shaped}
use Rattle.co_dict.specs.Values.{Values}
use Rattle.co_dict.proofs.PlaceLemmas.{places_exact, places_total}
use Rattle.co_project.specs.Project.{is_controller, Content as Project}
use Rattle.concise_dcf.specs.Writes.{place_of}
use Rattle.concise_dcf.specs.declared.write.Write.{Write}
use Rattle.eds_device.specs.Entries.{defaults_of, shape_of}
use Rattle.image_parts.specs.Contents.{DefaultsAre, ShapeIs, shape_of as shape_in, values_of}
use Rattle.image_parts.specs.Configured.{HoldsItsWrites, Configures}
use Rattle.project_plan.specs.Controller.{defaults_held, own_writes, producer_time, shape_held}
use Rattle.project_plan.specs.Events.{shape_of_node}
use Rattle.project_plan.specs.Network.{member_at, writes_of, Member}
use Rattle.project_plan.specs.Values.{after_writes}
use Rattle.network_image.specs.Image.{defaults_of_node, image_of, write_of_node}

-- ---- writes one after another

-- an entry that none of them names
none_names : (values : Values) (ws : List Write) (place : ℕ × ℕ)
    → ((k : ℕ) (w : Write) → slice_get ws k ≡ Some w → place_of w ≢ place)
    → get (after_writes values ws) place ≡ get values place
none_names values [] place none = refl
none_names values (w ∷ ws) place none =
    none_names (insert values (place_of w) w.bytes) ws place (λ k x there. none (suc k) x there)
    ∙ put_elsewhere places_total places_exact values (place_of w) place w.bytes (λ same. none 0 w refl (sym same))

-- one has the data of the last of them that names it
last_counts : (values : Values) (ws : List Write) (number : ℕ) (w : Write) → slice_get ws number ≡ Some w
    → ((later : ℕ) (other : Write) → number < later → slice_get ws later ≡ Some other → place_of other ≢ place_of w)
    → get (after_writes values ws) (place_of w) ≡ Some w.bytes
last_counts values [] number w there last = cc
last_counts values (x ∷ ws) zero w there last =
    let same : x ≡ w = cc in
    none_names (insert values (place_of x) x.bytes) ws (place_of w) (λ k other later. last (suc k) other (omega arith) later)
    ∙ ap (λ (y : Write). get (insert values (place_of y) y.bytes) (place_of w)) same
    ∙ put_there places_total places_exact values (place_of w) w.bytes
last_counts values (x ∷ ws) (suc n) w there last =
    last_counts (insert values (place_of x) x.bytes) ws n w there
    (λ later other after is. last (suc later) other (omega (arith, after)) is)

-- before a write there is none that is absent
all_before : (ws : List Write) (later : ℕ) (w : Write) → slice_get ws later ≡ Some w → (k : ℕ) → k ≤ later
    → slice_get ws k ≢ None
all_before [] later w there k le = cc
all_before (x ∷ ws) later w there zero le = λ none. cc
all_before (x ∷ ws) zero w there (suc k) le = absurd (omega (arith, le))
all_before (x ∷ ws) (suc later) w there (suc k) le = all_before ws later w there k (omega (arith, le))

-- ---- the image

module _ (p : Project) (node : ℕ) (own : is_controller p node ≡ true) where
  abbrev defaults_by : Member → Values
  defaults_by m = defaults_held (own_writes p node (writes_of p m node)) (defaults_of m.sheet node)

  abbrev shape_by : Member → Shaped
  shape_by m = shape_held (is_controller p node) (shape_of m.sheet node)

  -- its writes over its defaults, but for one
  values_are : (m : Member)
      → defaults_by m ≡ remove (after_writes (defaults_of m.sheet node) (writes_of p m node)) producer_time
  values_are m = ap (λ (t : Bool). let others : Option (List Write) = if t then Some (writes_of p m node) else None
      in defaults_held others (defaults_of m.sheet node)) own

  module _ (place : ℕ × ℕ) (bytes : List ℕ) (other : place ≢ producer_time) where
    by_member : (o : Option Member) → member_at p node ≡ o → Configures (image_of p) node place bytes
        → get (values_of (DefaultsAre (option_map defaults_by o))) place ≡ Some bytes
    unfolding write_of_node
    by_member None none given =
        let absent : option_and_then (λ (m : Member). slice_get (writes_of p m node) given.number) (member_at p node)
        ≡ None = ap (option_and_then (λ (m : Member). slice_get (writes_of p m node) given.number)) none in
        cc (sym absent ∙ given.is_write)
    by_member (Some m) is given =
        let ws : List Write = writes_of p m node in
        let written : (k : ℕ) → write_of_node p node k ≡ slice_get ws k =
        λ k. ap (option_and_then (λ (m : Member). slice_get (writes_of p m node) k)) is in
        ap (λ (values : Values). get values place) (values_are m)
        ∙ removed_elsewhere places_total places_exact (after_writes (defaults_of m.sheet node) ws) producer_time place other
        ∙ ap (get (after_writes (defaults_of m.sheet node) ws)) (sym given.names)
        ∙ last_counts (defaults_of m.sheet node) ws given.number given.write (sym (written given.number) ∙ given.is_write)
        (λ later w after there same. given.is_last later w after
        (λ k le none. all_before ws later w there k le (sym (written k) ∙ none))
        (written later ∙ there) (same ∙ given.names))
        ∙ ap Some given.gives

  no_value : (o : Option Member) → get (values_of (DefaultsAre (option_map defaults_by o))) producer_time ≡ None
  no_value None = get-empty place_cmp producer_time
  no_value (Some m) =
      ap (λ (values : Values). get values producer_time) (values_are m)
      ∙ removed_there places_total places_exact (after_writes (defaults_of m.sheet node) (writes_of p m node)) producer_time

  no_entry : (o : Option Member) → get (shape_in (ShapeIs (option_map shape_by o))).entries producer_time ≡ None
  no_entry None = get-empty place_cmp producer_time
  no_entry (Some m) =
      ap (λ (t : Bool). get (shape_held t (shape_of m.sheet node)).entries producer_time) own
      ∙ removed_there places_total places_exact (shape_of m.sheet node).entries producer_time

  pub holds_its_writes : HoldsItsWrites (image_of p) node
  unfolding defaults_of_node shape_of_node
  holds_its_writes = record {
    written = λ place bytes other given. by_member place bytes other (member_at p node) refl given;
    no_time = no_value (member_at p node);
    no_entry = no_entry (member_at p node);
  }
