-- What the files say is what the devices hold, at every moment of a run.
use Rattle.std.proofs.Common.{◌≡◌, ◌≢◌, ℕ, zero, suc, ◌<◌, ◌≤◌, Bool, true, false, List, [], ◌∷◌, ◌++◌, Option, None}
use Rattle.std.proofs.Common.{◌⊎◌, inl, inr, refl, sym, ap, ◌∙◌, subst, arith, length, All}
use Rattle.std.specs.Prelude.{if◌then◌else◌}
use Rattle.std.proofs.lemmas.List.{get_or_default}
use Rattle.std.proofs.lemmas.List.Elements.{All-head, All-tail}
use Rattle.network_laws.specs.Requests.{requests_to}
use Rattle.manager_nodes.specs.Table.{no_node, node_at}
use Rattle.manager_nodes.specs.declared.booting.Booting.{Booting}
use Rattle.bus_devices.specs.Places.{device_at}
use Rattle.can_bus.specs.Spans.{bus_at}
use Rattle.can_bus.specs.Bus.{Bus}
use Rattle.can_bus.specs.declared.slot.Slot.{Slot}
use Rattle.can_frame.specs.declared.waiting.Waiting.{Waiting}
use Rattle.co_device.specs.Device.{Device, without_power}
use Rattle.co_dict.specs.Values.{Values}
use Rattle.image_parts.specs.Contents.{Image, write_of}
use Rattle.image_parts.specs.Images.{IsImage}
use Rattle.image_parts.specs.declared.part.Part.TheVariants as part
use Rattle.image_parts.specs.declared.roster.Roster.{Roster}
use Rattle.network_laws.specs.Written.{Written}
use Rattle.network_laws.specs.Exchanges.{Exchanges, GivesBelow, HoldsBelow, IsAsStage, IsBooting, IsExchanging}
use Rattle.image_parts.specs.Configured.{Configures}
use Rattle.network_laws.specs.Files.{HasData, HasConfigured, IsExcepted, IsUp}
use Rattle.network_laws.specs.Marks.{MarkedEntries, after_writes, is_marking, is_write_of, marks_at, marked_after}
use Rattle.network_laws.proofs.GoodLemmas.{IsGood}
use Rattle.network_laws.proofs.MarkLemmas.{after_told, itself, told, told-append}
use Rattle.network_laws.proofs.RosterLemmas.{IsAt, stands_at}
use Rattle.network_laws.proofs.RunLemmas.{network, run_is_good}
use Rattle.node_boot.specs.declared.boot_stage.BootStage.{BootStage}
use Rattle.node_boot.specs.declared.boot_stage.BootStage.TheVariants.{Configured}

-- ---- all writes are those below the one that is absent

module _ (image : Image) (node : ℕ) (marks : ℕ × ℕ → Bool) (values : Values) (j : ℕ)
    (absent : write_of (image (part.Boot node j)) ≡ None) (below : HoldsBelow image node marks values j) where
  reached_below : (number : ℕ) → ((k : ℕ) → k ≤ number → write_of (image (part.Boot node k)) ≢ None) → number < j
  reached_below number reached = by (number_or number j)
    where
      number_or : (a b : ℕ) → (a < b) ⊎ (b ≤ a)
      number_or zero zero = inr (omega arith)
      number_or zero (suc b) = inl (omega arith)
      number_or (suc a) zero = inr (omega arith)
      number_or (suc a) (suc b) = elim (number_or a b) [
        | inl less ↦ inl (omega (arith, less))
        | inr more ↦ inr (omega (arith, more))
      ]

      by : (number < j) ⊎ (j ≤ number) → number < j
      by (inl less) = less
      by (inr more) = absurd (reached j more absent)

  gives_below : (place : ℕ × ℕ) (bytes : List ℕ) → Configures image node place bytes
      → GivesBelow image node j place bytes
  gives_below place bytes c = record {
    number = c.number;
    write = c.write;
    below = reached_below c.number c.is_reached;
    is_write = c.is_write;
    names = c.names;
    gives = c.gives;
    is_last = λ later other after before w.
        c.is_last later other after (λ k up. below.there k (omega (arith, up, before))) w;
  }

  held_below : (place : ℕ × ℕ) (bytes : List ℕ) → Configures image node place bytes
      → IsExcepted marks place ⊎ HasData values place bytes
  held_below place bytes c = below.holds place bytes (gives_below place bytes c)

module _ (image : Image) (node : ℕ) (marks : ℕ × ℕ → Bool) (d : Device) (stage : BootStage)
    (requests : List Waiting) (wire : Option Slot) (configured : stage ≡ Configured) where
  configured_holds : IsExchanging image node marks d stage requests wire → (place : ℕ × ℕ) (bytes : List ℕ)
      → Configures image node place bytes → IsExcepted marks place ⊎ HasData d.values place bytes
  configured_holds x place bytes c =
      let h = subst (λ (s : BootStage). IsAsStage image node marks d.values d.transfer s x.traffic) configured
      x.is_as_stage in
      held_below image node marks d.values h.1.0 h.1.1.0 h.1.1.1 place bytes c

-- ---- a bus

module _ (image : Image) (roster : Roster) (is : Rattle.image_parts.specs.Images.IsRoster roster) (marks : MarkedEntries)
    (s : Bus) (g : IsGood image roster marks s.devices s.manager s.wire) where
  module _ (node : ℕ) (d : Device) (configured : HasConfigured s node) (up : IsUp s node d) where
    i : ℕ
    i = up.listed.0

    within : up.listed.0 < length s.devices
    within = up.listed.1

    its_device : device_at s.devices up.listed.0 ≡ d
    its_device = get_or_default s.devices up.listed.0 (without_power false 0) d within ∙ up.listed.2

    at : IsAt roster s.devices s.manager up.listed.0 (device_at s.devices up.listed.0).number
    at = stands_at roster is s.devices s.manager s.wire g.sound up.listed.0 within

    its_number : (device_at s.devices up.listed.0).number ≡ node
    its_number = ap (λ (e : Device). e.number) its_device ∙ up.number

    its_booting : node_at s.manager.nodes configured.listed.0 ≡ configured.booting
    its_booting =
        get_or_default s.manager.nodes configured.listed.0 no_node configured.booting configured.listed.1
        ∙ configured.listed.2

    same_place : configured.listed.0 ≡ up.listed.0
    same_place =
        at.alone.alone configured.listed.0 configured.listed.1
        (ap (λ (b : Booting). b.number) its_booting ∙ configured.number ∙ sym its_number ∙ sym at.listed)

    its_stage : (node_at s.manager.nodes up.listed.0).stage ≡ Configured
    its_stage =
        ap (λ (k : ℕ). (node_at s.manager.nodes k).stage) (sym same_place)
        ∙ ap (λ (b : Booting). b.stage) its_booting ∙ configured.stage

    exchange : Exchanges image node (marks node) d (node_at s.manager.nodes up.listed.0).stage
        (requests_to node s.manager.waiting) s.wire
    exchange =
        subst (λ (e : Device). Exchanges image node (marks node) e (node_at s.manager.nodes up.listed.0).stage
        (requests_to node s.manager.waiting) s.wire) its_device
        (subst (λ (n : ℕ). Exchanges image n (marks n) (device_at s.devices up.listed.0)
        (node_at s.manager.nodes up.listed.0).stage (requests_to n s.manager.waiting) s.wire) its_number
        (g.exchanges up.listed.0 within))

    bus_matches : (place : ℕ × ℕ) (bytes : List ℕ) → Configures image node place bytes
        → IsExcepted (marks node) place ⊎ HasData d.values place bytes
    bus_matches place bytes c = by (exchange up.has_power up.none_waits)
      where
        by : IsBooting node d s.wire
            ⊎ IsExchanging image node (marks node) d (node_at s.manager.nodes up.listed.0).stage
            (requests_to node s.manager.waiting) s.wire
            → IsExcepted (marks node) place ⊎ HasData d.values place bytes
        by (inl b) = absurd (up.none_on_wire b.boot_up)
        by (inr x) =
            configured_holds image node (marks node) d (node_at s.manager.nodes up.listed.0).stage
            (requests_to node s.manager.waiting) s.wire its_stage x place bytes c

-- ---- the laws

pub files_match : (image : Image) → IsImage image → (t node : ℕ) (d : Device)
    → HasConfigured (bus_at image t) node → IsUp (bus_at image t) node d
    → (place : ℕ × ℕ) (bytes : List ℕ) → Configures image node place bytes
    → IsExcepted (marks_at image t node) place ⊎ HasData d.values place bytes
files_match image is t node d configured up place bytes c =
    bus_matches image (network image is) is.roster (marks_at image t) (bus_at image t) (run_is_good image is t) node d
    configured up place bytes c

pub all_exchange : (image : Image) → IsImage image → (t i : ℕ) → i < length (bus_at image t).devices
    → Exchanges image (device_at (bus_at image t).devices i).number
    (marks_at image t (device_at (bus_at image t).devices i).number) (device_at (bus_at image t).devices i)
    (node_at (bus_at image t).manager.nodes i).stage
    (requests_to (device_at (bus_at image t).devices i).number (bus_at image t).manager.waiting) (bus_at image t).wire
all_exchange image is t i within = (run_is_good image is t).exchanges i within

pub same_numbers : (image : Image) → IsImage image → (t i : ℕ) → i < length (bus_at image t).devices
    → (node_at (bus_at image t).manager.nodes i).number ≡ (device_at (bus_at image t).devices i).number
same_numbers image is t i within =
    (stands_at (network image is) is.roster (bus_at image t).devices (bus_at image t).manager (bus_at image t).wire
    (run_is_good image is t).sound i within).listed

-- ---- marks

module _ (node : ℕ) (place : ℕ × ℕ) where
  untouched : (writes : List Written) → All (λ w. is_write_of w node place ≡ false) writes → (before : Bool)
      → told before writes node place ≡ before
  untouched [] h before = refl
  untouched (w ∷ writes) h before =
      untouched writes (All-tail (λ (v : Written). is_write_of v node place ≡ false) w writes h)
      (marked_after w node place before)
      ∙ by (is_write_of w node place) (All-head (λ (v : Written). is_write_of v node place ≡ false) w writes h)
    where
      by : (b : Bool) → b ≡ false
          → (if b then is_marking w.by else before) ≡ before
      by true e = absurd cc
      by false e = refl

  pub none_marks : (marks : MarkedEntries) (writes : List Written) → All (λ w. is_write_of w node place ≡ false) writes
      → after_writes marks writes node place ≡ marks node place
  none_marks marks writes h = after_told marks writes node place ∙ untouched writes h (marks node place)

  pub last_marks : (marks : MarkedEntries) (before later : List Written) (w : Written) → w.node ≡ node → w.place ≡ place
      → All (λ v. is_write_of v node place ≡ false) later
      → after_writes marks (before ++ w ∷ later) node place ≡ is_marking w.by
  last_marks marks before later w e f h =
      after_told marks (before ++ w ∷ later) node place
      ∙ told-append (marks node place) before (w ∷ later) node place
      ∙ untouched later h (marked_after w node place (told (marks node place) before node place))
      ∙ itself node place w (told (marks node place) before node place) e f
