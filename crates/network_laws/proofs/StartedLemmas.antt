-- The start of the network as a whole, at each moment of a run.
use Rattle.std.proofs.Common.{◌≡◌, ℕ, zero, suc, ◌+◌, Bool, true, false, List, [], ◌∷◌, map, Option, Some, None}
use Rattle.std.proofs.Common.{◌⊎◌, inl, inr, refl, sym, ◌∙◌, subst, arith}
use Rattle.std.specs.Prelude.{◌==◌, ◌&&◌, ◌||◌, not, if◌then◌else◌}
use Rattle.image_parts.specs.Asking.{Answer, outcome}
use Rattle.manager_nodes.specs.Table.{all_configured, has_booted, is_configured, node_after}
use Rattle.manager_nodes.specs.declared.booting.Booting.{Booting}
use Rattle.can_frame.specs.Frames.{BaseFrame}
use Rattle.can_frame.specs.Senders.{manager_sender}
use Rattle.image_parts.specs.Contents.{Image, roster_of}
use Rattle.image_parts.specs.declared.part.Part.TheVariants.{Roster}
use Rattle.image_parts.specs.declared.roster.Roster.{Roster as Network}
use Rattle.image_parts.specs.declared.start_mode.StartMode.TheVariants.{EachNode}
use Rattle.node_boot.specs.declared.boot_stage.BootStage.{BootStage}
use Rattle.node_boot.specs.declared.boot_stage.BootStage.TheVariants.{Unseen, Comparing, Writing, Configured, Failed, Own}
use Rattle.node_boot.specs.declared.note_kind.NoteKind.{NoteKind}
use Rattle.node_boot.specs.declared.note_kind.NoteKind.TheVariants as kind
use Rattle.nmt_boot.proofs.FrameLemmas.{received_holds}
use Rattle.nmt_boot.specs.Manager.{Manager, after_frame, manager_at_power_on, time_outs, timers}
use Rattle.nmt_boot.specs.Startup.{Startup, by_mode, startup_after, startup_of_configured}
use Rattle.can_bus.specs.Bus.{Bus, ended_slot, instant, manager_after_slot, power_on}
use Rattle.can_bus.specs.declared.slot.Slot.{Slot}
use Rattle.can_bus.proofs.PowerLemmas.{outcome_power_on_of}
use Rattle.can_bus.specs.Spans.{bus_at}
use Rattle.can_bus.proofs.SpanLemmas.{at_each_moment, bus_next}
use Rattle.network_laws.proofs.ThroughLemmas.{hears_keeps, manager_through}

-- ---- what a frame does to the start: nothing, or what a node that is configured does

by_note : (s : Startup) (nodes : List Booting) (note : Option NoteKind) (P : Startup → List Booting → Type 0)
    → P s nodes → P (startup_of_configured s nodes) nodes → P (startup_after s nodes note) nodes
by_note s nodes None P stays turns = stays
by_note s nodes (Some kind.Lost) P stays turns = stays
by_note s nodes (Some kind.Configured) P stays turns = turns
by_note s nodes (Some kind.Difference) P stays turns = stays
by_note s nodes (Some (kind.Aborted abort)) P stays turns = stays
by_note s nodes (Some kind.TimedOut) P stays turns = stays

module _ (image : Image) (t : ℕ) (frame : BaseFrame) (m : Manager) (P : Startup → List Booting → Type 0)
    (stays : (nodes : List Booting) → P m.startup nodes)
    (turns : (nodes : List Booting) → P (startup_of_configured m.startup nodes) nodes) where
  abbrev Holds : Manager → Type 0
  Holds r = P r.startup r.nodes

  frame_holds : Holds (outcome (after_frame t frame m) image).0
  frame_holds = received_holds image t frame m (λ r read. Holds r.0) (stays m.nodes)
      (λ i e o. stays m.nodes)
      (λ i e o. by_note m.startup _ _ P (stays _) (turns _)) (λ i e. by_note m.startup _ _ P (stays _) (turns _))

-- ---- the timers

module _ (P : Startup → List Booting → Type 0) where
  abbrev Has : Manager → Type 0
  Has m = P m.startup m.nodes

  timers_have : (t : ℕ) (m : Manager) → P m.startup (map (node_after t) m.nodes) → Has (timers t m).0
  unfolding timers time_outs
  timers_have t m h = h

-- ---- the network stays started

abbrev IsStarted : Manager → Type 0
IsStarted m = m.startup.is_started ≡ true

turned_stays : (s : Startup) (nodes : List Booting) → s.is_started ≡ true
    → (startup_of_configured s nodes).is_started ≡ true
unfolding startup_of_configured
turned_stays s nodes e = rw e refl

started_next : (image : Image) (t : ℕ) (s : Bus) → IsStarted s.manager
    → IsStarted (outcome (instant t s) image).0.manager
started_next image t s h =
    manager_through image t s IsStarted IsStarted IsStarted
    (λ c node m k. k)
    (hears_keeps image t IsStarted (λ slot m k. frame_holds image t slot.frame m (λ st nodes. st.is_started ≡ true)
    (λ nodes. k) (λ nodes. turned_stays m.startup nodes k)) (ended_slot t s.wire))
    (λ m k. timers_have (λ st nodes. st.is_started ≡ true) t m k)
    (λ m place k. k)
    h

pub stays_started : (image : Image) (t more : ℕ) → IsStarted (bus_at image t).manager
    → IsStarted (bus_at image (t + more)).manager
stays_started image t zero h = subst (λ (u : ℕ). IsStarted (bus_at image u).manager) (one_way t) h
  where
    one_way : (u : ℕ) → u ≡ u + 0
    one_way u = omega arith
stays_started image t (suc more) h =
    let next : t + suc more ≡ t + more + 1 = omega arith in
    rw (next, bus_next image (t + more))
    (started_next image (t + more) (bus_at image (t + more)) (stays_started image t more h))

-- ---- it is never started where each node is started by itself

not_turned : (s : Startup) (nodes : List Booting) → s.mode ≡ EachNode → s.is_started ≡ false
    → (startup_of_configured s nodes).is_started ≡ false
unfolding startup_of_configured
not_turned s nodes e f = rw (e, f) refl

mode_stays : (s : Startup) (nodes : List Booting) → (startup_of_configured s nodes).mode ≡ s.mode
unfolding startup_of_configured
mode_stays s nodes = refl

mandatory_stay : (s : Startup) (nodes : List Booting) → (startup_of_configured s nodes).mandatory ≡ s.mandatory
unfolding startup_of_configured
mandatory_stay s nodes = refl

abbrev ByItself : Startup → List Booting → Type 0
ByItself s nodes = (s.mode ≡ EachNode) × (s.is_started ≡ false)

abbrev IsEach : Manager → Type 0
IsEach m = ByItself m.startup m.nodes

each_next : (image : Image) (t : ℕ) (s : Bus) → IsEach s.manager → IsEach (outcome (instant t s) image).0.manager
each_next image t s h =
    manager_through image t s IsEach IsEach IsEach
    (λ c node m k. k)
    (hears_keeps image t IsEach (λ slot m k. frame_holds image t slot.frame m ByItself (λ nodes. k)
    (λ nodes. (mode_stays m.startup nodes ∙ k.0, not_turned m.startup nodes k.0 k.1))) (ended_slot t s.wire))
    (λ m k. timers_have ByItself t m k)
    (λ m place k. k)
    h

each_on : (image : Image) → (roster_of (image Roster)).start_mode ≡ EachNode → IsEach (outcome power_on image).manager
unfolding power_on manager_at_power_on
each_on image e = rw (outcome_power_on_of (roster_of (image Roster)) image) (e, refl)

pub never_started : (image : Image) (t : ℕ) → (roster_of (image Roster)).start_mode ≡ EachNode
    → (bus_at image t).manager.startup.is_started ≡ false
never_started image t e = (at_each_moment image (λ u s. IsEach s.manager) (each_on image e) (each_next image) t).1

-- ---- the mandatory nodes are those of the roster

abbrev HasMandatory : Network → Startup → List Booting → Type 0
HasMandatory network s nodes = s.mandatory ≡ network.mandatory

module _ (network : Network) where
  abbrev Mandatory : Manager → Type 0
  Mandatory m = HasMandatory network m.startup m.nodes

  mandatory_next : (image : Image) (t : ℕ) (s : Bus) → Mandatory s.manager
      → Mandatory (outcome (instant t s) image).0.manager
  mandatory_next image t s h =
      manager_through image t s Mandatory Mandatory Mandatory
      (λ c node m k. k)
      (hears_keeps image t Mandatory (λ slot m k. frame_holds image t slot.frame m (HasMandatory network) (λ nodes. k)
      (λ nodes. mandatory_stay m.startup nodes ∙ k)) (ended_slot t s.wire))
      (λ m k. timers_have (HasMandatory network) t m k)
      (λ m place k. k)
      h

mandatory_on : (image : Image) → Mandatory (roster_of (image Roster)) (outcome power_on image).manager
unfolding power_on manager_at_power_on
mandatory_on image = rw (outcome_power_on_of (roster_of (image Roster)) image) refl

mandatory_at : (image : Image) (t : ℕ) → Mandatory (roster_of (image Roster)) (bus_at image t).manager
mandatory_at image t = at_each_moment image (λ u s. Mandatory (roster_of (image Roster)) s.manager) (mandatory_on image)
    (mandatory_next (roster_of (image Roster)) image) t

-- ---- it is started with each mandatory node configured

not_both : (b : Bool) → (b && false) ≡ true → ⊥
not_both true e = cc
not_both false e = cc

abbrev Passes : ℕ → Booting → Type 0
Passes number node = ((node.number == number) && has_booted node.stage) ≡ true

-- a node that is configured doesn't time out
booted_stays : (t number n : ℕ) (stage : BootStage) → Passes number (record { number = n; stage = stage })
    → Passes number (node_after t (record { number = n; stage = stage }))
booted_stays t number n Unseen e = absurd (not_both (n == number) e)
booted_stays t number n (Comparing place expected transfer deadline) e = absurd (not_both (n == number) e)
booted_stays t number n (Writing place transfer deadline) e = absurd (not_both (n == number) e)
booted_stays t number n Configured e = e
booted_stays t number n Failed e = absurd (not_both (n == number) e)
booted_stays t number n Own e = absurd (not_both (n == number) e)

or_parts : (a b : Bool) → (a || b) ≡ true → (a ≡ true) ⊎ (b ≡ true)
or_parts true b e = inl refl
or_parts false b e = inr e

or_first : (a b : Bool) → a ≡ true → (a || b) ≡ true
or_first a b e = rw e refl

or_second : (a b : Bool) → b ≡ true → (a || b) ≡ true
or_second true b e = refl
or_second false b e = e

and_parts : (a b : Bool) → (a && b) ≡ true → (a ≡ true) × (b ≡ true)
and_parts true b e = (refl, e)
and_parts false b e = cc

and_both : (a b : Bool) → a ≡ true → b ≡ true → (a && b) ≡ true
and_both a b e f = rw (e, f) refl

one_stays : (t number : ℕ) (nodes : List Booting) → is_configured nodes number ≡ true
    → is_configured (map (node_after t) nodes) number ≡ true
unfolding is_configured
one_stays t number [] e = e
one_stays t number (node ∷ nodes) e = by (or_parts _ _ e) (one_stays t number nodes)
  where
    by : Passes number node ⊎ (is_configured nodes number ≡ true)
        → (is_configured nodes number ≡ true → is_configured (map (node_after t) nodes) number ≡ true)
        → is_configured (map (node_after t) (node ∷ nodes)) number ≡ true
    by (inl here) rest = or_first _ _ (booted_stays t number node.number node.stage here)
    by (inr there) rest = or_second _ _ (rest there)

all_stay : (t : ℕ) (nodes : List Booting) (numbers : List ℕ) → all_configured nodes numbers ≡ true
    → all_configured (map (node_after t) nodes) numbers ≡ true
unfolding all_configured
all_stay t nodes [] e = refl
all_stay t nodes (n ∷ numbers) e =
    let parts = and_parts (is_configured nodes n) (all_configured nodes numbers) e in
    and_both _ _ (one_stays t n nodes parts.0) (all_stay t nodes numbers parts.1)

-- where it is started, each mandatory node is configured
abbrev IsStartedBy : Startup → List Booting → Type 0
IsStartedBy s nodes = s.is_started ≡ true → all_configured nodes s.mandatory ≡ true

abbrev IsWith : Manager → Type 0
IsWith m = IsStartedBy m.startup m.nodes

not_yet : (s : Startup) (nodes : List Booting) → s.is_started ≡ false → IsStartedBy s nodes
not_yet s nodes e f = let g = sym e ∙ f in cc

turned_with : (s : Startup) (nodes : List Booting) → s.is_started ≡ false → IsStartedBy (startup_of_configured s nodes)
    nodes
unfolding startup_of_configured
turned_with s nodes e f = by s.is_started e (by_mode s.mode s.is_started) f
  where
    by : (started : Bool) → started ≡ false → (each : Bool)
        → (started || (not each && all_configured nodes s.mandatory)) ≡ true
        → all_configured nodes s.mandatory ≡ true
    by true g each h = cc
    by false g true h = cc
    by false g false h = h

heard_with : (image : Image) (t : ℕ) (slot : Option Slot) (m : Manager) → m.startup.is_started ≡ false
    → IsWith (outcome (manager_after_slot t slot m) image).0
unfolding manager_after_slot
heard_with image t None m k = not_yet m.startup m.nodes k
heard_with image t (Some slot) m k = by (manager_sender m.number == slot.sender)
  where
    by : (b : Bool) → IsWith (outcome (if b then Answer (m, []) else after_frame t slot.frame m) image).0
    by true = not_yet m.startup m.nodes k
    by false = frame_holds image t slot.frame m IsStartedBy (λ nodes. not_yet m.startup nodes k)
        (λ nodes. turned_with m.startup nodes k)

starts_next : (image : Image) (t : ℕ) (s : Bus) → s.manager.startup.is_started ≡ false
    → IsWith (outcome (instant t s) image).0.manager
starts_next image t s h =
    manager_through image t s (λ m. m.startup.is_started ≡ false) IsWith IsWith
    (λ c node m k. k)
    (λ m k. heard_with image t (ended_slot t s.wire) m k)
    (λ m k. timers_have IsStartedBy t m (λ e. all_stay t m.nodes m.startup.mandatory (k e)))
    (λ m place k. k)
    h

pub starts_with_mandatory : (image : Image) (t : ℕ) → (bus_at image t).manager.startup.is_started ≡ false
    → (bus_at image (t + 1)).manager.startup.is_started ≡ true
    → all_configured (bus_at image (t + 1)).manager.nodes (roster_of (image Roster)).mandatory ≡ true
starts_with_mandatory image t before after =
    let with : IsWith (bus_at image (t + 1)).manager = rw (bus_next image t) (starts_next image t (bus_at image t) before)
    in subst (λ (numbers : List ℕ). all_configured (bus_at image (t + 1)).manager.nodes numbers ≡ true)
    (mandatory_at image (t + 1)) (with after)
