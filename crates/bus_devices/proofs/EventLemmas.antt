-- Events, one after another.
use Rattle.std.proofs.Common.{◌≡◌, ◌≢◌, ℕ, ◌+◌, ◌<◌, ◌≤◌, List, ◌∷◌, ◌++◌, refl, sym, ap, ◌∙◌, length, get_or, map, drop}
use Rattle.std.proofs.Common.{length-append, arith}
use Rattle.std.specs.Prelude.{◌==◌, Bool, true, false}
use Rattle.std.proofs.lemmas.Bool.Decides.{nat_tests}
use Rattle.std.proofs.lemmas.List.{append-nil, drop_all, drop_more}
use Rattle.image_parts.specs.Asking.{Asking, Answer, Seen, bind, outcome, reads, after_reads}
use Rattle.image_parts.specs.Record.{GoesBy}
use Rattle.image_parts.proofs.QuestionLemmas.{outcome_bind, reads_bind, followed_bind}
use Rattle.image_parts.proofs.RecordLemmas.{asked_last, goes_none}
use Rattle.co_device.specs.Device.{Device}
use Rattle.image_parts.specs.Contents.{Content, Image}
use Rattle.image_parts.specs.declared.part.Part.{Part}
use Rattle.co_scenario.specs.declared.nmt_command.NmtCommand.{NmtCommand}
use Rattle.co_scenario.specs.declared.step.Step.TheVariants.{Set, Power, Nmt}
use Rattle.co_scenario.specs.declared.timed_step.TimedStep.{TimedStep}
use Rattle.nmt_boot.specs.Manager.{Manager, with_command}
use Rattle.image_parts.specs.Each.{each}
use Rattle.bus_devices.specs.Events.{after_events_at, after_event, after_power_at, after_set_at}

-- ---- numbers

itself : (number node : ℕ) → number ≡ node → (number == node) ≡ true
itself number node same = grind (arith, nat_tests)

pub another : (number node : ℕ) → number ≢ node → (number == node) ≡ false
another number node differ = by (number == node) refl
  where
    same : (number == node) ≡ true → number ≡ node
    same e = grind (arith, nat_tests)

    by : (b : Bool) → (number == node) ≡ b → (number == node) ≡ false
    by true e = absurd (differ (same e))
    by false e = e

-- ---- one event

module _ (t : ℕ) (ds : List Device) (m : Manager) where
  pub happens_set : (node index sub : ℕ) (bytes : List ℕ)
      → after_event t (Set node index sub bytes) (ds, m) ≡ Answer (map (after_set_at t node (index, sub) bytes) ds, m)
  unfolding after_event
  happens_set node index sub bytes = refl

  pub happens_nmt : (node : ℕ) (command : NmtCommand)
      → after_event t (Nmt node command) (ds, m) ≡ Answer (ds, with_command command node m)
  unfolding after_event
  happens_nmt node command = refl

  module _ (node : ℕ) (on : Bool) where
    -- the power of the device that the manager runs in isn't switched
    pub happens_own : (m.number == node) ≡ true → after_event t (Power node on) (ds, m) ≡ Answer (ds, m)
    unfolding after_event
    happens_own e = rw e refl

    -- that of another is
    happens_other : (m.number == node) ≡ false → after_event t (Power node on) (ds, m)
        ≡ bind (each (after_power_at t node on) ds) (λ after. Answer (after, m))
    unfolding after_event
    happens_other e = rw e refl

    pub outcome_power : (m.number == node) ≡ false → (image : Image)
        → outcome (after_event t (Power node on) (ds, m)) image ≡ (outcome (each (after_power_at t node on) ds) image, m)
    outcome_power e image = ap (λ (event : Asking Part Content (List Device × Manager)). outcome event image)
        (happens_other e)
        ∙ outcome_bind (each (after_power_at t node on) ds) (λ after. Answer (after, m)) image

    module _ {X : Type 0} (seen : X → Seen Part Content) (asks : X → ℕ) where
      pub own_goes : (x : X) → m.number ≡ node
          → GoesBy (after_event t (Power node on) (ds, m)) (ds, m) seen asks x x
      own_goes x e = goes_none (after_event t (Power node on) (ds, m)) (ds, m) seen asks x
          (happens_own (itself m.number node e))

      pub other_goes : (x y : X) (after : List Device) → m.number ≢ node
          → GoesBy (each (after_power_at t node on) ds) after seen asks x y
          → GoesBy (after_event t (Power node on) (ds, m)) (after, m) seen asks x y
      other_goes x y after e h = record {
        state = ap (λ (devices : List Device). (devices, m)) h.state
            ∙ sym (outcome_power (another m.number node e) (seen x).image);
        asked = rw (happens_other (another m.number node e)) (asked_last (each (after_power_at t node on) ds)
            (λ (devices : List Device). (devices, m)) (seen x) (seen y) (asks x) (asks y) h.asked);
      }

-- nothing is read
nothing_read : {A : Type 0} (a : A) (seen : Seen Part Content) → seen ≡ after_reads (Answer a) seen
nothing_read a seen = rw append-nil refl

pub set_noted : (t : ℕ) (nodes : List Device × Manager) (node index sub : ℕ) (bytes : List ℕ) (seen : Seen Part Content)
    → seen ≡ after_reads (after_event t (Set node index sub bytes) nodes) seen
unfolding after_event
set_noted t nodes node index sub bytes seen = nothing_read {A = List Device × Manager}
    (map (after_set_at t node (index, sub) bytes) nodes.0, nodes.1) seen

pub nmt_noted : (t : ℕ) (nodes : List Device × Manager) (node : ℕ) (command : NmtCommand) (seen : Seen Part Content)
    → seen ≡ after_reads (after_event t (Nmt node command) nodes) seen
unfolding after_event
nmt_noted t nodes node command seen = nothing_read {A = List Device × Manager}
    (nodes.0, with_command command node nodes.1) seen

pub ruleset happens_laws = (happens_set, happens_nmt, set_noted, nmt_noted)

-- ---- one more event

module _ (t : ℕ) (step : TimedStep) (steps : List TimedStep) (nodes : List Device × Manager) where
  pub outcome_events : (image : Image) → outcome (after_events_at t (step ∷ steps) nodes) image
      ≡ outcome (after_events_at t steps (outcome (after_event t step.step nodes) image)) image
  unfolding after_events_at
  outcome_events image = outcome_bind (after_event t step.step nodes) (λ after. after_events_at t steps after) image

  pub reads_events : (image : Image) → reads (after_events_at t (step ∷ steps) nodes) image
      ≡ reads (after_event t step.step nodes) image
      ++ reads (after_events_at t steps (outcome (after_event t step.step nodes) image)) image
  unfolding after_events_at
  reads_events image = reads_bind (after_event t step.step nodes) (λ after. after_events_at t steps after) image

  pub followed_events : (seen : Seen Part Content)
      → after_reads (after_events_at t (step ∷ steps) nodes) seen
      ≡ after_reads (after_events_at t steps (outcome (after_event t step.step nodes) seen.image))
      (after_reads (after_event t step.step nodes) seen)
  unfolding after_events_at
  followed_events seen = followed_bind (after_event t step.step nodes) (λ after. after_events_at t steps after) seen

-- ---- the loop over them: the event at the place i makes of ds and m what after and n are

module _ (t : ℕ) (steps : List TimedStep) (i : ℕ) (d : TimedStep) (within : i < length steps)
    (is : d ≡ get_or steps i d) (ds after : List Device) (m n : Manager) where
  abbrev event : Asking Part Content (List Device × Manager)
  event = after_event t d.step (ds, m)

  rest_is : drop i steps ≡ d ∷ drop (i + 1) steps
  rest_is = drop_more steps i d within ∙ ap (λ (x : TimedStep). x ∷ drop (i + 1) steps) (sym is)

  nodes_are : (image : Image) → after ≡ (outcome event image).0 → n ≡ (outcome event image).1
      → ◌≡◌ {A = List Device × Manager} (after, n) (outcome event image)
  nodes_are image e f = rw (e, f) refl

  pub events_state : (image : Image) → after ≡ (outcome event image).0 → n ≡ (outcome event image).1
      → outcome (after_events_at t (drop (i + 1) steps) (after, n)) image
      ≡ outcome (after_events_at t (drop i steps) (ds, m)) image
  events_state image e f =
      ap (λ (nodes : List Device × Manager). outcome (after_events_at t (drop (i + 1) steps) nodes) image)
      (nodes_are image e f)
      ∙ sym (outcome_events t d (drop (i + 1) steps) (ds, m) image)
      ∙ ap (λ (left : List TimedStep). outcome (after_events_at t left (ds, m)) image) (sym rest_is)

  pub events_noted : (seen seen' : Seen Part Content) → after ≡ (outcome event seen.image).0
      → n ≡ (outcome event seen.image).1 → seen' ≡ after_reads event seen
      → after_reads (after_events_at t (drop (i + 1) steps) (after, n)) seen'
      ≡ after_reads (after_events_at t (drop i steps) (ds, m)) seen
  events_noted seen seen' e f h =
      ap (after_reads (after_events_at t (drop (i + 1) steps) (after, n))) h
      ∙ ap (λ (nodes : List Device × Manager). after_reads (after_events_at t (drop (i + 1) steps) nodes)
      (after_reads event seen)) (nodes_are seen.image e f)
      ∙ sym (followed_events t d (drop (i + 1) steps) (ds, m) seen)
      ∙ ap (λ (left : List TimedStep). after_reads (after_events_at t left (ds, m)) seen) (sym rest_is)

  -- the number of calls rises by at most the number of readings
  pub events_counted : (image : Image) (asks asks' : ℕ) → after ≡ (outcome event image).0 → n ≡ (outcome event image).1
      → asks' ≤ asks + length (reads event image)
      → asks' + length (reads (after_events_at t (drop (i + 1) steps) (after, n)) image)
      ≤ asks + length (reads (after_events_at t (drop i steps) (ds, m)) image)
  events_counted image asks asks' e f h =
      let all : reads (after_events_at t (drop i steps) (ds, m)) image
      ≡ reads event image ++ reads (after_events_at t (drop (i + 1) steps) (after, n)) image =
      ap (λ (left : List TimedStep). reads (after_events_at t left (ds, m)) image) rest_is
      ∙ reads_events t d (drop (i + 1) steps) (ds, m) image
      ∙ ap (λ (nodes : List Device × Manager). reads event image
      ++ reads (after_events_at t (drop (i + 1) steps) nodes) image) (sym (nodes_are image e f)) in
      rw (all, length-append) (omega arith)

-- at the end no event is left
pub none_left : (t : ℕ) (steps : List TimedStep) (i : ℕ) (nodes : List Device × Manager) → length steps ≤ i
    → after_events_at t (drop i steps) nodes ≡ Answer nodes
unfolding after_events_at
none_left t steps i nodes past = ap (λ (left : List TimedStep). after_events_at t left nodes) (drop_all i steps past)
