-- What a node was noted for: a node that is noted configured is so after the instant.
use Rattle.std.proofs.Common.{◌≡◌, ℕ, ◌+◌, ◌<◌, Bool, true, false, List, [], ◌∷◌, ◌++◌, Option, Some, None}
use Rattle.std.proofs.Common.{◌⊎◌, inl, inr, refl, sym, ap, ◌∙◌, subst, arith, length, map}
use Rattle.std.specs.Prelude.{◌==◌, Contains, if◌then◌else◌}
use Rattle.std.proofs.lemmas.List.{get_or_default, get_or-map, get_or-set_same, length-map, length-set}
use Rattle.std.proofs.lemmas.List.Elements.{Contains-append_cases}
use Rattle.std.proofs.lemmas.List.Quantifiers.{position-Some}
use Rattle.image_parts.specs.Asking.{Answer, outcome}
use Rattle.manager_nodes.specs.Table.{is_from, no_node, node_after, node_at, note_of_loss, note_of_time_out, notes_of, place_of}
use Rattle.manager_nodes.specs.Table.{timed_out}
use Rattle.manager_nodes.specs.declared.booting.Booting.{Booting}
use Rattle.network_laws.proofs.FrameStartLemmas.{all_else_stays}
use Rattle.can_bus.specs.Spans.{bus_at}
use Rattle.can_bus.proofs.SpanLemmas.{bus_next}
use Rattle.can_bus.specs.Bus.{Bus, after_arbitration, ended_slot, frame_lines, from_delivery_on, instant}
use Rattle.can_bus.specs.Bus.{manager_after_delivery, manager_after_slot, note_lines}
use Rattle.can_bus.specs.declared.line.Line.{Line}
use Rattle.can_bus.specs.declared.line.Line.TheVariants as line
use Rattle.can_bus.specs.declared.slot.Slot.{Slot}
use Rattle.can_bus.proofs.InstantLemmas.{outcome_delivery, outcome_instant, run_by_events}
use Rattle.can_bus.proofs.ManagerLemmas.{outcome_managed}
use Rattle.can_bus.proofs.NodeLemmas.{outcome_nodes}
use Rattle.can_frame.specs.Frames.{BaseFrame}
use Rattle.can_frame.specs.Identifiers.{error_control_id, sdo_answer_id}
use Rattle.can_frame.specs.Senders.{manager_sender}
use Rattle.can_frame.specs.declared.waiting.Waiting.{Waiting}
use Rattle.image_parts.specs.Contents.{Image, identity_of, write_of}
use Rattle.image_parts.specs.declared.identity.Identity.{Identity}
use Rattle.image_parts.specs.declared.part.Part.TheVariants.{Boot, Expect}
use Rattle.sdo_client.specs.Client.{after_answer}
use Rattle.sdo_client.specs.declared.client_transfer.ClientTransfer.{ClientTransfer as Transfer}
use Rattle.sdo_client.specs.declared.progress.Progress.{Progress}
use Rattle.sdo_client.specs.declared.progress.Progress.TheVariants as progress
use Rattle.concise_dcf.specs.declared.write.Write.{Write}
use Rattle.network_laws.specs.Files.{HasConfigured}
use Rattle.nmt_boot.proofs.FrameLemmas.{received_holds}
use Rattle.nmt_boot.specs.Ends.{configured_note}
use Rattle.nmt_boot.specs.Manager.{Manager, after_frame, after_step}
use Rattle.nmt_boot.specs.Manager.{time_outs, timers}
use Rattle.node_boot.specs.Boot.{after_compare, after_write, boot_failed, boot_nmt_slave, check_identity, compared_next}
use Rattle.node_boot.specs.Boot.{comparison_started, download_configuration, is_as_expected, next_compared, sdo_answer}
use Rattle.node_boot.specs.Boot.{write_started}
use Rattle.node_boot.specs.declared.boot_stage.BootStage.{BootStage}
use Rattle.node_boot.specs.declared.boot_stage.BootStage.TheVariants.{Unseen, Comparing, Writing, Configured, Failed, Own}
use Rattle.node_boot.specs.declared.boot_step.BootStep.{BootStep}
use Rattle.node_boot.specs.declared.note.Note.{Note}
use Rattle.node_boot.specs.declared.note_kind.NoteKind.TheVariants as kind
use Rattle.nmt_boot.proofs.EndLemmas.{lost_only, none_in, noted_by, one_at}

-- ---- a step that notes a node configured leaves it so

abbrev Tells : BootStep → Type 0
Tells step = step.note ≡ Some kind.Configured → step.stage ≡ Configured

module _ (image : Image) (deadline node : ℕ) where
  write_tells : (j : ℕ) (w : Option Write) → Tells (write_started deadline j w)
  unfolding write_started
  write_tells j None e = refl
  write_tells j (Some w) e = absurd cc

  download_tells : (j : ℕ) → Tells (outcome (download_configuration deadline node j) image)
  unfolding download_configuration
  download_tells j = write_tells j (write_of (image (Boot node j)))

  compares_tell : (expected : Identity) (place : ℕ) → Tells (comparison_started deadline expected place)
  unfolding comparison_started
  compares_tell expected place e = absurd cc

  checks_tell : (expected : Identity) (place : ℕ)
      → Tells (outcome (check_identity deadline node expected place) image)
  unfolding check_identity
  checks_tell expected place = by (next_compared expected place)
    where
      by : (next : Option ℕ) → Tells (outcome (compared_next deadline node expected next) image)
      by None = download_tells 0
      by (Some left) = compares_tell expected left

  pub boot_tells : Tells (outcome (boot_nmt_slave deadline node) image)
  unfolding boot_nmt_slave
  boot_tells = checks_tell (identity_of (image (Expect node))) 0

  compared_tells : (old place : ℕ) (expected : Identity) (left : Transfer) (p : Option Progress)
      → Tells (outcome (after_compare deadline old node place expected left p) image)
  compared_tells old place expected left None e = absurd cc
  compared_tells old place expected left (Some (progress.Ask request)) e = absurd cc
  compared_tells old place expected left (Some progress.Written) e = absurd cc
  compared_tells old place expected left (Some (progress.Read bytes)) e = by (is_as_expected expected place bytes) e
    where
      by : (b : Bool) → Tells (outcome (if b then check_identity deadline node expected (place + 1)
          else Answer (boot_failed kind.Difference None)) image)
      by true f = checks_tell expected (place + 1) f
      by false f = absurd cc
  compared_tells old place expected left (Some (progress.Failed abort frame)) e = absurd cc

  written_tells : (old j : ℕ) (left : Transfer) (p : Option Progress)
      → Tells (outcome (after_write deadline old node j left p) image)
  written_tells old j left None e = absurd cc
  written_tells old j left (Some (progress.Ask request)) e = absurd cc
  written_tells old j left (Some progress.Written) e = download_tells (j + 1) e
  written_tells old j left (Some (progress.Read bytes)) e = absurd cc
  written_tells old j left (Some (progress.Failed abort frame)) e = absurd cc

  pub answer_tells : (stage : BootStage) (answer : List ℕ)
      → Tells (outcome (sdo_answer deadline node stage answer) image)
  unfolding sdo_answer
  answer_tells Unseen answer e = absurd cc
  answer_tells (Comparing place expected transfer old) answer e =
      compared_tells old place expected (after_answer transfer answer).stage (after_answer transfer answer).progress e
  answer_tells (Writing j transfer old) answer e =
      written_tells old j (after_answer transfer answer).stage (after_answer transfer answer).progress e
  answer_tells Configured answer e = absurd cc
  answer_tells Failed answer e = absurd cc
  answer_tells Own answer e = absurd cc

-- ---- the manager

-- its table has the node, and has it configured
pub record Has (node : ℕ) (m : Manager) : Type 0 where
  pub place : ℕ
  pub within : place < length m.nodes
  pub number : (node_at m.nodes place).number ≡ node
  pub stage : (node_at m.nodes place).stage ≡ Configured

found_within : (base id : ℕ) (nodes : List Booting) (k : ℕ) → place_of base id nodes ≡ Some k → k < length nodes
unfolding place_of
found_within base id nodes k e = (position-Some (is_from base id) nodes k no_node e).0

module _ (node : ℕ) where
  stepped_has : (m : Manager) (i : ℕ) → i < length m.nodes → (step : BootStep) (ws : List Waiting) → Tells step
      → ((node_at m.nodes i).number ≡ node) × (step.note ≡ Some kind.Configured)
      → Has node (after_step i step (record m { waiting = ws })).0
  stepped_has m i within step ws tells told =
      let e : Booting = record (node_at m.nodes i) { stage = step.stage } in
      let there = get_or-set_same m.nodes i e no_node within in
      let many = length-set m.nodes i e in
      record {
        place = i;
        within = omega (arith, within, many);
        number = ap (λ (b : Booting). b.number) there ∙ told.0;
        stage = ap (λ (b : Booting). b.stage) there ∙ tells told.1;
      }

  module _ (image : Image) (t : ℕ) (frame : BaseFrame) (m : Manager) where
    begun_has : (i : ℕ) → i < length m.nodes → (step : BootStep) (ws : List Waiting) → Tells step
        → Contains (notes_of (node_at m.nodes i).number (note_of_loss (node_at m.nodes i).stage)
        ++ notes_of (node_at m.nodes i).number step.note) (configured_note node)
        → Has node (after_step i step (record m { waiting = ws })).0
    begun_has i within step ws tells h = by (Contains-append_cases _ _ _ h)
      where
        by : Contains (notes_of (node_at m.nodes i).number (note_of_loss (node_at m.nodes i).stage))
            (configured_note node)
            ⊎ Contains (notes_of (node_at m.nodes i).number step.note) (configured_note node)
            → Has node (after_step i step (record m { waiting = ws })).0
        by (inl lost) = absurd (lost_only (node_at m.nodes i).stage
            (noted_by (node_at m.nodes i).number node (note_of_loss (node_at m.nodes i).stage) lost).1)
        by (inr told) = stepped_has m i within step ws tells (noted_by (node_at m.nodes i).number node step.note told)

    frame_has : Contains (outcome (after_frame t frame m) image).1 (configured_note node)
        → Has node (outcome (after_frame t frame m) image).0
    frame_has =
        received_holds image t frame m (λ r read. Contains r.1 (configured_note node) → Has node r.0)
        (λ h. absurd (none_in (configured_note node) h))
        (λ i e o h. absurd (none_in (configured_note node) h))
        (λ i e o h. begun_has i (found_within (error_control_id 0) frame.id m.nodes i e) _ _
        (boot_tells image (t + m.timeout) (node_at m.nodes i).number) h)
        (λ i e h. stepped_has m i (found_within (sdo_answer_id 0) frame.id m.nodes i e) _ m.waiting
        (answer_tells image (t + m.timeout) (node_at m.nodes i).number (node_at m.nodes i).stage frame.bytes)
        (noted_by (node_at m.nodes i).number node _ h))

  slot_has : (image : Image) (t : ℕ) (slot : Option Slot) (m : Manager)
      → Contains (outcome (manager_after_slot t slot m) image).1 (configured_note node)
      → Has node (outcome (manager_after_slot t slot m) image).0
  unfolding manager_after_slot
  slot_has image t None m h = absurd (none_in (configured_note node) h)
  slot_has image t (Some slot) m h = by (manager_sender m.number == slot.sender) h
    where
      by : (b : Bool)
          → Contains (outcome (if b then Answer (m, []) else after_frame t slot.frame m) image).1 (configured_note node)
          → Has node (outcome (if b then Answer (m, []) else after_frame t slot.frame m) image).0
      by true g = absurd (none_in (configured_note node) g)
      by false g = frame_has image t slot.frame m g

  -- ---- the timers leave a node that is configured

  module _ (t : ℕ) where
    outs_have : (m : Manager) → Has node m → Has node (time_outs t m).0
    unfolding time_outs
    outs_have m h =
        let there = get_or-map (node_after t) m.nodes h.place no_node no_node h.within in
        let many = length-map m.nodes (node_after t) in
        let within = h.within in
        let stays : node_after t (node_at m.nodes h.place) ≡ node_at m.nodes h.place = rw h.stage refl in
        record {
          place = h.place;
          within = omega (arith, within, many);
          number = ap (λ (b : Booting). b.number) (there ∙ stays) ∙ h.number;
          stage = ap (λ (b : Booting). b.stage) (there ∙ stays) ∙ h.stage;
        }

    alike : (m o : Manager) → o.nodes ≡ m.nodes → Has node m → Has node o
    alike m o e h = record {
      place = h.place;
      within = subst (λ (ns : List Booting). h.place < length ns) (sym e) h.within;
      number = ap (λ (ns : List Booting). (node_at ns h.place).number) e ∙ h.number;
      stage = ap (λ (ns : List Booting). (node_at ns h.place).stage) e ∙ h.stage;
    }

    timers_have : (m : Manager) → Has node m → Has node (timers t m).0
    unfolding timers
    timers_have m h =
        let has = outs_have m h in
        record { place = has.place; within = has.within; number = has.number; stage = has.stage }

    none_times_out : (ns : List Booting) → Contains (map note_of_time_out ns) (configured_note node) → ⊥
    none_times_out [] h = none_in (configured_note node) h
    none_times_out (b ∷ ns) h = by (Contains-append_cases (note_of_time_out b ∷ []) (map note_of_time_out ns) _ h)
        (none_times_out ns)
      where
        by : Contains (note_of_time_out b ∷ []) (configured_note node)
            ⊎ Contains (map note_of_time_out ns) (configured_note node)
            → (Contains (map note_of_time_out ns) (configured_note node) → ⊥) → ⊥
        by (inl here) rest =
            let e = ap (λ (note : Note). note.kind) (one_at _ (configured_note node) here.0 here.1 here.2) in cc
        by (inr there) rest = rest there

    timers_tell_none : (m : Manager) → Contains (timers t m).1 (configured_note node) → ⊥
    unfolding timers time_outs
    timers_tell_none m h = none_times_out (timed_out t m.nodes) h

    -- the delivered frame, and then the timers
    managed_has : (image : Image) (slot : Option Slot) (m : Manager)
        → Contains (outcome (manager_after_delivery t slot m) image).1 (configured_note node)
        → Has node (outcome (manager_after_delivery t slot m) image).0
    managed_has image slot m h =
        let heard : Manager × List Note = outcome (manager_after_slot t slot m) image in
        rw (outcome_managed t slot m image)
        (timers_have heard.0 (by heard (slot_has image t slot m) (Contains-append_cases heard.1 (timers t heard.0).1 _
        (rw (outcome_managed t slot m image) at h))))
      where
        by : (heard : Manager × List Note) → (Contains heard.1 (configured_note node) → Has node heard.0)
            → Contains heard.1 (configured_note node) ⊎ Contains (timers t heard.0).1 (configured_note node)
            → Has node heard.0
        by heard has (inl told) = has told
        by heard has (inr told) = absurd (timers_tell_none heard.0 told)

    -- ---- the lines of an instant

    no_frame : (frame : BaseFrame) → Contains (line.Frame t frame ∷ []) (line.Note t (configured_note node)) → ⊥
    no_frame frame h = none (one_at (line.Frame t frame) (line.Note t (configured_note node)) h.0 h.1 h.2)
      where
        none : line.Frame t frame ≡ line.Note t (configured_note node) → ⊥
        none e = cc

    no_frames : (slot : Option Slot) → Contains (frame_lines t slot) (line.Note t (configured_note node)) → ⊥
    no_frames None h = none_in (line.Note t (configured_note node)) h
    no_frames (Some slot) h = no_frame slot.frame h

    noted_in : Line → Note → Note
    noted_in (line.Frame time frame) other = other
    noted_in (line.Note time note) other = note

    notes_tell : (notes : List Note) → Contains (note_lines t notes) (line.Note t (configured_note node))
        → Contains notes (configured_note node)
    unfolding noted_in
    notes_tell notes h =
        let c : Note = configured_note node in
        let many = length-map notes (line.Note t) in
        let less = h.1 in
        let within : h.0 < length notes = omega (arith, less, many) in (
          h.0,
          within,
          ap (λ (l : Line). noted_in l c)
              (sym (get_or-map (line.Note t) notes h.0 c (line.Note t c) within) ∙ h.2),
        )

    lines_tell : (slot : Option Slot) (notes : List Note)
        → Contains (frame_lines t slot ++ note_lines t notes) (line.Note t (configured_note node))
        → Contains notes (configured_note node)
    lines_tell slot notes h = by (Contains-append_cases (frame_lines t slot) (note_lines t notes) _ h)
      where
        by : Contains (frame_lines t slot) (line.Note t (configured_note node))
            ⊎ Contains (note_lines t notes) (line.Note t (configured_note node))
            → Contains notes (configured_note node)
        by (inl frame) = absurd (no_frames slot frame)
        by (inr note) = notes_tell notes note

    -- ---- from the delivery on

    start_has : (s : Bus) → Has node s.manager → Has node (after_arbitration t s).manager
    start_has s h =
        alike s.manager (after_arbitration t s).manager
        (ap (λ (b : Bus). b.manager.nodes) (all_else_stays t s)) h

    delivery_has : (image : Image) (r : Bus)
        → Contains (outcome (from_delivery_on t r) image).1 (line.Note t (configured_note node))
        → Has node (outcome (from_delivery_on t r) image).0.manager
    delivery_has image r h =
        let slot : Option Slot = ended_slot t r.wire in
        rw (outcome_delivery t r image, outcome_nodes t slot r.manager r.devices image)
        (start_has _ (managed_has image slot r.manager
        (lines_tell slot (outcome (manager_after_delivery t slot r.manager) image).1
        (rw (outcome_delivery t r image, outcome_nodes t slot r.manager r.devices image) at h))))

    instant_has : (image : Image) (s : Bus)
        → Contains (outcome (instant t s) image).1 (line.Note t (configured_note node))
        → Has node (outcome (instant t s) image).0.manager
    instant_has image s h =
        rw (outcome_instant t s image)
        (delivery_has image (run_by_events t s image) (rw (outcome_instant t s image) at h))

-- ---- the run

is_configured : (node : ℕ) (s : Bus) → Has node s.manager → HasConfigured s node
is_configured node s h = record {
  booting = node_at s.manager.nodes h.place;
  listed = (h.place, h.within, get_or_default s.manager.nodes h.place _ no_node h.within);
  number = h.number;
  stage = h.stage;
}

pub noted_is_configured : (image : Image) (t node : ℕ)
    → Contains (outcome (instant t (bus_at image t)) image).1 (line.Note t (configured_note node))
    → HasConfigured (bus_at image (t + 1)) node
noted_is_configured image t node h =
    subst (λ (s : Bus). HasConfigured s node) (sym (bus_next image t))
    (is_configured node (outcome (instant t (bus_at image t)) image).0
    (instant_has node t image (bus_at image t) h))
