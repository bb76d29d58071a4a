-- A node is noted configured only where its writes end.
use Rattle.std.proofs.Common.{◌≡◌, ℕ, zero, suc, ◌+◌, ◌<◌, List, [], ◌∷◌, ◌++◌, get_or, Option, Some}
use Rattle.std.proofs.Common.{None, ◌⊎◌, inl, inr, ap, subst, arith}
use Rattle.std.specs.Prelude.{Contains, map}
use Rattle.std.proofs.lemmas.List.Elements.{Contains-append_cases}
use Rattle.image_parts.specs.Asking.{Asking, outcome, reads}
use Rattle.can_frame.specs.Frames.{BaseFrame}
use Rattle.image_parts.specs.Contents.{Content, Image}
use Rattle.image_parts.specs.declared.part.Part.{Part}
use Rattle.node_boot.proofs.EndLemmas.{Ends, boot_ends, answer_ends}
use Rattle.node_boot.specs.Ends.{IsAbsent}
use Rattle.node_boot.specs.declared.boot_stage.BootStage.{BootStage}
use Rattle.node_boot.specs.declared.boot_stage.BootStage.TheVariants.{Unseen, Comparing, Writing, Configured, Failed, Own}
use Rattle.node_boot.specs.declared.boot_step.BootStep.{BootStep}
use Rattle.node_boot.specs.declared.note_kind.NoteKind.{NoteKind}
use Rattle.node_boot.specs.declared.note_kind.NoteKind.TheVariants as kind
use Rattle.nmt_boot.proofs.FrameLemmas.{received_holds}
use Rattle.nmt_boot.specs.Ends.{configured_note, WritesEnd}
use Rattle.nmt_boot.specs.Manager.{Manager, after_frame}
use Rattle.manager_nodes.specs.Table.{node_at, note_of_loss, note_of_time_out, notes_of}
use Rattle.nmt_boot.specs.Manager.{time_outs, timers}
use Rattle.manager_nodes.specs.Table.{timed_out}
use Rattle.manager_nodes.specs.declared.booting.Booting.{Booting}
use Rattle.node_boot.specs.declared.note.Note.{Note}

-- ---- elements of short lists

pub none_in : {X : Type 0} (x : X) → Contains [] x → ⊥
none_in x h = omega (arith, h.1)

pub one_at : {X : Type 0} (x y : X) (k : ℕ) → k < 1 → get_or (x ∷ []) k y ≡ y → x ≡ y
one_at x y zero h e = e
one_at x y (suc k) h e = absurd (omega (arith, h))

one_in : {X : Type 0} (x y : X) → Contains (x ∷ []) y → x ≡ y
one_in x y h = one_at x y h.0 h.1 h.2

-- ---- notes

pub noted_by : (n node : ℕ) (w : Option NoteKind) → Contains (notes_of n w) (configured_note node)
    → (n ≡ node) × (w ≡ Some kind.Configured)
noted_by n node None h = absurd (none_in (configured_note node) h)
noted_by n node (Some w) h =
    let same = one_in _ (configured_note node) h in
    (ap (λ (note : Note). note.node) same, ap (λ (note : Note). Some note.kind) same)

pub lost_only : (stage : BootStage) → note_of_loss stage ≡ Some kind.Configured → ⊥
lost_only Unseen e = cc
lost_only (Comparing place expected transfer deadline) e = cc
lost_only (Writing place transfer deadline) e = cc
lost_only Configured e = cc
lost_only Failed e = cc
lost_only Own e = cc

-- ---- the manager

module _ (image : Image) (t : ℕ) (frame : BaseFrame) (m : Manager) (node : ℕ) where
  abbrev Told : Manager × List Note → List (Part × Content) → Type 0
  Told r read = Contains r.1 (configured_note node) → WritesEnd image node read

  turned_ends : (n : ℕ) (a : Asking Part Content BootStep) → Ends image n a
      → Contains (notes_of n (outcome a image).note) (configured_note node) → WritesEnd image node (reads a image)
  turned_ends n a ends h =
      let told = noted_by n node (outcome a image).note h in
      subst (λ (x : ℕ). (place : ℕ) × IsAbsent image x (reads a image) place) told.0 (ends told.1)

  begun_ends : (n : ℕ) (stage : BootStage) (a : Asking Part Content BootStep) → Ends image n a
      → Contains (notes_of n (note_of_loss stage) ++ notes_of n (outcome a image).note) (configured_note node)
      → WritesEnd image node (reads a image)
  begun_ends n stage a ends h = by (Contains-append_cases _ _ _ h)
    where
      by : Contains (notes_of n (note_of_loss stage)) (configured_note node)
          ⊎ Contains (notes_of n (outcome a image).note) (configured_note node) → WritesEnd image node (reads a image)
      by (inl first) = absurd (lost_only stage (noted_by n node (note_of_loss stage) first).1)
      by (inr second) = turned_ends n a ends second

  pub frame_ends : Told (outcome (after_frame t frame m) image) (reads (after_frame t frame m) image)
  frame_ends = received_holds image t frame m Told
      (λ h. absurd (none_in (configured_note node) h))
      (λ i e o h. absurd (none_in (configured_note node) h))
      (λ i e o h. begun_ends (node_at m.nodes i).number (node_at m.nodes i).stage _
      (boot_ends image (node_at m.nodes i).number (t + m.timeout)) h)
      (λ i e h. turned_ends (node_at m.nodes i).number _ (answer_ends image (node_at m.nodes i).number (t + m.timeout)
      (node_at m.nodes i).stage frame.bytes) h)

-- ---- time-outs say nothing of the kind

neither : (n : Booting) (ns : List Booting) (node : ℕ)
    → Contains (note_of_time_out n ∷ []) (configured_note node)
    ⊎ Contains (map note_of_time_out ns) (configured_note node)
    → (Contains (map note_of_time_out ns) (configured_note node) → ⊥) → ⊥
neither n ns node (inl here) rest =
    let e = ap (λ (note : Note). note.kind) (one_in _ (configured_note node) here) in cc
neither n ns node (inr there) rest = rest there

none_of : (ns : List Booting) (node : ℕ) → Contains (map note_of_time_out ns) (configured_note node) → ⊥
none_of [] node h = none_in (configured_note node) h
none_of (n ∷ ns) node h =
    neither n ns node (Contains-append_cases (note_of_time_out n ∷ []) (map note_of_time_out ns) _ h) (none_of ns node)

pub timers_end_none : (t : ℕ) (m : Manager) (node : ℕ) → Contains (timers t m).1 (configured_note node) → ⊥
unfolding timers time_outs
timers_end_none t m node h = none_of (timed_out t m.nodes) node h
