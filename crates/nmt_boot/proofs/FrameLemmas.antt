-- What a received frame does: nothing, the boot-up of the manager's own node or of another, or an SDO answer of a node.
use Rattle.std.proofs.Common.{◌≡◌, ℕ, ◌+◌, Bool, true, false, List, [], ◌++◌, Option, Some, None, refl}
use Rattle.std.specs.Prelude.{◌==◌, if◌then◌else◌, length}
use Rattle.image_parts.specs.Asking.{Answer, Asking, outcome, reads}
use Rattle.can_frame.specs.Frames.{BaseFrame}
use Rattle.can_frame.specs.Identifiers.{error_control_id, sdo_answer_id}
use Rattle.image_parts.specs.Contents.{Content, Image}
use Rattle.image_parts.specs.declared.part.Part.{Part}
use Rattle.nmt_boot.proofs.EventLemmas.{boots_outcome, boots_reads, answered_outcome, answered_reads}
use Rattle.node_boot.proofs.ChoiceLemmas.{picked}
use Rattle.node_boot.specs.Boot.{boot_nmt_slave, sdo_answer}
use Rattle.nmt_boot.specs.Manager.{Manager, after_boot_at, after_boot_start, after_boot_up, after_own_boot_up, after_sdo_frame, after_step}
use Rattle.nmt_boot.specs.Manager.{has_boot_up_byte, after_frame}
use Rattle.nmt_boot.specs.Startup.{own_start}
use Rattle.manager_nodes.specs.Table.{is_own, node_at, place_of}
use Rattle.node_boot.specs.declared.note.Note.{Note}

module _ (image : Image) (t : ℕ) (frame : BaseFrame) (m : Manager)
    (P : Manager × List Note → List (Part × Content) → Type 0)
    (nothing : P (m, []) [])
    (own : (i : ℕ) → place_of (error_control_id 0) frame.id m.nodes ≡ Some i → is_own (node_at m.nodes i).stage ≡ true
    → P (record m { waiting = m.waiting ++ own_start m.startup (node_at m.nodes i).number }, []) [])
    (boots : (i : ℕ) → place_of (error_control_id 0) frame.id m.nodes ≡ Some i → is_own (node_at m.nodes i).stage ≡ false
    → P (after_boot_start i m (outcome (boot_nmt_slave (t + m.timeout) (node_at m.nodes i).number) image))
    (reads (boot_nmt_slave (t + m.timeout) (node_at m.nodes i).number) image))
    (answers : (i : ℕ) → place_of (sdo_answer_id 0) frame.id m.nodes ≡ Some i
    → P (after_step i (outcome (sdo_answer (t + m.timeout)
    (node_at m.nodes i).number (node_at m.nodes i).stage frame.bytes) image) m)
    (reads (sdo_answer (t + m.timeout) (node_at m.nodes i).number (node_at m.nodes i).stage frame.bytes) image))
  where
    abbrev Holds : Asking Part Content (Manager × List Note) → Type 0
    Holds a = P (outcome a image) (reads a image)

    boot_up_holds : (place : Option ℕ) → place_of (error_control_id 0) frame.id m.nodes ≡ place
        → Holds (after_boot_up t place m)
    unfolding after_boot_up after_own_boot_up
    boot_up_holds None e = nothing
    boot_up_holds (Some i) e = by (is_own (node_at m.nodes i).stage) refl
      where
        by : (b : Bool) → is_own (node_at m.nodes i).stage ≡ b
            → Holds (if b then Answer (after_own_boot_up i m, []) else after_boot_at t i m)
        by true f = own i e f
        by false f = rw (boots_outcome t i m image, boots_reads t i m image) (boots i e f)

    answer_holds : (place : Option ℕ) → place_of (sdo_answer_id 0) frame.id m.nodes ≡ place
        → Holds (after_sdo_frame t frame.bytes place m)
    unfolding after_sdo_frame
    answer_holds None e = nothing
    answer_holds (Some i) e = rw (answered_outcome t frame.bytes i m image, answered_reads t frame.bytes i m image)
        (answers i e)

    pub received_holds : Holds (after_frame t frame m)
    unfolding after_frame
    received_holds =
        picked Holds (has_boot_up_byte frame.bytes) _ _ (boot_up_holds (place_of (error_control_id 0) frame.id m.nodes) refl)
        (picked Holds (length frame.bytes == 8) _ _ (answer_holds (place_of (sdo_answer_id 0) frame.id m.nodes) refl)
        nothing)
