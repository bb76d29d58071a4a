-- What resets, kept frames, boot-ups and confirmed writes read.
use Rattle.std.proofs.Common.{◌≡◌, ◌≢◌, ℕ, ◌+◌, Bool, true, false, List, [], ◌∷◌, Option, Some, None, refl, ap, ◌∙◌}
use Rattle.std.proofs.Common.{arith}
use Rattle.std.specs.Prelude.{if◌then◌else◌, ◌==◌}
use Rattle.std.proofs.lemmas.Bool.Decides.{nat_tests}
use Rattle.image_parts.specs.Asking.{Answer, reads}
use Rattle.can_frame.specs.Frames.{BaseFrame}
use Rattle.co_device.specs.Device.{Device, after_power, reset_communication, after_reset_node}
use Rattle.co_device.specs.Receiving.{after_mapping, after_kept_frame, after_sync_at}
use Rattle.image_parts.specs.Contents.{Content, Image, identity_of}
use Rattle.image_parts.specs.declared.identity.Identity.{Identity}
use Rattle.image_parts.specs.declared.part.Part.{Part}
use Rattle.image_parts.specs.declared.part.Part.TheVariants.{Boot, Defaults, Expect, Shape}
use Rattle.sdo_client.specs.Client.{after_answer}
use Rattle.sdo_client.specs.declared.progress.Progress.{Progress}
use Rattle.sdo_client.specs.declared.progress.Progress.TheVariants as progress
use Rattle.sdo_client.specs.declared.client_transfer.ClientTransfer.{ClientTransfer as Transfer}
use Rattle.device_pdos.specs.Rpdos.{rpdo_at}
use Rattle.node_boot.specs.Boot.{after_compare, after_write, boot_nmt_slave, check_identity, compared_next}
use Rattle.node_boot.specs.Boot.{download_configuration, boot_failed, is_as_expected, next_compared, sdo_answer}
use Rattle.node_boot.specs.declared.boot_stage.BootStage.TheVariants.{Comparing, Writing}
use Rattle.node_boot.specs.declared.note_kind.NoteKind.TheVariants as word

is_other : (a b : ℕ) → a ≢ b → (a == b) ≡ false
is_other a b differ = by (a == b) refl
  where
    same : (a == b) ≡ true → a ≡ b
    same e = grind (arith, nat_tests)

    by : (x : Bool) → (a == b) ≡ x → (a == b) ≡ false
    by true e = absurd (differ (same e))
    by false e = e

module _ (image : Image) where
  -- ---- devices

  module _ (t : ℕ) (d : Device) where
    pub node_reads : reads (after_reset_node t d) image ≡ (Defaults d.number, image (Defaults d.number))
        ∷ (Shape d.number, image (Shape d.number)) ∷ []
    unfolding after_reset_node
    node_reads = refl

    pub communication_reads : reads (reset_communication t d) image ≡ (Defaults d.number, image (Defaults d.number))
        ∷ (Shape d.number, image (Shape d.number)) ∷ []
    unfolding reset_communication
    communication_reads = refl

    pub switched_reads : d.has_power ≡ false
        → reads (after_power true t d) image ≡ (Defaults d.number, image (Defaults d.number))
        ∷ (Shape d.number, image (Shape d.number)) ∷ []
    unfolding after_power after_reset_node
    switched_reads off = rw off refl

    pub on_reads : d.has_power ≡ true → reads (after_power true t d) image ≡ []
    unfolding after_power
    on_reads on = rw on refl

    pub off_reads : reads (after_power false t d) image ≡ []
    unfolding after_power
    off_reads = refl

    pub none_kept_reads : (i : ℕ) → (rpdo_at d.rpdos i).kept ≡ None → reads (after_sync_at t i d) image ≡ []
    unfolding after_sync_at after_kept_frame
    none_kept_reads i e = rw e refl

    pub kept_reads : (frame : BaseFrame) (i : ℕ) → (rpdo_at d.rpdos i).kept ≡ Some frame
        → reads (after_sync_at t i d) image ≡ (Shape d.number, image (Shape d.number)) ∷ []
    unfolding after_sync_at after_kept_frame after_mapping
    kept_reads frame i e = rw e refl

  -- ---- the manager

  module _ (deadline node : ℕ) where
    first_write : (expected : Identity) (place : ℕ) → next_compared expected place ≡ None
        → reads (check_identity deadline node expected place) image ≡ (Boot node 0, image (Boot node 0)) ∷ []
    unfolding check_identity download_configuration
    first_write expected place e = rw e refl

    no_write : (expected : Identity) (place : ℕ) → next_compared expected place ≢ None
        → reads (check_identity deadline node expected place) image ≡ []
    unfolding check_identity
    no_write expected place differ = by (next_compared expected place) differ
      where
        by : (next : Option ℕ) → next ≢ None → reads (compared_next deadline node expected next) image ≡ []
        by None other = absurd (other refl)
        by (Some left) other = refl

    pub boot_up_compares : next_compared (identity_of (image (Expect node))) 0 ≢ None
        → reads (boot_nmt_slave deadline node) image ≡ (Expect node, image (Expect node)) ∷ []
    unfolding boot_nmt_slave
    boot_up_compares differ = ap (λ (rs : List (Part × Content)). (Expect node, image (Expect node)) ∷ rs)
        (no_write (identity_of (image (Expect node))) 0 differ)

    pub boot_up_writes : next_compared (identity_of (image (Expect node))) 0 ≡ None
        → reads (boot_nmt_slave deadline node) image
        ≡ (Expect node, image (Expect node)) ∷ (Boot node 0, image (Boot node 0)) ∷ []
    unfolding boot_nmt_slave
    boot_up_writes e = ap (λ (rs : List (Part × Content)). (Expect node, image (Expect node)) ∷ rs)
        (first_write (identity_of (image (Expect node))) 0 e)

    module _ (transfer : Transfer) (old : ℕ) (answer : List ℕ) where
      pub compared_writes : (expected : Identity) (place : ℕ) (bytes : List ℕ)
          → (after_answer transfer answer).progress ≡ Some (progress.Read bytes)
          → is_as_expected expected place bytes ≡ true → next_compared expected (place + 1) ≡ None
          → reads (sdo_answer deadline node (Comparing place expected transfer old) answer) image
          ≡ (Boot node 0, image (Boot node 0)) ∷ []
      unfolding sdo_answer
      compared_writes expected place bytes read same over =
          ap (λ (p : Option Progress). reads (after_compare deadline old node place expected
          (after_answer transfer answer).stage p) image) read
          ∙ ap (λ (b : Bool). reads (if b then check_identity deadline node expected (place + 1)
          else Answer (boot_failed word.Difference None)) image) same
          ∙ first_write expected (place + 1) over

      pub confirmed_writes : (j : ℕ) → (after_answer transfer answer).progress ≡ Some progress.Written
          → reads (sdo_answer deadline node (Writing j transfer old) answer) image
          ≡ (Boot node (j + 1), image (Boot node (j + 1))) ∷ []
      unfolding sdo_answer download_configuration
      confirmed_writes j written =
          ap (λ (p : Option Progress). reads (after_write deadline old node j (after_answer transfer answer).stage p)
          image) written
