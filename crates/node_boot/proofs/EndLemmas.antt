-- A boot says that a node is configured only where its writes end.
use Rattle.std.proofs.Common.{◌≡◌, ℕ, suc, ◌+◌, List, ◌∷◌, Option, Some, None, refl}
use Rattle.std.proofs.Common.{arith}
use Rattle.std.specs.Prelude.{Contains, ◌==◌}
use Rattle.image_parts.specs.Asking.{Asking, Answer, outcome, reads}
use Rattle.sdo_client.specs.Client.{after_answer}
use Rattle.sdo_client.specs.declared.progress.Progress.{Progress}
use Rattle.sdo_client.specs.declared.progress.Progress.TheVariants as progress
use Rattle.sdo_client.specs.declared.client_transfer.ClientTransfer.{ClientTransfer as Transfer}
use Rattle.concise_dcf.specs.declared.write.Write.{Write}
use Rattle.image_parts.specs.Contents.{Content, Image, identity_of, write_of}
use Rattle.image_parts.specs.declared.identity.Identity.{Identity}
use Rattle.image_parts.specs.declared.part.Part.{Part}
use Rattle.image_parts.specs.declared.part.Part.TheVariants.{Expect, Boot}
use Rattle.node_boot.proofs.ChoiceLemmas.{picked}
use Rattle.node_boot.specs.Boot.{boot_failed, write_started, download_configuration}
use Rattle.node_boot.specs.Boot.{comparison_started, compared_next, check_identity, next_compared, boot_nmt_slave}
use Rattle.node_boot.specs.Boot.{after_compare, after_write, is_as_expected, sdo_answer}
use Rattle.node_boot.specs.Ends.{IsAbsent}
use Rattle.node_boot.specs.declared.boot_stage.BootStage.{BootStage}
use Rattle.node_boot.specs.declared.boot_stage.BootStage.TheVariants.{Unseen, Comparing, Writing, Configured, Failed, Own}
use Rattle.node_boot.specs.declared.boot_step.BootStep.{BootStep}
use Rattle.node_boot.specs.declared.note_kind.NoteKind.TheVariants as kind

in_more : {X : Type 0} (xs : List X) (y x : X) → Contains xs x → Contains (y ∷ xs) x
in_more xs y x h = (suc h.0, omega (arith, h.1), h.2)

module _ (image : Image) (node : ℕ) where
  -- where it says configured, a write was asked for and is absent
  abbrev pub Ends : Asking Part Content BootStep → Type 0
  Ends a = (outcome a image).note ≡ Some kind.Configured → (place : ℕ) × IsAbsent image node (reads a image) place

  silent : (step : BootStep) → step.note ≡ None → Ends (Answer step)
  silent step e f = cc

  module _ (deadline : ℕ) where
    written_ends : (place : ℕ) (w : Option Write) → (write_started deadline place w).note ≡ Some kind.Configured
        → w ≡ None
    unfolding write_started
    written_ends place None e = refl
    written_ends place (Some w) e = cc

    download_ends : (place : ℕ) → Ends (download_configuration deadline node place)
    unfolding download_configuration
    download_ends place e = (
      place,
      record { asked = (0, omega arith, refl); absent = written_ends place (write_of (image (Boot node place))) e },
    )

    next_ends : (expected : Identity) (next : Option ℕ) → Ends (compared_next deadline node expected next)
    unfolding comparison_started
    next_ends expected None = download_ends 0
    next_ends expected (Some place) = silent (comparison_started deadline expected place) refl

    check_ends : (expected : Identity) (place : ℕ) → Ends (check_identity deadline node expected place)
    unfolding check_identity
    check_ends expected place = next_ends expected (next_compared expected place)

    later : (place : ℕ) (a : Asking Part Content BootStep) (y : Part × Content)
        → IsAbsent image node (reads a image) place → IsAbsent image node (y ∷ reads a image) place
    later place a y h = record { asked = in_more (reads a image) y _ h.asked; absent = h.absent }

    pub boot_ends : Ends (boot_nmt_slave deadline node)
    unfolding boot_nmt_slave
    boot_ends e =
        let a = check_identity deadline node (identity_of (image (Expect node))) 0 in
        let h = check_ends (identity_of (image (Expect node))) 0 e in
        (h.0, later h.0 a (Expect node, image (Expect node)) h.1)

    different : Ends (Answer (boot_failed kind.Difference None))
    different e = cc

    compare_ends : (old place : ℕ) (expected : Identity) (transfer : Transfer) (p : Option Progress)
        → Ends (after_compare deadline old node place expected transfer p)
    compare_ends old place expected transfer None e = cc
    compare_ends old place expected transfer (Some (progress.Ask request)) e = cc
    compare_ends old place expected transfer (Some progress.Written) e = cc
    compare_ends old place expected transfer (Some (progress.Read bytes)) e =
        picked Ends (is_as_expected expected place bytes) _ _ (check_ends expected (place + 1)) different e
    compare_ends old place expected transfer (Some (progress.Failed abort frame)) e = cc

    write_ends : (old place : ℕ) (transfer : Transfer) (p : Option Progress)
        → Ends (after_write deadline old node place transfer p)
    write_ends old place transfer None e = cc
    write_ends old place transfer (Some (progress.Ask request)) e = cc
    write_ends old place transfer (Some progress.Written) e = download_ends (place + 1) e
    write_ends old place transfer (Some (progress.Read bytes)) e = cc
    write_ends old place transfer (Some (progress.Failed abort frame)) e = cc

    pub answer_ends : (stage : BootStage) (answer : List ℕ) → Ends (sdo_answer deadline node stage answer)
    unfolding sdo_answer
    answer_ends Unseen answer e = cc
    answer_ends (Comparing place expected transfer old) answer e =
        compare_ends old place expected (after_answer transfer answer).stage
        (after_answer transfer answer).progress e
    answer_ends (Writing place transfer old) answer e =
        write_ends old place (after_answer transfer answer).stage (after_answer transfer answer).progress e
    answer_ends Configured answer e = cc
    answer_ends Failed answer e = cc
    answer_ends Own answer e = cc
