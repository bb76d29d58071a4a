-- The boot of one node by the manager (CiA 302, Boot NMT slave). All moments are absolute, in microseconds from the
-- power-on of the network.
use Rattle.std.specs.Prelude.{ℕ, ◌+◌, ◌==◌, ◌&&◌, not, Bool, false, List, [], ◌∷◌, length, slice_index_or, nat_le}
use Rattle.std.specs.Prelude.{Option, Some, None, if◌then◌else◌, find}
use Rattle.image_parts.specs.Asking.{Asking, Answer, Ask}
use Rattle.byteorder.specs.Endian.{little_number}
use Rattle.sdo_client.specs.Client.{after_answer, download_start, upload_start, timed_out_at}
use Rattle.sdo_client.specs.declared.progress.Progress.{Progress}
use Rattle.sdo_client.specs.declared.progress.Progress.TheVariants as progress
use Rattle.sdo_client.specs.declared.client_transfer.ClientTransfer.{ClientTransfer as Transfer}
use Rattle.concise_dcf.specs.declared.write.Write.{Write}
use Rattle.image_parts.specs.Contents.{Content, identity_of, write_of}
use Rattle.image_parts.specs.declared.identity.Identity.{Identity}
use Rattle.image_parts.specs.declared.part.Part.{Part}
use Rattle.image_parts.specs.declared.part.Part.TheVariants.{Expect, Boot}
use Rattle.node_boot.specs.declared.boot_stage.BootStage.{BootStage}
use Rattle.node_boot.specs.declared.boot_stage.BootStage.TheVariants.{Unseen, Comparing, Writing, Configured, Failed, Own}
use Rattle.node_boot.specs.declared.boot_step.BootStep.{BootStep}
use Rattle.node_boot.specs.declared.note_kind.NoteKind.{NoteKind}
use Rattle.node_boot.specs.declared.note_kind.NoteKind.TheVariants as kind

-- the stage stays, and nothing is queued or noted
abbrev pub no_step : BootStage → BootStep
no_step stage = record { stage = stage; request = None; note = None }

-- the boot has failed, for a reason
abbrev pub boot_failed : NoteKind → Option (List ℕ) → BootStep
boot_failed reason request = record { stage = Failed; request = request; note = Some reason }

-- a request is queued now, and its answer awaited until the deadline
abbrev pub request_sent : BootStage → List ℕ → BootStep
request_sent stage request = record { stage = stage; request = Some request; note = None }

-- ---- check node type and identity: 1000h:00, then 1018h:01 to 04, each where a number is expected

-- the entry that is compared in place k of the five
abbrev pub identity_entry : ℕ → ℕ × ℕ
identity_entry place = (if place == 0 then 0x1000 else 0x1018, place)

abbrev pub expected_number : Identity → ℕ → ℕ
expected_number expected place = slice_index_or expected.numbers place 0

abbrev pub is_expected : Identity → ℕ → Bool
is_expected expected place = not (expected_number expected place == 0)

unfoldable pub comparison_started : ℕ → Identity → ℕ → BootStep
comparison_started deadline expected place =
    request_sent (Comparing place expected (upload_start (identity_entry place)).1 deadline)
    (upload_start (identity_entry place)).0

-- the first of the five places, from this one on, at which a number is expected
unfoldable pub next_compared : Identity → ℕ → Option ℕ
next_compared expected place = find (λ k. nat_le place k && is_expected expected k) (0 ∷ 1 ∷ 2 ∷ 3 ∷ 4 ∷ [])

-- a value of at most four bytes that is the expected number
unfoldable pub is_as_expected : Identity → ℕ → List ℕ → Bool
is_as_expected expected place bytes = nat_le (length bytes) 4
    && (little_number (length bytes) bytes == expected_number expected place)

-- ---- download configuration: the writes of the concise DCF, up to the first that is absent

abbrev pub boot_completed : BootStep
boot_completed = record { stage = Configured; request = None; note = Some kind.Configured }

unfoldable pub write_started : ℕ → ℕ → Option Write → BootStep
write_started deadline place None = boot_completed
write_started deadline place (Some w) =
    request_sent (Writing place (download_start (w.index, w.sub) w.bytes).1 deadline)
    (download_start (w.index, w.sub) w.bytes).0

unfoldable pub download_configuration : ℕ → ℕ → ℕ → Asking Part Content BootStep
download_configuration deadline node place = Ask (Boot node place)
    (λ v. Answer (write_started deadline place (write_of v)))

-- the number in the place is compared, and where no place is left come the writes
abbrev pub compared_next : ℕ → ℕ → Identity → Option ℕ → Asking Part Content BootStep
compared_next deadline node expected None = download_configuration deadline node 0
compared_next deadline node expected (Some place) = Answer (comparison_started deadline expected place)

unfoldable pub check_identity : ℕ → ℕ → Identity → ℕ → Asking Part Content BootStep
check_identity deadline node expected place = compared_next deadline node expected (next_compared expected place)

-- ---- boot NMT slave: on the boot-up of a node; the expected numbers are read here alone

unfoldable pub boot_nmt_slave : ℕ → ℕ → Asking Part Content BootStep
boot_nmt_slave deadline node = Ask (Expect node) (λ v. check_identity deadline node (identity_of v) 0)

-- ---- SDO answers of a node that is booting; what is queued now has the new deadline, and else the old one stays

abbrev pub after_compare : ℕ → ℕ → ℕ → ℕ → Identity → Transfer → Option Progress → Asking Part Content BootStep
after_compare deadline old node place expected transfer None = Answer (no_step (Comparing place expected transfer old))
after_compare deadline old node place expected transfer (Some (progress.Ask request)) =
    Answer (request_sent (Comparing place expected transfer deadline) request)
after_compare deadline old node place expected transfer (Some progress.Written) =
    Answer (no_step (Comparing place expected transfer old))
after_compare deadline old node place expected transfer (Some (progress.Read bytes)) =
    if is_as_expected expected place bytes then check_identity deadline node expected (place + 1)
    else Answer (boot_failed kind.Difference None)
after_compare deadline old node place expected transfer (Some (progress.Failed abort frame)) =
    Answer (boot_failed (kind.Aborted abort) frame)

abbrev pub after_write : ℕ → ℕ → ℕ → ℕ → Transfer → Option Progress → Asking Part Content BootStep
after_write deadline old node place transfer None = Answer (no_step (Writing place transfer old))
after_write deadline old node place transfer (Some (progress.Ask request)) =
    Answer (request_sent (Writing place transfer deadline) request)
after_write deadline old node place transfer (Some progress.Written) = download_configuration deadline node (place + 1)
after_write deadline old node place transfer (Some (progress.Read bytes)) =
    Answer (no_step (Writing place transfer old))
after_write deadline old node place transfer (Some (progress.Failed abort frame)) =
    Answer (boot_failed (kind.Aborted abort) frame)

abbrev pub answer_taken : ℕ → ℕ → BootStage → List ℕ → Asking Part Content BootStep
answer_taken deadline node Unseen answer = Answer (no_step Unseen)
answer_taken deadline node (Comparing place expected transfer old) answer =
    after_compare deadline old node place expected (after_answer transfer answer).stage
    (after_answer transfer answer).progress
answer_taken deadline node (Writing place transfer old) answer =
    after_write deadline old node place (after_answer transfer answer).stage (after_answer transfer answer).progress
answer_taken deadline node Configured answer = Answer (no_step Configured)
answer_taken deadline node Failed answer = Answer (no_step Failed)
answer_taken deadline node Own answer = Answer (no_step Own)

unfoldable pub sdo_answer : ℕ → ℕ → BootStage → List ℕ → Asking Part Content BootStep
sdo_answer deadline node stage answer = answer_taken deadline node stage answer

-- ---- SDO time-outs

abbrev pub deadline_of : BootStage → Option ℕ
deadline_of Unseen = None
deadline_of (Comparing place expected transfer deadline) = Some deadline
deadline_of (Writing place transfer deadline) = Some deadline
deadline_of Configured = None
deadline_of Failed = None
deadline_of Own = None

abbrev pub is_at : ℕ → Option ℕ → Bool
is_at t None = false
is_at t (Some moment) = moment == t

abbrev pub is_timed_out : ℕ → BootStage → Bool
is_timed_out t stage = is_at t (deadline_of stage)

-- the frame of an abort by the client, if there is one
abbrev pub abort_sent : Option Progress → Option (List ℕ)
abort_sent None = None
abort_sent (Some (progress.Ask request)) = None
abort_sent (Some progress.Written) = None
abort_sent (Some (progress.Read bytes)) = None
abort_sent (Some (progress.Failed abort frame)) = frame

abbrev pub time_out_frame : BootStage → Option (List ℕ)
time_out_frame Unseen = None
time_out_frame (Comparing place expected transfer deadline) = abort_sent (timed_out_at transfer).progress
time_out_frame (Writing place transfer deadline) = abort_sent (timed_out_at transfer).progress
time_out_frame Configured = None
time_out_frame Failed = None
time_out_frame Own = None

unfoldable pub sdo_time_out : BootStage → BootStep
sdo_time_out stage = boot_failed kind.TimedOut (time_out_frame stage)
