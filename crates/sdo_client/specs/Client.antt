-- An SDO client (CiA 301): the frame by which it starts a transfer, what an answer or a time-out makes it do, and what
-- that leaves.
use Rattle.std.specs.Prelude.{◌≡◌, ℕ, ◌+◌, ◌==◌, nat_lt, Bool, true, false, not, ◌&&◌, ◌||◌, if◌then◌else◌, List, []}
use Rattle.std.specs.Prelude.{◌++◌, length, take, drop, Option, Some, None}
use Rattle.co_dict.specs.declared.abort.Abort.{Abort}
use Rattle.co_dict.specs.Aborts.{timed_out, toggle_not_alternated, unknown_command}
use Rattle.sdo_client.specs.declared.advance.Advance.{Advance}
use Rattle.sdo_client.specs.declared.progress.Progress.{Progress}
use Rattle.sdo_client.specs.declared.progress.Progress.TheVariants.{Ask, Written, Read, Failed}
use Rattle.sdo_client.specs.declared.client_transfer.ClientTransfer.{ClientTransfer}
use Rattle.sdo_client.specs.declared.client_transfer.ClientTransfer.TheVariants.{Idle, Downloading, Offering}
use Rattle.sdo_client.specs.declared.client_transfer.ClientTransfer.TheVariants.{SendingSegments, Uploading}
use Rattle.sdo_client.specs.declared.client_transfer.ClientTransfer.TheVariants.{TakingSegments}
use Rattle.co_sdo.specs.Frames.{abort_frame, command, expedited_download, has_toggle, is_expedited, is_last}
use Rattle.co_sdo.specs.Frames.{is_last_piece, is_wrong_length, names, next_segment, number_told, piece}
use Rattle.co_sdo.specs.Frames.{segment_request, segmented_download, toggle_bit, upload_request}

abbrev pub is_idle : ClientTransfer → Bool
is_idle Idle = true
is_idle (Downloading place) = false
is_idle (Offering place rest) = false
is_idle (SendingSegments place rest toggle) = false
is_idle (Uploading place) = false
is_idle (TakingSegments place size taken toggle) = false

-- the entry of the open transfer; 0 and 0 where none is open
abbrev pub entry_of : ClientTransfer → ℕ × ℕ
entry_of Idle = (0, 0)
entry_of (Downloading place) = place
entry_of (Offering place rest) = place
entry_of (SendingSegments place rest toggle) = place
entry_of (Uploading place) = place
entry_of (TakingSegments place size taken toggle) = place

-- ---- starts: the first frame, and what is awaited then

unfoldable pub download_start : ℕ × ℕ → List ℕ → List ℕ × ClientTransfer
download_start place value =
    if is_expedited value then (expedited_download place value, Downloading place)
    else (segmented_download place (length value), Offering place value)

abbrev pub upload_start : ℕ × ℕ → List ℕ × ClientTransfer
upload_start place = (upload_request place, Uploading place)

-- ---- what an answer makes the client do

-- nothing, since no transfer is open
abbrev pub is_not_awaited : Advance
is_not_awaited = record { progress = None; stage = Idle }

-- a further frame to send
abbrev pub next_request : List ℕ → ClientTransfer → Advance
next_request frame stage = record { progress = Some (Ask frame); stage = stage }

-- the transfer is over
abbrev pub end_of_transfer : Progress → Advance
end_of_transfer progress = record { progress = Some progress; stage = Idle }

-- the client aborts the transfer
abbrev pub client_abort : ℕ × ℕ → Abort → Advance
client_abort place abort = end_of_transfer (Failed abort (Some (abort_frame place abort)))

-- an answer that isn't the awaited one
abbrev pub unexpected_answer : ℕ × ℕ → Advance
unexpected_answer place = client_abort place unknown_command

-- the confirmation of a download, 60h and the entry; then comes what follows
abbrev pub if_confirmed : ℕ × ℕ → List ℕ → Advance → Advance
if_confirmed place answer next = if (command answer == 0x60) && names place answer then next
    else unexpected_answer place

-- the confirmation of a segment, 20h or 30h; rest is the value from that segment on
unfoldable pub after_segment_confirmed : ℕ × ℕ → List ℕ → Bool → List ℕ → Advance
after_segment_confirmed place rest toggle answer =
    if not ((command answer == 0x20) || (command answer == 0x30)) then unexpected_answer place
    else if not (command answer == 0x20 + toggle_bit toggle) then client_abort place toggle_not_alternated
    else if is_last_piece rest then end_of_transfer Written
    else next_request (next_segment (not toggle) (drop 7 rest)) (SendingSegments place (drop 7 rest) (not toggle))

-- the answer to an upload request: the value, or its size
unfoldable pub after_upload_answer : ℕ × ℕ → List ℕ → Advance
after_upload_answer place answer =
    if not (names place answer) then unexpected_answer place
    else if command answer == 0x4F then end_of_transfer (Read (take 1 (drop 4 answer)))
    else if command answer == 0x4B then end_of_transfer (Read (take 2 (drop 4 answer)))
    else if command answer == 0x47 then end_of_transfer (Read (take 3 (drop 4 answer)))
    else if command answer == 0x43 then end_of_transfer (Read (take 4 (drop 4 answer)))
    else if command answer == 0x41 then next_request (segment_request false)
    (TakingSegments place (number_told answer) [] false)
    else unexpected_answer place

-- a segment, 00h to 1Fh; the value must have the size that was told
unfoldable pub after_upload_segment : ℕ × ℕ → ℕ → List ℕ → Bool → List ℕ → Advance
after_upload_segment place size taken toggle answer =
    if not (nat_lt (command answer) 0x20) then unexpected_answer place
    else if not (has_toggle toggle answer) then client_abort place toggle_not_alternated
    else if is_wrong_length size (length (taken ++ piece answer)) (is_last answer) then unexpected_answer place
    else if is_last answer then end_of_transfer (Read (taken ++ piece answer))
    else next_request (segment_request (not toggle)) (TakingSegments place size (taken ++ piece answer) (not toggle))

-- an answer other than an abort, by what is awaited
abbrev pub after_awaited : ClientTransfer → List ℕ → Advance
after_awaited Idle answer = is_not_awaited
after_awaited (Downloading place) answer = if_confirmed place answer (end_of_transfer Written)
after_awaited (Offering place rest) answer =
    if_confirmed place answer (next_request (next_segment false rest) (SendingSegments place rest false))
after_awaited (SendingSegments place rest toggle) answer = after_segment_confirmed place rest toggle answer
after_awaited (Uploading place) answer = after_upload_answer place answer
after_awaited (TakingSegments place size taken toggle) answer = after_upload_segment place size taken toggle answer

-- an abort of the server ends the open transfer with its code, whatever entry it names
unfoldable pub after_answer : ClientTransfer → List ℕ → Advance
after_answer stage answer =
    if is_idle stage then is_not_awaited
    else if command answer == 0x80 then end_of_transfer (Failed (record { 0 = number_told answer }) None)
    else after_awaited stage answer

-- no answer came in time
unfoldable pub timed_out_at : ClientTransfer → Advance
timed_out_at stage = if is_idle stage then is_not_awaited else client_abort (entry_of stage) timed_out

-- ---- a client, None where it is spent

-- it starts a transfer
abbrev pub Starts : Option ClientTransfer → List ℕ × ClientTransfer → List ℕ → Option ClientTransfer → Type 0
Starts None start frame next = ⊥
Starts (Some stage) start frame None = ⊥
Starts (Some stage) start frame (Some next) = start ≡ (frame, next)

-- something makes it do what a rule says
abbrev pub Advances : (ClientTransfer → Advance) → Option ClientTransfer → Option Progress → Option ClientTransfer
    → Type 0
Advances rule None progress next = ⊥
Advances rule (Some stage) progress None = ⊥
Advances rule (Some stage) progress (Some next) = rule stage ≡ record { progress = progress; stage = next }
