-- An SDO server (CiA 301): what it answers to a request, and what that leaves.
use Rattle.std.specs.Prelude.{◌≡◌, ℕ, ◌+◌, ◌==◌, nat_lt, Bool, true, false, not, ◌||◌, if◌then◌else◌, List, [], ◌++◌}
use Rattle.std.specs.Prelude.{length, take, drop, Option, Some, None, MatchOption, Result, Ok, Err}
use Rattle.std.specs.FinMap.{insert}
use Rattle.co_dict.specs.declared.abort.Abort.{Abort}
use Rattle.co_dict.specs.Aborts.{toggle_not_alternated, unknown_command, length_does_not_match}
use Rattle.co_dict.specs.Checks.{access_check, length_check, read_check}
use Rattle.co_dict.specs.Shapes.{Shaped}
use Rattle.co_dict.specs.Values.{Values, bytes_at}
use Rattle.co_dict.specs.WriteCheck.{write_check}
use Rattle.co_sdo.specs.declared.transfer.Transfer.{Transfer}
use Rattle.co_sdo.specs.declared.transfer.Transfer.TheVariants.{Idle, Download, Upload}
use Rattle.co_sdo.specs.Frames.{abort_frame, command, download_confirmed, expedited_upload, has_toggle, is_expedited}
use Rattle.co_sdo.specs.Frames.{is_last, is_last_piece, is_wrong_length, next_segment, number_told, piece, place_named}
use Rattle.co_sdo.specs.Frames.{segment_confirmed, segmented_upload, toggle_bit}

-- after a request: the answer, the values, the open transfer, and the entry that was written
pub record AfterRequest : Type 0 where
  pub answer : Option (List ℕ)
  pub values : Values
  pub transfer : Transfer
  pub wrote : Option (ℕ × ℕ)

-- the entry of the open transfer; 0 and 0 where none is open
abbrev pub place_of : Transfer → ℕ × ℕ
place_of Idle = (0, 0)
place_of (Download place size taken toggle) = place
place_of (Upload place rest toggle) = place

-- an answer that leaves the values
abbrev pub answer_alone : List ℕ → Transfer → Values → AfterRequest
answer_alone frame transfer values = record { answer = Some frame; values = values; transfer = transfer; wrote = None }

-- each abort drops the open transfer
abbrev pub abort_answer : ℕ × ℕ → Abort → Values → AfterRequest
abort_answer place abort values = answer_alone (abort_frame place abort) Idle values

-- what follows where a check passes
abbrev pub unless_refused : Result (Unit {0}) Abort → ℕ × ℕ → Values → AfterRequest → AfterRequest
unless_refused (Ok nothing) place values next = next
unless_refused (Err abort) place values next = abort_answer place abort values

-- ---- downloads

-- the whole write check, and the write
unfoldable pub write_answer : Shaped → Values → ℕ × ℕ → List ℕ → List ℕ → AfterRequest
write_answer shape values place bytes frame =
    unless_refused (write_check shape values place bytes) place values
    (record { answer = Some frame; values = insert values place bytes; transfer = Idle; wrote = Some place })

-- an initiate with the value, of so many bytes
abbrev pub expedited_answer : ℕ → Shaped → Values → List ℕ → AfterRequest
expedited_answer count shape values request = write_answer shape values (place_named request)
    (take count (drop 4 request)) (download_confirmed (place_named request))

-- an initiate with the size: whether the entry may be written at all, and be so long, is judged at once
unfoldable pub download_answer : Shaped → Values → List ℕ → AfterRequest
download_answer shape values request =
    let place : ℕ × ℕ = place_named request in
    unless_refused (access_check shape place) place values
    (unless_refused (length_check shape place (number_told request)) place values
    (answer_alone (download_confirmed place) (Download place (number_told request) [] false) values))

-- a segment of the open download
unfoldable pub download_segment_answer : Shaped → Values → ℕ × ℕ → ℕ → List ℕ → Bool → List ℕ → AfterRequest
download_segment_answer shape values place size taken toggle request =
    if not (has_toggle toggle request) then abort_answer place toggle_not_alternated values
    else if is_wrong_length size (length (taken ++ piece request)) (is_last request)
    then abort_answer place length_does_not_match values
    else if is_last request then write_answer shape values place (taken ++ piece request) (segment_confirmed toggle)
    else answer_alone (segment_confirmed toggle) (Download place size (taken ++ piece request) (not toggle)) values

-- ---- uploads

-- a value of one to four bytes in the answer itself; of any other the size, and the transfer keeps the value as it is
-- now
abbrev pub value_answer : ℕ × ℕ → List ℕ → Values → AfterRequest
value_answer place value values =
    if is_expedited value then answer_alone (expedited_upload place value) Idle values
    else answer_alone (segmented_upload place (length value)) (Upload place value false) values

unfoldable pub upload_answer : Shaped → Values → List ℕ → AfterRequest
upload_answer shape values request =
    let place : ℕ × ℕ = place_named request in
    unless_refused (read_check shape place) place values (value_answer place (bytes_at values place) values)

-- a request of the next segment; after the last one no transfer is open
unfoldable pub upload_segment_answer : Values → ℕ × ℕ → List ℕ → Bool → List ℕ → AfterRequest
upload_segment_answer values place rest toggle request =
    if not (command request == 0x60 + toggle_bit toggle) then abort_answer place toggle_not_alternated values
    else answer_alone (next_segment toggle rest)
    (if is_last_piece rest then Idle else Upload place (drop 7 rest) (not toggle)) values

-- ---- all requests

-- a segment where no transfer of its direction is open, or an unknown command
abbrev pub unknown_request_answer : Values → Transfer → AfterRequest
unknown_request_answer values transfer = abort_answer (place_of transfer) unknown_command values

-- command bytes 00h to 1Fh
abbrev pub download_segment : Shaped → Values → Transfer → List ℕ → AfterRequest
download_segment shape values (Download place size taken toggle) request =
    download_segment_answer shape values place size taken toggle request
download_segment shape values Idle request = unknown_request_answer values Idle
download_segment shape values (Upload place rest toggle) request =
    unknown_request_answer values (Upload place rest toggle)

-- command bytes 60h and 70h
abbrev pub upload_segment : Values → Transfer → List ℕ → AfterRequest
upload_segment values (Upload place rest toggle) request = upload_segment_answer values place rest toggle request
upload_segment values Idle request = unknown_request_answer values Idle
upload_segment values (Download place size taken toggle) request =
    unknown_request_answer values (Download place size taken toggle)

-- an abort of the client has no answer and drops the open transfer, as does a new initiate
unfoldable pub server_answer : Shaped → Values → Transfer → List ℕ → AfterRequest
server_answer shape values transfer request =
    let first = command request in
    if nat_lt first 0x20 then download_segment shape values transfer request
    else if first == 0x21 then download_answer shape values request
    else if first == 0x2F then expedited_answer 1 shape values request
    else if first == 0x2B then expedited_answer 2 shape values request
    else if first == 0x27 then expedited_answer 3 shape values request
    else if first == 0x23 then expedited_answer 4 shape values request
    else if first == 0x40 then upload_answer shape values request
    else if first == 0x60 || first == 0x70 then upload_segment values transfer request
    else if first == 0x80 then record { answer = None; values = values; transfer = Idle; wrote = None }
    else unknown_request_answer values transfer

-- a server, None where it is spent, takes a request: the answer, what was written, and what is left
abbrev pub Serves : Option Transfer → Shaped → Values → List ℕ → Option (List ℕ) → Option (ℕ × ℕ) → Values
    → Option Transfer → Type 0
Serves None shape values request answer wrote left next = ⊥
Serves (Some transfer) shape values request answer wrote left None = ⊥
Serves (Some transfer) shape values request answer wrote left (Some next) =
    server_answer shape values transfer request
    ≡ record { answer = answer; values = left; transfer = next; wrote = wrote }

-- ---- in the subject's words

-- the values are those before, or differ by one entry, the one told, that now has bytes which the write check took
abbrev pub WritesOne : Shaped → Values → AfterRequest → Type 0
WritesOne shape values after =
    MatchOption after.wrote (after.values ≡ values)
    (λ place. (bytes : List ℕ) × ((write_check shape values place bytes ≡ Ok tt)
    × (after.values ≡ insert values place bytes)))

abbrev pub is_abort : Option (List ℕ) → Bool
is_abort None = false
is_abort (Some frame) = command frame == 0x80

-- after an abort no transfer is open, and the values are those before
abbrev pub LeavesOnAbort : Values → AfterRequest → Type 0
LeavesOnAbort values after = is_abort after.answer ≡ true → (after.transfer ≡ Idle) × (after.values ≡ values)
