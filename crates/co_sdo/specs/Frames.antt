-- The frames of SDO transfers (CiA 301): eight bytes each, zeros where a frame uses none. Numbers travel with the
-- lowest byte first.
use Rattle.std.specs.Prelude.{ℕ, ◌+◌, ◌-◌, ◌*◌, ◌/◌, ◌%◌, ◌==◌, nat_le, nat_lt, ◌||◌, Bool, ◌&&◌, if◌then◌else◌, List}
use Rattle.std.specs.Prelude.{[], ◌∷◌, ◌++◌, length, take, drop, map, replicate, slice_index}
use Rattle.std.specs.List.{range_with_len}
use Rattle.byteorder.specs.Endian.{little_bytes, little_number}
use Rattle.co_dict.specs.declared.abort.Abort.{Abort}

-- bytes, and zeros up to a count
abbrev pub with_zeros : ℕ → List ℕ → List ℕ
with_zeros count bytes = bytes ++ replicate (count - length bytes) 0

-- ---- frames that name an entry

-- the command byte, the entry's index and sub-index, and up to four bytes
abbrev pub entry_frame : ℕ → ℕ × ℕ → List ℕ → List ℕ
entry_frame command place bytes = command ∷ little_bytes 2 place.0 ++ place.1 ∷ with_zeros 4 bytes

-- a value of one to four bytes is expedited: it travels in the initiate frame itself
abbrev pub is_expedited : List ℕ → Bool
is_expedited value = nat_le 1 (length value) && nat_le (length value) 4

-- the command byte of an expedited initiate tells how many of the four bytes are unused
abbrev pub with_unused : ℕ → List ℕ → ℕ
with_unused command value = command + 4 * (4 - length value)

abbrev pub expedited_download : ℕ × ℕ → List ℕ → List ℕ
expedited_download place value = entry_frame (with_unused 0x23 value) place value

abbrev pub segmented_download : ℕ × ℕ → ℕ → List ℕ
segmented_download place size = entry_frame 0x21 place (little_bytes 4 size)

abbrev pub download_confirmed : ℕ × ℕ → List ℕ
download_confirmed place = entry_frame 0x60 place []

abbrev pub upload_request : ℕ × ℕ → List ℕ
upload_request place = entry_frame 0x40 place []

abbrev pub expedited_upload : ℕ × ℕ → List ℕ → List ℕ
expedited_upload place value = entry_frame (with_unused 0x43 value) place value

abbrev pub segmented_upload : ℕ × ℕ → ℕ → List ℕ
segmented_upload place size = entry_frame 0x41 place (little_bytes 4 size)

abbrev pub abort_frame : ℕ × ℕ → Abort → List ℕ
abort_frame place abort = entry_frame 0x80 place (little_bytes 4 abort.0)

-- ---- segments, seven bytes of the value in each

-- the command byte, and up to seven bytes
abbrev pub command_frame : ℕ → List ℕ → List ℕ
command_frame command bytes = command ∷ with_zeros 7 bytes

-- the toggle bit, in its place in a command byte
abbrev pub toggle_bit : Bool → ℕ
toggle_bit toggle = if toggle then 0x10 else 0

-- a segment of up to seven bytes: its command byte tells the toggle, how many bytes are unused, and whether it is the
-- last
abbrev pub segment : Bool → Bool → List ℕ → List ℕ
segment toggle is_last piece = command_frame (toggle_bit toggle + 2 * (7 - length piece) + (if is_last then 1
    else 0)) piece

abbrev pub segment_confirmed : Bool → List ℕ
segment_confirmed toggle = command_frame (0x20 + toggle_bit toggle) []

abbrev pub segment_request : Bool → List ℕ
segment_request toggle = command_frame (0x60 + toggle_bit toggle) []

-- the bytes that are left of a value fit into one segment
abbrev pub is_last_piece : List ℕ → Bool
is_last_piece rest = nat_le (length rest) 7

-- the next segment of a value of which these bytes are left
abbrev pub next_segment : Bool → List ℕ → List ℕ
next_segment toggle rest = segment toggle (is_last_piece rest) (take 7 rest)

-- ---- what a frame says

abbrev pub command : List ℕ → ℕ
command frame = slice_index frame 0

-- the entry that a frame names
abbrev pub place_named : List ℕ → ℕ × ℕ
place_named frame = (little_number 2 (drop 1 frame), slice_index frame 3)

abbrev pub names : ℕ × ℕ → List ℕ → Bool
names place frame = ((place_named frame).0 == place.0) && ((place_named frame).1 == place.1)

-- the size of a segmented value, or the code of an abort
abbrev pub number_told : List ℕ → ℕ
number_told frame = little_number 4 (drop 4 frame)

-- a segment has the toggle: bits 4 to 7 of its command byte are that alone
abbrev pub has_toggle : Bool → List ℕ → Bool
has_toggle toggle frame = command frame / 0x10 * 0x10 == toggle_bit toggle

-- the bytes of a segment: those of seven that its command byte doesn't say are unused
abbrev pub piece : List ℕ → List ℕ
piece frame = take (7 - command frame / 2 % 8) (drop 1 frame)

abbrev pub is_last : List ℕ → Bool
is_last frame = command frame % 2 == 1

-- the bytes that came so far are more than the size, or fewer after the last segment
abbrev pub is_wrong_length : ℕ → ℕ → Bool → Bool
is_wrong_length size came is_last = nat_lt size came || (is_last && nat_lt came size)

-- ---- whole transfers, as functions of the value: the frames of the client, each with the server's answer

-- seven bytes a piece; an empty value is one piece of none
abbrev pub count_of_pieces : List ℕ → ℕ
count_of_pieces value = if length value == 0 then 1 else (length value + 6) / 7

-- the bytes of a value from a piece on
abbrev pub from_piece : List ℕ → ℕ → List ℕ
from_piece value k = drop (7 * k) value

-- the toggle alternates, from 0
abbrev pub toggle_of : ℕ → Bool
toggle_of k = k % 2 == 1

abbrev pub download_segments : List ℕ → List (List ℕ × List ℕ)
download_segments value = map (λ k. (next_segment (toggle_of k) (from_piece value k), segment_confirmed (toggle_of k)))
    (range_with_len 0 (count_of_pieces value))

abbrev pub upload_segments : List ℕ → List (List ℕ × List ℕ)
upload_segments value = map (λ k. (segment_request (toggle_of k), next_segment (toggle_of k) (from_piece value k)))
    (range_with_len 0 (count_of_pieces value))

-- the frames of the download of a value
unfoldable pub download_frames : ℕ × ℕ → List ℕ → List (List ℕ × List ℕ)
download_frames place value =
    if is_expedited value then (expedited_download place value, download_confirmed place) ∷ []
    else (segmented_download place (length value), download_confirmed place) ∷ download_segments value

-- the frames of the upload of a value
unfoldable pub upload_frames : ℕ × ℕ → List ℕ → List (List ℕ × List ℕ)
upload_frames place value =
    if is_expedited value then (upload_request place, expedited_upload place value) ∷ []
    else (upload_request place, segmented_upload place (length value)) ∷ upload_segments value
