-- An upload gives the value that the entry had at its initiate.
use Rattle.std.proofs.Common.{◌≡◌, ℕ, zero, suc, ◌<◌, ◌≤◌, Bool, true, false, not, List, [], ◌∷◌, ◌++◌, length, take}
use Rattle.std.proofs.Common.{drop, Ok, refl, sym, ap, subst, ◌∙◌, arith, append_assoc, length-append}
use Rattle.std.specs.Prelude.{nat_lt}
use Rattle.std.proofs.lemmas.List.{take-append-drop, take_all}
use Rattle.byteorder.specs.Endian.{little_bytes}
use Rattle.co_dict.specs.Checks.{read_check}
use Rattle.co_dict.specs.Shapes.{Shaped}
use Rattle.co_dict.specs.Values.{Values, bytes_at}
use Rattle.sdo_client.specs.declared.progress.Progress.TheVariants.{Read}
use Rattle.sdo_client.specs.declared.client_transfer.ClientTransfer.{ClientTransfer}
use Rattle.sdo_client.specs.declared.client_transfer.ClientTransfer.TheVariants.{TakingSegments, Uploading}
use Rattle.co_sdo.specs.declared.transfer.Transfer.{Transfer}
use Rattle.co_sdo.specs.declared.transfer.Transfer.TheVariants.{Idle, Upload}
use Rattle.sdo_client.specs.Client.{after_answer, next_request, end_of_transfer, after_upload_segment}
use Rattle.sdo_client.specs.Client.{after_upload_answer}
use Rattle.sdo_client.specs.Exchanges.{Begins, Follows, Frames, Gives, GivesOf}
use Rattle.co_sdo.specs.Frames.{expedited_upload, is_expedited, is_last_piece, next_segment, number_told}
use Rattle.co_sdo.specs.Frames.{segment_request, segmented_upload, upload_frames, upload_request}
use Rattle.co_sdo.specs.Server.{server_answer, unless_refused, answer_alone, upload_segment_answer, upload_answer}
use Rattle.co_sdo.specs.Server.{value_answer}
use Rattle.sdo_client.proofs.DownloadLaws.{too_long}
use Rattle.sdo_client.proofs.PieceLemmas.{Cut, further_pieces, given_pieces, upload_pieces, value_cut}
use Rattle.sdo_client.proofs.ReadLemmas.{more_test, most_test, named_again, names_itself, not_less_test}
use Rattle.sdo_client.proofs.ReadLemmas.{segment_last, segment_low, segment_no_abort, segment_piece, segment_toggle}
use Rattle.sdo_client.proofs.ReadLemmas.{told_again}

-- ---- the server

module _ (shape : Shaped) where
  given_last : (place : ℕ × ℕ) (rest : List ℕ) (toggle : Bool) → length rest ≤ 7 → (values : Values)
      → server_answer shape values (Upload place rest toggle) (segment_request toggle)
      ≡ answer_alone (next_segment toggle rest) Idle values
  unfolding server_answer upload_segment_answer
  given_last place rest true few values = rw (most_test (length rest) 7 few) refl
  given_last place rest false few values = rw (most_test (length rest) 7 few) refl

  given_one : (place : ℕ × ℕ) (rest : List ℕ) (toggle : Bool) → 7 < length rest → (values : Values)
      → server_answer shape values (Upload place rest toggle) (segment_request toggle)
      ≡ answer_alone (next_segment toggle rest) (Upload place (drop 7 rest) (not toggle)) values
  unfolding server_answer upload_segment_answer
  given_one place rest true many values = rw (more_test (length rest) 7 many) refl
  given_one place rest false many values = rw (more_test (length rest) 7 many) refl

  gives_pieces : (n : ℕ) (place : ℕ × ℕ) (rest : List ℕ) (toggle : Bool) → Cut (suc n) rest
      → Gives shape (Upload place rest toggle) (given_pieces (suc n) toggle rest)
  gives_pieces zero place rest toggle few = (Idle, (given_last place rest toggle few, refl))
  gives_pieces (suc n) place rest toggle h = (
    Upload place (drop 7 rest) (not toggle),
    (given_one place rest toggle h.0, gives_pieces n place (drop 7 rest) (not toggle) h.1),
  )

  begun : (values : Values) (transfer : Transfer) (place : ℕ × ℕ) → place.0 < 0x10000 → read_check shape place ≡ Ok tt
      → server_answer shape values transfer (upload_request place) ≡ value_answer place (bytes_at values place) values
  unfolding server_answer upload_answer
  begun values transfer place h passed =
      let granted : unless_refused (read_check shape place) place values
      (value_answer place (bytes_at values place) values) ≡ value_answer place (bytes_at values place) values =
      rw passed refl in
      ap (λ (p : ℕ × ℕ). unless_refused (read_check shape p) p values (value_answer p (bytes_at values p) values))
      (named_again 0x40 place [] h) ∙ granted

-- ---- the client

module _ (place : ℕ × ℕ) (value : List ℕ) where
  read_last : (taken rest : List ℕ) (toggle : Bool) → length rest ≤ 7 → taken ++ rest ≡ value
      → after_answer (TakingSegments place (length value) taken toggle) (next_segment toggle rest)
      ≡ end_of_transfer (Read value)
  unfolding after_answer after_upload_segment
  read_last taken rest toggle few whole =
      let last : is_last_piece rest ≡ true = most_test (length rest) 7 few in
      let all : taken ++ take 7 rest ≡ value = ap (λ (xs : List ℕ). taken ++ xs) (take_all 7 rest few) ∙ whole in
      let size = not_less_test (length value) (length value) (omega arith) in
      rw (
        segment_no_abort toggle rest,
        segment_low toggle rest,
        segment_toggle toggle rest,
        segment_piece toggle rest,
        segment_last toggle rest,
        last,
        all,
        size,
      ) refl

  read_one : (taken rest : List ℕ) (toggle : Bool) → 7 < length rest → taken ++ rest ≡ value
      → after_answer (TakingSegments place (length value) taken toggle) (next_segment toggle rest)
      ≡ next_request (segment_request (not toggle))
      (TakingSegments place (length value) (taken ++ take 7 rest) (not toggle))
  unfolding after_answer after_upload_segment
  read_one taken rest toggle many whole =
      let last : is_last_piece rest ≡ false = more_test (length rest) 7 many in
      let all : (taken ++ take 7 rest) ++ drop 7 rest ≡ value = append_assoc taken (take 7 rest) (drop 7 rest)
      ∙ ap (λ (xs : List ℕ). taken ++ xs) (take-append-drop 7 rest) ∙ whole in
      let lengths = sym (length-append (taken ++ take 7 rest) (drop 7 rest)) ∙ ap length all in
      let size : nat_lt (length value) (length (taken ++ take 7 rest)) ≡ false = not_less_test (length value)
      (length (taken ++ take 7 rest)) (omega (arith, lengths)) in
      rw (
        segment_no_abort toggle rest,
        segment_low toggle rest,
        segment_toggle toggle rest,
        segment_piece toggle rest,
        segment_last toggle rest,
        last,
        size,
      ) refl

  follows_pieces : (n : ℕ) (taken rest : List ℕ) (toggle : Bool) → Cut (suc n) rest → taken ++ rest ≡ value
      → Follows (TakingSegments place (length value) taken toggle) (given_pieces (suc n) toggle rest) (Read value)
  follows_pieces zero taken rest toggle few whole = read_last taken rest toggle few whole
  follows_pieces (suc n) taken rest toggle h whole =
      let e = read_one taken rest toggle h.0 whole in
      let all : (taken ++ take 7 rest) ++ drop 7 rest ≡ value = append_assoc taken (take 7 rest) (drop 7 rest)
      ∙ ap (λ (xs : List ℕ). taken ++ xs) (take-append-drop 7 rest) ∙ whole in (
        ap (λ a. a.progress) e,
        subst (λ (stage : ClientTransfer). Follows stage (given_pieces (suc n) (not toggle) (drop 7 rest)) (Read value))
            (sym (ap (λ a. a.stage) e))
            (follows_pieces n (taken ++ take 7 rest) (drop 7 rest) (not toggle) h.1 all),
      )

  size_told : place.0 < 0x10000 → length value < 0x100000000
      → after_answer (Uploading place) (segmented_upload place (length value)) ≡ next_request (segment_request false)
      (TakingSegments place (length value) [] false)
  unfolding after_answer after_upload_answer
  size_told h size =
      let told : next_request (segment_request false)
      (TakingSegments place (number_told (segmented_upload place (length value))) [] false)
      ≡ next_request (segment_request false) (TakingSegments place (length value) [] false) =
      ap (λ (n : ℕ). next_request (segment_request false) (TakingSegments place n [] false))
      (told_again 0x41 place (length value) size) in
      rw (names_itself 0x41 place (little_bytes 4 (length value)) h) told

value_told : (place : ℕ × ℕ) (value : List ℕ) → place.0 < 0x10000 → is_expedited value ≡ true
    → after_answer (Uploading place) (expedited_upload place value) ≡ end_of_transfer (Read value)
unfolding after_answer after_upload_answer
value_told place [] h short = cc
value_told place (a ∷ []) h short = rw (names_itself 0x4F place (a ∷ []) h) refl
value_told place (a ∷ b ∷ []) h short = rw (names_itself 0x4B place (a ∷ b ∷ []) h) refl
value_told place (a ∷ b ∷ c ∷ []) h short = rw (names_itself 0x47 place (a ∷ b ∷ c ∷ []) h) refl
value_told place (a ∷ b ∷ c ∷ d ∷ []) h short = rw (names_itself 0x43 place (a ∷ b ∷ c ∷ d ∷ []) h) refl
value_told place (a ∷ b ∷ c ∷ d ∷ e ∷ rest) h short =
    absurd (too_long (length (a ∷ b ∷ c ∷ d ∷ e ∷ rest)) (omega arith) short)

-- ---- the whole upload

module _ (place : ℕ × ℕ) (value : List ℕ) (index : place.0 < 0x10000) where
  frames_expedited : is_expedited value ≡ true
      → upload_frames place value ≡ (upload_request place, expedited_upload place value) ∷ []
  unfolding upload_frames
  frames_expedited e = rw e refl

  frames_segmented : is_expedited value ≡ false
      → upload_frames place value ≡ (upload_request place, segmented_upload place (length value))
      ∷ given_pieces (suc (further_pieces value)) false value
  unfolding upload_frames
  frames_segmented e =
      rw e (ap (λ (pairs : Frames). (upload_request place, segmented_upload place (length value)) ∷ pairs)
      (upload_pieces value))

  abbrev Started : Frames → Type 0
  Started frames = Begins (upload_request place) frames × Follows (Uploading place) frames (Read value)

  client_case : length value < 0x100000000 → (test : Bool) → is_expedited value ≡ test
      → Started (upload_frames place value)
  client_case size true e = subst Started (sym (frames_expedited e)) (refl, value_told place value index e)
  client_case size false e =
      let t = size_told place value index size in
      subst Started (sym (frames_segmented e)) (
        refl,
        (
          ap (λ a. a.progress) t,
          subst (λ (stage : ClientTransfer). Follows stage (given_pieces (suc (further_pieces value)) false value)
              (Read value)) (sym (ap (λ a. a.stage) t))
              (follows_pieces place value (further_pieces value) [] value false (value_cut value) refl),
        ),
      )

  -- the client sends the frames of the upload, and is told the value
  pub client_uploads : length value < 0x100000000 → Begins (upload_request place) (upload_frames place value)
      × Follows (Uploading place) (upload_frames place value) (Read value)
  client_uploads size = client_case size (is_expedited value) refl

  module _ (shape : Shaped) (values : Values) (transfer : Transfer) (passed : read_check shape place ≡ Ok tt)
      (held : bytes_at values place ≡ value) where
    first : server_answer shape values transfer (upload_request place) ≡ value_answer place value values
    first = begun shape values transfer place index passed
        ∙ ap (λ (bytes : List ℕ). value_answer place bytes values) held

    given_expedited : is_expedited value ≡ true
        → value_answer place value values ≡ answer_alone (expedited_upload place value) Idle values
    given_expedited e = rw e refl

    given_segmented : is_expedited value ≡ false
        → value_answer place value values ≡ answer_alone (segmented_upload place (length value))
        (Upload place value false) values
    given_segmented e = rw e refl

    server_case : (test : Bool) → is_expedited value ≡ test → GivesOf shape values transfer (upload_frames place value)
    server_case true e = subst (GivesOf shape values transfer) (sym (frames_expedited e))
        (Idle, (first ∙ given_expedited e, refl))
    server_case false e = subst (GivesOf shape values transfer) (sym (frames_segmented e)) (
      Upload place value false,
      (
        first ∙ given_segmented e,
        gives_pieces shape (further_pieces value) place value false (value_cut value),
      ),
    )

    -- the server answers them with the value that the entry had at the first, and writes nothing
    pub server_uploads : GivesOf shape values transfer (upload_frames place value)
    server_uploads = server_case (is_expedited value) refl
