-- A download of an accepted value.
use Rattle.std.proofs.Common.{◌≡◌, ℕ, zero, suc, ◌<◌, ◌≤◌, Bool, true, false, not, List, [], ◌∷◌, ◌++◌, length, take}
use Rattle.std.proofs.Common.{drop, Some, Ok, refl, sym, ap, subst, ◌∙◌, arith, append_assoc, length-append}
use Rattle.std.specs.Prelude.{nat_lt, nat_le, ◌&&◌}
use Rattle.std.proofs.lemmas.Bool.Decides.{nat_tests}
use Rattle.std.specs.FinMap.{insert}
use Rattle.std.proofs.lemmas.List.{take-append-drop, take_all}
use Rattle.byteorder.specs.Endian.{little_bytes}
use Rattle.co_values.specs.Values.{longest_value}
use Rattle.co_dict.specs.Checks.{access_check, length_check}
use Rattle.co_dict.specs.Shapes.{Shaped}
use Rattle.co_dict.specs.Values.{Values}
use Rattle.co_dict.specs.WriteCheck.{write_check}
use Rattle.sdo_client.specs.declared.progress.Progress.TheVariants.{Written}
use Rattle.sdo_client.specs.declared.client_transfer.ClientTransfer.{ClientTransfer}
use Rattle.sdo_client.specs.declared.client_transfer.ClientTransfer.TheVariants.{Downloading, Offering}
use Rattle.sdo_client.specs.declared.client_transfer.ClientTransfer.TheVariants.{SendingSegments}
use Rattle.co_sdo.specs.declared.transfer.Transfer.{Transfer}
use Rattle.co_sdo.specs.declared.transfer.Transfer.TheVariants.{Idle, Download}
use Rattle.sdo_client.specs.Client.{after_answer, next_request, download_start, end_of_transfer}
use Rattle.sdo_client.specs.Client.{after_segment_confirmed}
use Rattle.sdo_client.specs.Exchanges.{Answers, Begins, Follows, Frames}
use Rattle.co_sdo.specs.Frames.{download_confirmed, download_frames, expedited_download, is_expedited, is_last_piece}
use Rattle.co_sdo.specs.Frames.{next_segment, number_told, segment_confirmed, segmented_download}
use Rattle.co_sdo.specs.Server.{AfterRequest, server_answer, download_answer, unless_refused, answer_alone}
use Rattle.co_sdo.specs.Server.{download_segment_answer, write_answer}
use Rattle.sdo_client.proofs.PieceLemmas.{Cut, download_pieces, further_pieces, sent_pieces, value_cut}
use Rattle.sdo_client.proofs.ReadLemmas.{more_test, most_test, named_again, names_itself, not_less_test}
use Rattle.sdo_client.proofs.ReadLemmas.{segment_last, segment_low, segment_piece, segment_toggle, told_again}
use Rattle.co_sdo.proofs.WriteLemmas.{checked_first, taken_is_short}

-- ---- the client

sent_last : (place : ℕ × ℕ) (rest : List ℕ) (toggle : Bool) → length rest ≤ 7
    → after_answer (SendingSegments place rest toggle) (segment_confirmed toggle) ≡ end_of_transfer Written
unfolding after_answer after_segment_confirmed
sent_last place rest true few = rw (most_test (length rest) 7 few) refl
sent_last place rest false few = rw (most_test (length rest) 7 few) refl

sent_one : (place : ℕ × ℕ) (rest : List ℕ) (toggle : Bool) → 7 < length rest
    → after_answer (SendingSegments place rest toggle) (segment_confirmed toggle)
    ≡ next_request (next_segment (not toggle) (drop 7 rest)) (SendingSegments place (drop 7 rest) (not toggle))
unfolding after_answer after_segment_confirmed
sent_one place rest true many = rw (more_test (length rest) 7 many) refl
sent_one place rest false many = rw (more_test (length rest) 7 many) refl

follows_pieces : (n : ℕ) (place : ℕ × ℕ) (rest : List ℕ) (toggle : Bool) → Cut (suc n) rest
    → Follows (SendingSegments place rest toggle) (sent_pieces (suc n) toggle rest) Written
follows_pieces zero place rest toggle few = sent_last place rest toggle few
follows_pieces (suc n) place rest toggle h =
    let e = sent_one place rest toggle h.0 in (
      ap (λ a. a.progress) e,
      subst (λ (stage : ClientTransfer). Follows stage (sent_pieces (suc n) (not toggle) (drop 7 rest)) Written)
          (sym (ap (λ a. a.stage) e)) (follows_pieces n place (drop 7 rest) (not toggle) h.1),
    )

confirmed : (place : ℕ × ℕ) → place.0 < 0x10000
    → after_answer (Downloading place) (download_confirmed place) ≡ end_of_transfer Written
unfolding after_answer
confirmed place h = rw (names_itself 0x60 place [] h) refl

offered : (place : ℕ × ℕ) (value : List ℕ) → place.0 < 0x10000
    → after_answer (Offering place value) (download_confirmed place) ≡ next_request (next_segment false value)
    (SendingSegments place value false)
unfolding after_answer
offered place value h = rw (names_itself 0x60 place [] h) refl

-- ---- the server

module _ (shape : Shaped) where
  -- one answer, and then the others
  pub answers_one : (values : Values) (transfer : Transfer) (pair : List ℕ × List ℕ) (pairs : Frames) (left : Values)
      (next : AfterRequest)
      → server_answer shape values transfer pair.0 ≡ next → next.answer ≡ Some pair.1
      → Answers shape next.values next.transfer pairs left → Answers shape values transfer (pair ∷ pairs) left
  answers_one values transfer pair pairs left next e answer rest =
      subst (λ (a : AfterRequest). (a.answer ≡ Some pair.1) × Answers shape a.values a.transfer pairs left) (sym e)
      (answer, rest)

  module _ (place : ℕ × ℕ) (value : List ℕ) where
    taken_last : (values : Values) (taken rest : List ℕ) (toggle : Bool) → length rest ≤ 7 → taken ++ rest ≡ value
        → write_check shape values place value ≡ Ok tt
        → server_answer shape values (Download place (length value) taken toggle) (next_segment toggle rest)
        ≡ record {
          answer = Some (segment_confirmed toggle);
          values = insert values place value;
          transfer = Idle;
          wrote = Some place;
        }
    unfolding server_answer download_segment_answer write_answer
    taken_last values taken rest toggle few whole passed =
        let last : is_last_piece rest ≡ true = most_test (length rest) 7 few in
        let all : taken ++ take 7 rest ≡ value = ap (λ (xs : List ℕ). taken ++ xs) (take_all 7 rest few) ∙ whole in
        let size = not_less_test (length value) (length value) (omega arith) in
        rw (
          segment_low toggle rest,
          segment_toggle toggle rest,
          segment_piece toggle rest,
          segment_last toggle rest,
          last,
          all,
          size,
          passed,
        ) refl

    taken_one : (values : Values) (taken rest : List ℕ) (toggle : Bool) → 7 < length rest → taken ++ rest ≡ value
        → server_answer shape values (Download place (length value) taken toggle) (next_segment toggle rest)
        ≡ answer_alone (segment_confirmed toggle)
        (Download place (length value) (taken ++ take 7 rest) (not toggle)) values
    unfolding server_answer download_segment_answer
    taken_one values taken rest toggle many whole =
        let last : is_last_piece rest ≡ false = more_test (length rest) 7 many in
        let all : (taken ++ take 7 rest) ++ drop 7 rest ≡ value = append_assoc taken (take 7 rest) (drop 7 rest)
        ∙ ap (λ (xs : List ℕ). taken ++ xs) (take-append-drop 7 rest) ∙ whole in
        let lengths = sym (length-append (taken ++ take 7 rest) (drop 7 rest)) ∙ ap length all in
        let size : nat_lt (length value) (length (taken ++ take 7 rest)) ≡ false = not_less_test (length value)
        (length (taken ++ take 7 rest)) (omega (arith, lengths)) in
        rw (
          segment_low toggle rest,
          segment_toggle toggle rest,
          segment_piece toggle rest,
          segment_last toggle rest,
          last,
          size,
        ) refl

    answers_pieces : (n : ℕ) (values : Values) (taken rest : List ℕ) (toggle : Bool) → Cut (suc n) rest
        → taken ++ rest ≡ value → write_check shape values place value ≡ Ok tt
        → Answers shape values (Download place (length value) taken toggle) (sent_pieces (suc n) toggle rest)
        (insert values place value)
    answers_pieces zero values taken rest toggle few whole passed =
        answers_one values _ (
          next_segment toggle rest,
          segment_confirmed toggle,
        ) [] (insert values place value) _
        (taken_last values taken rest toggle few whole passed) refl (refl, refl)
    answers_pieces (suc n) values taken rest toggle h whole passed =
        let all : (taken ++ take 7 rest) ++ drop 7 rest ≡ value = append_assoc taken (take 7 rest) (drop 7 rest)
        ∙ ap (λ (xs : List ℕ). taken ++ xs) (take-append-drop 7 rest) ∙ whole in
        answers_one values _ (next_segment toggle rest, segment_confirmed toggle)
        (sent_pieces (suc n) (not toggle) (drop 7 rest)) (insert values place value) _
        (taken_one values taken rest toggle h.0 whole) refl (answers_pieces n values (taken ++ take 7 rest)
        (drop 7 rest) (not toggle) h.1 all passed)

    begun : (values : Values) (transfer : Transfer) → place.0 < 0x10000 → write_check shape values place value ≡ Ok tt
        → server_answer shape values transfer (segmented_download place (length value))
        ≡ answer_alone (download_confirmed place) (Download place (length value) [] false) values
    unfolding server_answer download_answer
    begun values transfer h passed =
        let frame : List ℕ = segmented_download place (length value) in
        let short : length value ≤ longest_value = taken_is_short shape values place value passed in
        let first = checked_first shape values place value passed in
        let granted : unless_refused (access_check shape place) place values
        (unless_refused (length_check shape place (length value)) place values
        (answer_alone (download_confirmed place) (Download place (length value) [] false) values))
        ≡ answer_alone (download_confirmed place) (Download place (length value) [] false) values =
        rw (first.0, first.1) refl in
        ap (λ (p : ℕ × ℕ). unless_refused (access_check shape p) p values
        (unless_refused (length_check shape p (number_told frame)) p values (answer_alone (download_confirmed p)
        (Download p (number_told frame) [] false) values)))
        (named_again 0x21 place (little_bytes 4 (length value)) h)
        ∙ ap (λ (n : ℕ). unless_refused (access_check shape place) place values
        (unless_refused (length_check shape place n) place values (answer_alone (download_confirmed place)
        (Download place n [] false) values)))
        (told_again 0x21 place (length value) (omega arith))
        ∙ granted

    stored : (values : Values) → write_check shape values place value ≡ Ok tt
        → write_answer shape values place value (download_confirmed place)
        ≡ record {
          answer = Some (download_confirmed place);
          values = insert values place value;
          transfer = Idle;
          wrote = Some place;
        }
    unfolding write_answer
    stored values passed = rw passed refl

pub too_long : (n : ℕ) → 4 < n → nat_le 1 n && nat_le n 4 ≡ true → ⊥
too_long n long e = let no = more_test n 4 long in grind (arith, nat_tests)

-- the server knows the entry and the value again
taken_whole : (shape : Shaped) (place : ℕ × ℕ) (value : List ℕ) (values : Values) (transfer : Transfer)
    → place.0 < 0x10000 → is_expedited value ≡ true
    → server_answer shape values transfer (expedited_download place value)
    ≡ write_answer shape values place value (download_confirmed place)
unfolding server_answer
taken_whole shape place [] values transfer h short = cc
taken_whole shape place (a ∷ []) values transfer h short =
    ap (λ (p : ℕ × ℕ). write_answer shape values p (a ∷ []) (download_confirmed p)) (named_again 0x2F place (a ∷ []) h)
taken_whole shape place (a ∷ b ∷ []) values transfer h short =
    ap (λ (p : ℕ × ℕ). write_answer shape values p (a ∷ b ∷ []) (download_confirmed p))
    (named_again 0x2B place (a ∷ b ∷ []) h)
taken_whole shape place (a ∷ b ∷ c ∷ []) values transfer h short =
    ap (λ (p : ℕ × ℕ). write_answer shape values p (a ∷ b ∷ c ∷ []) (download_confirmed p))
    (named_again 0x27 place (a ∷ b ∷ c ∷ []) h)
taken_whole shape place (a ∷ b ∷ c ∷ d ∷ []) values transfer h short =
    ap (λ (p : ℕ × ℕ). write_answer shape values p (a ∷ b ∷ c ∷ d ∷ []) (download_confirmed p))
    (named_again 0x23 place (a ∷ b ∷ c ∷ d ∷ []) h)
taken_whole shape place (a ∷ b ∷ c ∷ d ∷ e ∷ rest) values transfer h short =
    absurd (too_long (length (a ∷ b ∷ c ∷ d ∷ e ∷ rest)) (omega arith) short)

-- ---- the whole download

module _ (place : ℕ × ℕ) (value : List ℕ) (index : place.0 < 0x10000) where
  frames_expedited : is_expedited value ≡ true
      → download_frames place value ≡ (expedited_download place value, download_confirmed place) ∷ []
  unfolding download_frames
  frames_expedited e = rw e refl

  frames_segmented : is_expedited value ≡ false
      → download_frames place value ≡ (segmented_download place (length value), download_confirmed place)
      ∷ sent_pieces (suc (further_pieces value)) false value
  unfolding download_frames
  frames_segmented e =
      rw e (ap (λ (pairs : Frames). (segmented_download place (length value), download_confirmed place) ∷ pairs)
      (download_pieces value))

  start_expedited : is_expedited value ≡ true
      → download_start place value ≡ (expedited_download place value, Downloading place)
  unfolding download_start
  start_expedited e = rw e refl

  start_segmented : is_expedited value ≡ false
      → download_start place value ≡ (segmented_download place (length value), Offering place value)
  unfolding download_start
  start_segmented e = rw e refl

  abbrev Started : List ℕ × ClientTransfer → Frames → Type 0
  Started start frames = Begins start.0 frames × Follows start.1 frames Written

  started : (start : List ℕ × ClientTransfer) (frames others : Frames) → download_start place value ≡ start
      → frames ≡ others → Started start others → Started (download_start place value) frames
  started start frames others e f h = subst (λ (s : List ℕ × ClientTransfer). Started s frames) (sym e)
      (subst (Started start) (sym f) h)

  client_case : (test : Bool) → is_expedited value ≡ test
      → Started (download_start place value) (download_frames place value)
  client_case true e = started _ _ _ (start_expedited e) (frames_expedited e) (refl, confirmed place index)
  client_case false e =
      let o = offered place value index in
      started _ _ _ (start_segmented e) (frames_segmented e) (
        refl,
        (
          ap (λ a. a.progress) o,
          subst (λ (stage : ClientTransfer). Follows stage (sent_pieces (suc (further_pieces value)) false value)
              Written) (sym (ap (λ a. a.stage) o))
              (follows_pieces (further_pieces value) place value false (value_cut value)),
        ),
      )

  -- the client sends the frames of the download, and is told that the entry was written
  pub client_downloads : Begins (download_start place value).0 (download_frames place value)
      × Follows (download_start place value).1 (download_frames place value) Written
  client_downloads = client_case (is_expedited value) refl

  module _ (shape : Shaped) (values : Values) (transfer : Transfer)
      (passed : write_check shape values place value ≡ Ok tt) where
    server_case : (test : Bool) → is_expedited value ≡ test
        → Answers shape values transfer (download_frames place value) (insert values place value)
    server_case true e = subst (λ (frames : Frames). Answers shape values transfer frames (insert values place value))
        (sym (frames_expedited e))
        (answers_one shape values transfer (
          expedited_download place value,
          download_confirmed place,
        ) [] (insert values place value) _
        (taken_whole shape place value values transfer index e ∙ stored shape place value values passed) refl (
          refl,
          refl,
        ))
    server_case false e = subst (λ (frames : Frames). Answers shape values transfer frames (insert values place value))
        (sym (frames_segmented e))
        (answers_one shape values transfer (segmented_download place (length value), download_confirmed place)
        (sent_pieces (suc (further_pieces value)) false value) (insert values place value) _
        (begun shape place value values transfer index passed) refl
        (answers_pieces shape place value (further_pieces value) values [] value false (value_cut value) refl
        passed))

    -- the server answers them, and the entry has the value
    pub server_downloads : Answers shape values transfer (download_frames place value) (insert values place value)
    server_downloads = server_case (is_expedited value) refl
