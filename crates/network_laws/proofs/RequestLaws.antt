-- A download goes request by request.
use Rattle.std.proofs.Common.{◌≡◌, ℕ, ◌<◌, ◌≤◌, Bool, true, false, not, List, [], ◌∷◌, ◌++◌, length}
use Rattle.std.proofs.Common.{take, drop}
use Rattle.std.proofs.Common.{Some, refl, sym, ap, subst, ◌∙◌, arith, append_assoc}
use Rattle.std.specs.Prelude.{nat_le, if◌then◌else◌}
use Rattle.std.specs.FinMap.{insert}
use Rattle.std.proofs.lemmas.List.{take-append-drop, take_all}
use Rattle.std.proofs.lemmas.Bool.Decides.{nat_tests}
use Rattle.byteorder.specs.Endian.{little_bytes}
use Rattle.co_dict.specs.Aborts.{length_does_not_match, unknown_command}
use Rattle.co_dict.specs.Checks.{access_check, length_check}
use Rattle.co_dict.specs.Shapes.{Shaped}
use Rattle.co_dict.specs.Values.{Values}
use Rattle.co_dict.specs.WriteCheck.{write_check}
use Rattle.co_sdo.specs.Frames.{download_confirmed, expedited_download, is_expedited, is_last_piece, is_wrong_length}
use Rattle.co_sdo.specs.Frames.{next_segment, number_told, place_named, segment_confirmed, segmented_download, with_zeros}
use Rattle.co_sdo.specs.Server.{AfterRequest, abort_answer, answer_alone, download_answer}
use Rattle.co_sdo.specs.Server.{download_segment_answer, server_answer, write_answer}
use Rattle.co_sdo.specs.declared.transfer.Transfer.{Transfer}
use Rattle.co_sdo.specs.declared.transfer.Transfer.TheVariants.{Idle, Download, Upload}
use Rattle.sdo_client.specs.Client.{download_start}
use Rattle.sdo_client.specs.declared.client_transfer.ClientTransfer.{ClientTransfer}
use Rattle.sdo_client.specs.declared.client_transfer.ClientTransfer.TheVariants as client
use Rattle.sdo_client.proofs.DownloadLaws.{too_long}
use Rattle.sdo_client.proofs.ReadLemmas.{segment_last, segment_low, segment_piece, segment_toggle}
use Rattle.network_laws.specs.Downloads.{AwaitsSegment, IsAnswered, IsUnderWay}
use Rattle.network_laws.proofs.AnswerLemmas.{Answers, aborted, begun, index_read, stored_at_once, stored_last}
use Rattle.network_laws.proofs.AnswerLemmas.{taken_one, unless}

-- ---- the start

module _ (place : ℕ × ℕ) (value : List ℕ) (transfer : Transfer) where
  abbrev Starts : List ℕ × ClientTransfer → Type 0
  Starts start = IsUnderWay place value start.1 transfer start.0

  start_case : (test : Bool) → is_expedited value ≡ test → Starts (download_start place value)
  unfolding download_start
  start_case true e = rw e (record { asked = (refl, (e, refl)); awaited = tt })
  start_case false e = rw e (record { asked = (refl, (refl, refl)); awaited = tt })

  pub started : IsUnderWay place value (download_start place value).1 transfer (download_start place value).0
  started = start_case (is_expedited value) refl

-- ---- the server drops its transfer

pub dropped : (place : ℕ × ℕ) (value : List ℕ) (stage : ClientTransfer) (transfer : Transfer) (request : List ℕ)
    → IsUnderWay place value stage transfer request → IsUnderWay place value stage Idle request
dropped place value client.Idle transfer request h = absurd h.asked
dropped place value (client.Downloading entry) transfer request h = record { asked = h.asked; awaited = tt }
dropped place value (client.Offering entry rest) transfer request h = record { asked = h.asked; awaited = tt }
dropped place value (client.SendingSegments entry rest toggle) transfer request h =
    record { asked = h.asked; awaited = tt }
dropped place value (client.Uploading entry) transfer request h = absurd h.asked
dropped place value (client.TakingSegments entry size taken toggle) transfer request h = absurd h.asked

-- ---- one request

module _ (shape : Shaped) (values : Values) (place : ℕ × ℕ) (value : List ℕ) where
  taken_whole : (bytes : List ℕ) (transfer : Transfer) → is_expedited bytes ≡ true
      → server_answer shape values transfer (expedited_download place bytes)
      ≡ write_answer shape values (place_named (expedited_download place bytes)) bytes
      (download_confirmed (place_named (expedited_download place bytes)))
  unfolding server_answer
  taken_whole [] transfer short = cc
  taken_whole (a ∷ []) transfer short = refl
  taken_whole (a ∷ b ∷ []) transfer short = refl
  taken_whole (a ∷ b ∷ c ∷ []) transfer short = refl
  taken_whole (a ∷ b ∷ c ∷ d ∷ []) transfer short = refl
  taken_whole (a ∷ b ∷ c ∷ d ∷ e ∷ rest) transfer short =
      absurd (too_long (length (a ∷ b ∷ c ∷ d ∷ e ∷ rest)) (omega arith) short)

  at_once : (other : ℕ × ℕ) → other.0 < 0x10000 → Answers place value values (client.Downloading place)
      (write_answer shape values other value (download_confirmed other))
  unfolding write_answer
  at_once other index = unless place value values (client.Downloading place) refl (write_check shape values other value)
      other _ (stored_at_once place value values other index)

  expedited : (transfer : Transfer) → is_expedited value ≡ true
      → Answers place value values (client.Downloading place)
      (server_answer shape values transfer (expedited_download place value))
  expedited transfer short =
      subst (Answers place value values (client.Downloading place)) (sym (taken_whole value transfer short))
      (at_once (place_named (expedited_download place value)) (index_read place.0 (place.1 ∷ with_zeros 4 value)))

  offered : (request : List ℕ) → (place_named request).0 < 0x10000
      → Answers place value values (client.Offering place value) (download_answer shape values request)
  unfolding download_answer
  offered request index =
      unless place value values (client.Offering place value) refl (access_check shape (place_named request))
      (place_named request) _
      (unless place value values (client.Offering place value) refl
      (length_check shape (place_named request) (number_told request)) (place_named request) _
      (begun place value values (place_named request) index (number_told request)))

  segmented : (transfer : Transfer) → Answers place value values (client.Offering place value)
      (server_answer shape values transfer (segmented_download place (length value)))
  unfolding server_answer
  segmented transfer = offered (segmented_download place (length value))
      (index_read place.0 (place.1 ∷ with_zeros 4 (little_bytes 4 (length value))))

  module _ (rest : List ℕ) (toggle : Bool) where
    abbrev Told : AfterRequest → Type 0
    Told after = Answers place value values (client.SendingSegments place rest toggle) after

    -- what the server makes of the segment
    abbrev taken_answer : ℕ → List ℕ → Bool → Bool → AfterRequest
    taken_answer size taken is_wrong is_last =
        if is_wrong then abort_answer place length_does_not_match values
        else if is_last then write_answer shape values place taken (segment_confirmed toggle)
        else answer_alone (segment_confirmed toggle) (Download place size taken (not toggle)) values

    taken_is : (size : ℕ) (taken : List ℕ)
        → server_answer shape values (Download place size taken toggle) (next_segment toggle rest)
        ≡ taken_answer size (taken ++ take 7 rest) (is_wrong_length size (length (taken ++ take 7 rest))
        (is_last_piece rest)) (is_last_piece rest)
    unfolding server_answer download_segment_answer
    taken_is size taken =
        rw (segment_low toggle rest, segment_toggle toggle rest, segment_piece toggle rest, segment_last toggle rest) refl

    stored : (bytes : List ℕ) → is_last_piece rest ≡ true → bytes ≡ value
        → Told (write_answer shape values place bytes (segment_confirmed toggle))
    unfolding write_answer
    stored bytes few whole =
        unless place value values (client.SendingSegments place rest toggle) refl (write_check shape values place bytes)
        place _ (subst (λ (b : List ℕ). Told (record {
          answer = Some (segment_confirmed toggle);
          values = insert values place b;
          transfer = Idle;
          wrote = Some place;
        })) (sym whole) (stored_last place value values rest toggle few))

    short_rest : nat_le (length rest) 7 ≡ true → length rest ≤ 7
    short_rest e = grind (arith, nat_tests)

    taken_case : (size : ℕ) (taken : List ℕ) (is_wrong is_last : Bool) → is_last_piece rest ≡ is_last
        → taken ++ rest ≡ value → Told (taken_answer size (taken ++ take 7 rest) is_wrong is_last)
    taken_case size taken true is_last e whole =
        aborted place value values (client.SendingSegments place rest toggle) refl place length_does_not_match
    taken_case size taken false true e whole =
        stored (taken ++ take 7 rest) e
        (ap (λ (xs : List ℕ). taken ++ xs) (take_all 7 rest (short_rest e)) ∙ whole)
    taken_case size taken false false e whole =
        taken_one place value values rest toggle size (taken ++ take 7 rest) e
        (append_assoc taken (take 7 rest) (drop 7 rest)
        ∙ ap (λ (xs : List ℕ). taken ++ xs) (take-append-drop 7 rest) ∙ whole)

    unopened : server_answer shape values Idle (next_segment toggle rest)
        ≡ abort_answer (0, 0) unknown_command values
    unfolding server_answer
    unopened = rw (segment_low toggle rest) refl

    taken_next : (size : ℕ) (taken : List ℕ) (entry : ℕ × ℕ) (next : Bool) → entry ≡ place → next ≡ toggle
        → taken ++ rest ≡ value
        → Told (server_answer shape values (Download entry size taken next) (next_segment toggle rest))
    taken_next size taken entry next at same whole =
        subst (λ (p : ℕ × ℕ). Told (server_answer shape values (Download p size taken next) (next_segment toggle rest)))
        (sym at)
        (subst (λ (b : Bool). Told (server_answer shape values (Download place size taken b) (next_segment toggle rest)))
        (sym same)
        (subst Told (sym (taken_is size taken))
        (taken_case size taken (is_wrong_length size (length (taken ++ take 7 rest)) (is_last_piece rest))
        (is_last_piece rest) refl whole)))

    pub sent : (transfer : Transfer) → AwaitsSegment place value rest toggle transfer
        → Told (server_answer shape values transfer (next_segment toggle rest))
    sent Idle h = subst Told (sym unopened)
        (aborted place value values (client.SendingSegments place rest toggle) refl (0, 0) unknown_command)
    sent (Download entry size taken next) h = taken_next size taken entry next h.0 h.1.0 h.1.1
    sent (Upload entry left next) h = absurd h

  abbrev ToldAt : ClientTransfer → Transfer → List ℕ → Type 0
  ToldAt stage transfer request = Answers place value values stage (server_answer shape values transfer request)

  told : (stage : ClientTransfer) (transfer : Transfer) (request : List ℕ)
      → IsUnderWay place value stage transfer request → ToldAt stage transfer request
  told client.Idle transfer request h = absurd h.asked
  told (client.Downloading entry) transfer request h =
      subst (λ (p : ℕ × ℕ). ToldAt (client.Downloading p) transfer request) (sym h.asked.0)
      (subst (ToldAt (client.Downloading place) transfer) (sym h.asked.1.1) (expedited transfer h.asked.1.0))
  told (client.Offering entry rest) transfer request h =
      subst (λ (p : ℕ × ℕ). ToldAt (client.Offering p rest) transfer request) (sym h.asked.0)
      (subst (λ (bytes : List ℕ). ToldAt (client.Offering place bytes) transfer request) (sym h.asked.1.0)
      (subst (ToldAt (client.Offering place value) transfer) (sym h.asked.1.1) (segmented transfer)))
  told (client.SendingSegments entry rest toggle) transfer request h =
      subst (λ (p : ℕ × ℕ). ToldAt (client.SendingSegments p rest toggle) transfer request) (sym h.asked.0)
      (subst (ToldAt (client.SendingSegments place rest toggle) transfer) (sym h.asked.1) (sent rest toggle transfer h.awaited))
  told (client.Uploading entry) transfer request h = absurd h.asked
  told (client.TakingSegments entry size taken toggle) transfer request h = absurd h.asked

pub request_by_request : (shape : Shaped) (values : Values) (place : ℕ × ℕ) (value : List ℕ) (stage : ClientTransfer)
    (transfer : Transfer) (request answer : List ℕ) → IsUnderWay place value stage transfer request
    → (server_answer shape values transfer request).answer ≡ Some answer
    → IsAnswered place value stage values (server_answer shape values transfer request) answer
request_by_request shape values place value stage transfer request answer h e =
    told shape values place value stage transfer request h answer e
