-- What holds of each rule of the server holds of its answer to any request.
use Rattle.std.proofs.Common.{◌≡◌, ℕ, ◌+◌, ◌-◌, ◌*◌, ◌≤◌, ◌==◌, Bool, true, false, not, List, ◌++◌, length, take, drop}
use Rattle.std.proofs.Common.{Some, None, Result, Ok, Err, refl, arith}
use Rattle.std.specs.Prelude.{nat_lt, ◌||◌, if◌then◌else◌}
use Rattle.std.specs.FinMap.{insert}
use Rattle.std.proofs.lemmas.Bool.Decides.{nat_tests}
use Rattle.co_dict.specs.declared.abort.Abort.{Abort}
use Rattle.co_dict.specs.Aborts.{length_does_not_match, toggle_not_alternated, unknown_command}
use Rattle.co_dict.specs.Checks.{access_check, length_check, read_check}
use Rattle.co_dict.specs.Shapes.{Shaped}
use Rattle.co_dict.specs.Values.{Values, bytes_at}
use Rattle.co_dict.specs.WriteCheck.{write_check}
use Rattle.co_sdo.specs.declared.transfer.Transfer.{Transfer}
use Rattle.co_sdo.specs.declared.transfer.Transfer.TheVariants.{Idle, Download, Upload}
use Rattle.co_sdo.specs.Frames.{command, download_confirmed, has_toggle, is_expedited, is_last, is_last_piece}
use Rattle.co_sdo.specs.Frames.{is_wrong_length, next_segment, number_told, piece, place_named, segment_confirmed}
use Rattle.co_sdo.specs.Frames.{toggle_bit}
use Rattle.co_sdo.specs.Server.{AfterRequest, LeavesOnAbort, WritesOne, abort_answer, server_answer, download_answer}
use Rattle.co_sdo.specs.Server.{download_segment, expedited_answer, unless_refused, place_of, answer_alone}
use Rattle.co_sdo.specs.Server.{upload_segment_answer, download_segment_answer, upload_answer, upload_segment}
use Rattle.co_sdo.specs.Server.{value_answer, write_answer}

-- ---- the rules: an abort, an answer whose command byte is another, a write, and silence

module _ (shape : Shaped) (values : Values) (P : AfterRequest → Type 0)
    (on_abort : (place : ℕ × ℕ) (abort : Abort) → P (abort_answer place abort values))
    (on_reply : (frame : List ℕ) (transfer : Transfer) → (command frame == 0x80) ≡ false
    → P (answer_alone frame transfer values))
    (on_write : (place : ℕ × ℕ) (bytes frame : List ℕ) → (command frame == 0x80) ≡ false
    → write_check shape values place bytes ≡ Ok tt
    → P (record { answer = Some frame; values = insert values place bytes; transfer = Idle; wrote = Some place }))
    (on_silence : P (record { answer = None; values = values; transfer = Idle; wrote = None })) where
  either : (test : Bool) (a b : AfterRequest) → P a → P b → P (if test then a else b)
  either true a b pa pb = pa
  either false a b pa pb = pb

  passed : (check : Result (Unit {0}) Abort) (place : ℕ × ℕ) (next : AfterRequest) → (check ≡ Ok tt → P next)
      → P (unless_refused check place values next)
  passed (Ok nothing) place next h = h refl
  passed (Err abort) place next h = on_abort place abort

  of_written : (place : ℕ × ℕ) (bytes frame : List ℕ) → (command frame == 0x80) ≡ false
      → P (write_answer shape values place bytes frame)
  unfolding write_answer
  of_written place bytes frame other =
      passed (write_check shape values place bytes) place _ (on_write place bytes frame other)

  of_begun : (request : List ℕ) → P (download_answer shape values request)
  unfolding download_answer
  of_begun request =
      passed (access_check shape (place_named request)) (place_named request) _ (λ a.
      passed (length_check shape (place_named request) (number_told request))
      (place_named request) _ (λ l. on_reply _ _ refl))

  confirms : (toggle : Bool) → (command (segment_confirmed toggle) == 0x80) ≡ false
  confirms true = refl
  confirms false = refl

  low : (toggle last : Bool) (unused : ℕ) → unused ≤ 7
      → (toggle_bit toggle + 2 * unused + (if last then 1 else 0) == 0x80) ≡ false
  low true true unused h = grind (arith, nat_tests)
  low true false unused h = grind (arith, nat_tests)
  low false true unused h = grind (arith, nat_tests)
  low false false unused h = grind (arith, nat_tests)

  segments : (toggle : Bool) (rest : List ℕ) → (command (next_segment toggle rest) == 0x80) ≡ false
  segments toggle rest = low toggle (is_last_piece rest) (7 - length (take 7 rest)) (omega arith)

  of_taken : (place : ℕ × ℕ) (size : ℕ) (taken : List ℕ) (toggle : Bool) (request : List ℕ)
      → P (download_segment_answer shape values place size taken toggle request)
  unfolding download_segment_answer
  of_taken place size taken toggle request =
      either (not (has_toggle toggle request)) _ _ (on_abort place toggle_not_alternated)
      (either (is_wrong_length size (length (taken ++ piece request))
      (is_last request)) _ _ (on_abort place length_does_not_match)
      (either (is_last request) _ _ (of_written place (taken ++ piece request) (segment_confirmed toggle)
      (confirms toggle))
      (on_reply (segment_confirmed toggle) (Download place size (taken ++ piece request) (not toggle))
      (confirms toggle))))

  of_download : (transfer : Transfer) (request : List ℕ) → P (download_segment shape values transfer request)
  of_download Idle request = on_abort (place_of Idle) unknown_command
  of_download (Download place size taken toggle) request = of_taken place size taken toggle request
  of_download (Upload place rest toggle) request = on_abort place unknown_command

  expedited : (base len : ℕ) → base ≤ 0x43 → (base + 4 * (4 - len) == 0x80) ≡ false
  expedited base len h = let few : 4 * (4 - len) ≤ 16 = omega arith in grind (arith, nat_tests)

  of_value : (place : ℕ × ℕ) (value : List ℕ) → P (value_answer place value values)
  of_value place value = either (is_expedited value) _ _ (on_reply _ _ (expedited 0x43 (length value) (omega arith)))
      (on_reply _ _ refl)

  of_upload_begun : (request : List ℕ) → P (upload_answer shape values request)
  unfolding upload_answer
  of_upload_begun request = passed (read_check shape (place_named request))
      (place_named request) _ (λ r. of_value (place_named request) (bytes_at values (place_named request)))

  of_given : (place : ℕ × ℕ) (rest : List ℕ) (toggle : Bool) (request : List ℕ)
      → P (upload_segment_answer values place rest toggle request)
  unfolding upload_segment_answer
  of_given place rest toggle request =
      either (not (command request == 0x60 + toggle_bit toggle)) _ _ (on_abort place toggle_not_alternated)
      (on_reply (next_segment toggle rest) (if is_last_piece rest then Idle
      else Upload place (drop 7 rest) (not toggle)) (segments toggle rest))

  of_upload : (transfer : Transfer) (request : List ℕ) → P (upload_segment values transfer request)
  of_upload Idle request = on_abort (place_of Idle) unknown_command
  of_upload (Download place size taken toggle) request = on_abort place unknown_command
  of_upload (Upload place rest toggle) request = of_given place rest toggle request

  of_expedited : (count : ℕ) (request : List ℕ) → P (expedited_answer count shape values request)
  of_expedited count request = of_written (place_named request) (take count (drop 4 request))
      (download_confirmed (place_named request)) refl

  pub of_answered : (transfer : Transfer) (request : List ℕ) → P (server_answer shape values transfer request)
  unfolding server_answer
  of_answered transfer request =
      let first : ℕ = command request in
      either (nat_lt first 0x20) _ _ (of_download transfer request)
      (either (first == 0x21) _ _ (of_begun request)
      (either (first == 0x2F) _ _ (of_expedited 1 request)
      (either (first == 0x2B) _ _ (of_expedited 2 request)
      (either (first == 0x27) _ _ (of_expedited 3 request)
      (either (first == 0x23) _ _ (of_expedited 4 request)
      (either (first == 0x40) _ _ (of_upload_begun request)
      (either (first == 0x60 || first == 0x70) _ _ (of_upload transfer request)
      (either (first == 0x80) _ _ on_silence (on_abort (place_of transfer) unknown_command)))))))))

-- ---- the laws

pub wrote_one : (shape : Shaped) (values : Values) (transfer : Transfer) (request : List ℕ)
    → WritesOne shape values (server_answer shape values transfer request)
wrote_one shape values transfer request =
    of_answered shape values (WritesOne shape values)
    (λ place abort. refl) (λ frame next other. refl)
    (λ place bytes frame other e. (bytes, (e, refl))) refl transfer request

pub aborts : (shape : Shaped) (values : Values) (transfer : Transfer) (request : List ℕ)
    → LeavesOnAbort values (server_answer shape values transfer request)
aborts shape values transfer request =
    of_answered shape values (LeavesOnAbort values)
    (λ place abort e. (refl, refl)) (λ frame next other e. cc) (λ place bytes frame other checked e. cc)
    (λ e. (refl, refl)) transfer request
