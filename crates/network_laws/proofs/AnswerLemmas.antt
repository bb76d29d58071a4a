-- What the client makes of each answer that the server gives to a request of a download.
use Rattle.std.proofs.Common.{◌≡◌, ℕ, ◌<◌, ◌==◌, Bool, true, false, not, List, [], ◌++◌, drop, Option}
use Rattle.std.proofs.Common.{Some, None, Result, Ok, Err, refl, sym, ap, subst, ◌∙◌, arith}
use Rattle.std.specs.Prelude.{◌&&◌, if◌then◌else◌}
use Rattle.std.specs.FinMap.{insert}
use Rattle.std.proofs.lemmas.Bool.Decides.{nat_tests}
use Rattle.byteorder.specs.Endian.{little_bytes, little_number}
use Rattle.co_dict.specs.declared.abort.Abort.{Abort}
use Rattle.co_dict.specs.Values.{Values}
use Rattle.co_sdo.specs.Frames.{abort_frame, download_confirmed, is_last_piece, names, next_segment}
use Rattle.co_sdo.specs.Frames.{number_told, place_named, segment_confirmed}
use Rattle.co_sdo.specs.Server.{AfterRequest, abort_answer, answer_alone, unless_refused}
use Rattle.co_sdo.specs.declared.transfer.Transfer.TheVariants.{Idle, Download}
use Rattle.sdo_client.specs.Client.{after_answer, after_segment_confirmed, end_of_transfer, is_idle, next_request}
use Rattle.sdo_client.specs.Client.{unexpected_answer}
use Rattle.sdo_client.specs.declared.advance.Advance.{Advance}
use Rattle.sdo_client.specs.declared.client_transfer.ClientTransfer.{ClientTransfer}
use Rattle.sdo_client.specs.declared.client_transfer.ClientTransfer.TheVariants.{Downloading, Offering}
use Rattle.sdo_client.specs.declared.client_transfer.ClientTransfer.TheVariants.{SendingSegments}
use Rattle.sdo_client.specs.declared.progress.Progress.TheVariants.{Ask, Failed, Written}
use Rattle.sdo_client.proofs.ReadLemmas.{named_again}
use Rattle.network_laws.specs.Downloads.{IsAnswered, IsUnderWay, Stores, StoresNothing}

-- ---- the entry that a frame names

-- an index that a frame has is one of two bytes
pub index_read : (n : ℕ) (rest : List ℕ) → little_number 2 (little_bytes 2 n ++ rest) < 0x10000
index_read n rest = omega arith

same_numbers : (m n : ℕ) → (m == n) ≡ true → m ≡ n
same_numbers m n e = grind (arith, nat_tests)

both_same : (a b : Bool) → a && b ≡ true → (a ≡ true) × (b ≡ true)
both_same true true e = (refl, refl)
both_same true false e = cc
both_same false b e = cc

-- a confirmation that names an entry is that of this entry
pub confirmed_entry : (place other : ℕ × ℕ) → other.0 < 0x10000 → names place (download_confirmed other) ≡ true
    → other ≡ place
confirmed_entry place other h e =
    let named : place_named (download_confirmed other) ≡ other = named_again 0x60 other [] h in
    let same : (other.0 == place.0) && (other.1 == place.1) ≡ true =
    sym (ap (λ (p : ℕ × ℕ). (p.0 == place.0) && (p.1 == place.1)) named) ∙ e in
    let two = both_same (other.0 == place.0) (other.1 == place.1) same in
    let first = same_numbers other.0 place.0 two.0 in
    let second = same_numbers other.1 place.1 two.1 in
    ap (λ (n : ℕ). (n, other.1)) first ∙ ap (λ (n : ℕ). (place.0, n)) second

module _ (place : ℕ × ℕ) (value : List ℕ) (values : Values) where
  -- what the server did is in keeping with how the client goes on
  pub record Suits (after : AfterRequest) (advance : Advance) : Type 0 where
    pub over : advance.progress ≡ Some Written → Stores place value values after
    pub further : (next : List ℕ) → advance.progress ≡ Some (Ask next)
        → StoresNothing values after × IsUnderWay place value advance.stage after.transfer next

  pub failed : (after : AfterRequest) (abort : Abort) (frame : Option (List ℕ))
      → Suits after (end_of_transfer (Failed abort frame))
  failed after abort frame = record { over = λ e. cc; further = λ next e. cc }

  pub written : (after : AfterRequest) → Stores place value values after → Suits after (end_of_transfer Written)
  written after h = record { over = λ e. h; further = λ next e. cc }

  pub asked : (after : AfterRequest) (frame : List ℕ) (stage : ClientTransfer) → StoresNothing values after
      → IsUnderWay place value stage after.transfer frame → Suits after (next_request frame stage)
  asked after frame stage h under = record {
    over = λ e. cc;
    further = λ next e. let same : frame ≡ next = cc in (h, subst (IsUnderWay place value stage after.transfer) same under);
  }

  module _ (stage : ClientTransfer) where
    -- whatever the server answers, it did what the client makes of it
    abbrev pub Answers : AfterRequest → Type 0
    Answers after = (answer : List ℕ) → after.answer ≡ Some answer → IsAnswered place value stage values after answer

    pub answers : (after : AfterRequest) (frame : List ℕ) (advance : Advance) → after.answer ≡ Some frame
        → after_answer stage frame ≡ advance → Suits after advance → Answers after
    answers after frame advance is e h answer other =
        let same : frame ≡ answer = cc in
        let suits : Suits after (after_answer stage frame) = subst (Suits after) (sym e) h in
        subst (IsAnswered place value stage values after) same
        (record { written = suits.over; goes_on = suits.further })

    refused : is_idle stage ≡ false → (other : ℕ × ℕ) (abort : Abort)
        → after_answer stage (abort_frame other abort)
        ≡ end_of_transfer (Failed (record { 0 = number_told (abort_frame other abort) }) None)
    unfolding after_answer
    refused busy other abort = rw busy refl

    pub aborted : is_idle stage ≡ false → (other : ℕ × ℕ) (abort : Abort) → Answers (abort_answer other abort values)
    aborted busy other abort = answers _ _ _ refl (refused busy other abort) (failed _ _ _)

    pub unless : is_idle stage ≡ false → (check : Result (Unit {0}) Abort) (other : ℕ × ℕ) (next : AfterRequest)
        → Answers next → Answers (unless_refused check other values next)
    unless busy (Ok nothing) other next h = h
    unless busy (Err abort) other next h = aborted busy other abort

  -- ---- the answers that aren't aborts

  if_named : (test : Bool) (after : AfterRequest) (next : Advance) → (test ≡ true → Suits after next)
      → Suits after (if test then next else unexpected_answer place)
  if_named true after next h = h refl
  if_named false after next h = failed _ _ _

  module _ (other : ℕ × ℕ) (index : other.0 < 0x10000) where
    heard : after_answer (Downloading place) (download_confirmed other)
        ≡ (if names place (download_confirmed other) then end_of_transfer Written else unexpected_answer place)
    unfolding after_answer
    heard = refl

    -- an expedited download that was stored
    pub stored_at_once : Answers (Downloading place) (record {
      answer = Some (download_confirmed other);
      values = insert values other value;
      transfer = Idle;
      wrote = Some other;
    })
    stored_at_once = answers (Downloading place) _ _ _ refl heard (if_named (names place (download_confirmed other)) _ _
        (λ e. let same = confirmed_entry place other index e in written _ (record {
          wrote = ap (λ (p : ℕ × ℕ). Some p) same;
          stored = ap (λ (p : ℕ × ℕ). insert values p value) same;
        })))

    offered : after_answer (Offering place value) (download_confirmed other)
        ≡ (if names place (download_confirmed other)
        then next_request (next_segment false value) (SendingSegments place value false)
        else unexpected_answer place)
    unfolding after_answer
    offered = refl

    -- a segmented download that was begun
    pub begun : (size : ℕ) → Answers (Offering place value)
        (answer_alone (download_confirmed other) (Download other size [] false) values)
    begun size = answers (Offering place value) _ _ _ refl offered (if_named (names place (download_confirmed other)) _ _
        (λ e. asked _ _ _ (record { wrote = refl; kept = refl })
        (record { asked = (refl, refl); awaited = (confirmed_entry place other index e, (refl, refl)) })))

  module _ (rest : List ℕ) where
    sent_last : (toggle : Bool) → is_last_piece rest ≡ true
        → after_answer (SendingSegments place rest toggle) (segment_confirmed toggle) ≡ end_of_transfer Written
    unfolding after_answer after_segment_confirmed
    sent_last true few = rw few refl
    sent_last false few = rw few refl

    sent_one : (toggle : Bool) → is_last_piece rest ≡ false
        → after_answer (SendingSegments place rest toggle) (segment_confirmed toggle)
        ≡ next_request (next_segment (not toggle) (drop 7 rest)) (SendingSegments place (drop 7 rest) (not toggle))
    unfolding after_answer after_segment_confirmed
    sent_one true many = rw many refl
    sent_one false many = rw many refl

    -- the last segment of a download that was stored
    pub stored_last : (toggle : Bool) → is_last_piece rest ≡ true → Answers (SendingSegments place rest toggle) (record {
      answer = Some (segment_confirmed toggle);
      values = insert values place value;
      transfer = Idle;
      wrote = Some place;
    })
    stored_last toggle few = answers (SendingSegments place rest toggle) _ _ _ refl (sent_last toggle few)
        (written _ (record { wrote = refl; stored = refl }))

    -- a segment that was taken, and is not the last
    pub taken_one : (toggle : Bool) (size : ℕ) (taken : List ℕ) → is_last_piece rest ≡ false
        → taken ++ drop 7 rest ≡ value
        → Answers (SendingSegments place rest toggle)
        (answer_alone (segment_confirmed toggle) (Download place size taken (not toggle)) values)
    taken_one toggle size taken many whole = answers (SendingSegments place rest toggle) _ _ _ refl (sent_one toggle many)
        (asked _ _ _ (record { wrote = refl; kept = refl })
        (record { asked = (refl, refl); awaited = (refl, (refl, whole)) }))
