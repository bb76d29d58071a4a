-- A session up to some turn, and what it has done where it ends.
use Rattle.std.proofs.Common.{◌≡◌, ◌≤◌, ◌<◌, ◌+◌, ℕ, true, List, [], ◌++◌, Option, Some, None, IfSome, Result, Ok, Err}
use Rattle.std.proofs.Common.{length, refl, subst, ◌∙◌, arith}
use Rattle.std.proofs.KnownBytes.{Appends-nil}
use Rattle.std.specs.Io.KnownBytes.{Consumes, IsAtEnd, Keeps}
use Rattle.streams.specs.declared.fault.SessionFault.{SessionFault}
use Rattle.streams.specs.declared.fault.SessionFault.TheVariants.{Memory, Read, Write}
use Rattle.streams.specs.declared.intake.Intake.{Ghosts as Intake}
use Rattle.streams.specs.declared.outlet.Outlet.{Ghosts as Outlet}
use Rattle.streams.specs.Streams.{CountsOne, OneFailed}
use Rattle.workbench.specs.declared.serving.TheConstants.{LIMIT}
use Rattle.workbench.specs.Replies.{replies, complete_replies}
use Rattle.workbench.specs.Machine.{Cursor, first_cursor, after, at_end}
use Rattle.workbench.specs.Session.{ServesSession}
use Rattle.workbench.specs.Written.{Puts, WroteAll, WroteFirst, WroteFront}
use Rattle.workbench.proofs.Ends.{known-all, all_at_end, first_at_end, front_at_end, first_in_piece, front_in_piece}
use Rattle.workbench.proofs.Ends.{read_too_much, read-failed, due_then, due_none}
use Rattle.workbench.proofs.PutReplies.{ok_is_no_err, memory_is_not_read, memory_is_not_write, write_is_not_read}
use Rattle.workbench.proofs.PutReplies.{no_value, wrote_all, wrote_first}

-- ---- where it ends before it begins

none_written : (o c : Option (List ℕ)) → IfSome o (λ input. WroteFirst c c (replies input))
none_written None c = tt
none_written (Some input) c = ([], replies input, refl, Appends-nil c)

pub serves_nothing : {R W X : Type 0} (intake : Intake R) (outlet : Outlet W) (r : R) (u : W)
    (e : Result X SessionFault) → e ≡ Err Memory → ServesSession intake outlet r r u u e
serves_nothing intake outlet r u e is = record {
  replies = no_value e Memory _ is;
  ended = no_value e Memory _ is;
  limit = no_value e Memory _ is;
  memory = λ _. none_written (intake.remaining r) (outlet.contents u);
  due = λ _. due_none (intake.remaining r) (outlet.contents u);
  read = λ h. absurd (memory_is_not_read e is h);
  write = λ h. absurd (memory_is_not_write e is h);
  taken = λ h. absurd (memory_is_not_write e is h);
  reads = omega arith;
  reader_quiet = λ _. refl;
  writer_quiet = λ _. refl;
  flushed = λ _ f. f;
}

-- ---- up to a turn

-- these bytes came, and the replies to what is complete in them were written
pub record HasServed {R W : Type 0} (intake : Intake R) (outlet : Outlet W) (reader_old reader : R)
    (writer_old writer : W) (cursor : Cursor) (room turns : ℕ) : Type 0 where
  pub bytes : List ℕ
  pub came : Consumes (intake.remaining reader_old) (intake.remaining reader) bytes
  pub cursor_is : cursor ≡ (after first_cursor bytes).state
  pub wrote : WroteAll (outlet.contents writer_old) (outlet.contents writer) (complete_replies bytes)
  pub within : length bytes + room ≡ LIMIT
  pub turns_within : turns ≤ length bytes
  pub reader_quiet : intake.failures reader ≡ intake.failures reader_old
  pub writer_quiet : outlet.failures writer ≡ outlet.failures writer_old
  pub flushed : outlet.flushed writer_old ≡ true → outlet.flushed writer ≡ true
  pub reads : intake.reads reader ≤ intake.reads reader_old + turns

-- r, q, x: the reader at the start, before a read and after it; u, v: the writer at the start and then
module _ {R W : Type 0} (intake : Intake R) (outlet : Outlet W) (r q x : R) (u v : W) (s : Cursor) (room turns : ℕ)
    (served : HasServed intake outlet r q u v s room turns)
    (counted : CountsOne (intake.reads q) (intake.reads x)) where
  -- one read more is within the bound
  reads_more : intake.reads x ≤ intake.reads r + (LIMIT + 1)
  reads_more = omega (arith, counted, served.reads, served.turns_within, served.within)

  -- reading failed
  pub serves_read : {X : Type 0} (e : Result X SessionFault) → e ≡ Err Read
      → Keeps (intake.remaining q) (intake.remaining x) → OneFailed (intake.failures q) (intake.failures x)
      → ServesSession intake outlet r x u v e
  serves_read e is kept failed = record {
    replies = no_value e Read _ is;
    ended = no_value e Read _ is;
    limit = no_value e Read _ is;
    memory = λ h. absurd (memory_is_not_read e h is);
    due = λ h. absurd (memory_is_not_read e h is);
    read = λ _. read-failed (intake.remaining r) (intake.remaining q) (intake.remaining x) (outlet.contents u)
        (outlet.contents v) served.bytes LIMIT _ _ (omega (arith, served.within)) served.came kept
        (subst (λ n. OneFailed n (intake.failures x)) served.reader_quiet failed) served.wrote;
    write = λ h. absurd (write_is_not_read e h is);
    taken = λ h. absurd (write_is_not_read e h is);
    reads = reads_more;
    reader_quiet = λ h. absurd (h is);
    writer_quiet = λ _. served.writer_quiet;
    flushed = λ _. served.flushed;
  }

  module _ (quiet : intake.failures x ≡ intake.failures q) (w : W) where
    -- the input has ended
    pub serves_all : {X Y : Type 0} (k : X) (t : Y) → Consumes (intake.remaining r) (intake.remaining x) served.bytes
        → IsAtEnd (intake.remaining x) → Puts outlet v [] w [] (at_end s) (Ok t) → ServesSession intake outlet r x u w (Ok k)
    serves_all k t came end put = record {
      replies = all_at_end (intake.remaining r) (intake.remaining x) (outlet.contents u) (outlet.contents v)
          served.bytes s came served.cursor_is served.wrote (outlet.contents w) end
          (wrote_all (outlet.contents v) (outlet.contents w) (at_end s) put.ok);
      ended = end;
      limit = known-all (intake.remaining r) (intake.remaining x) served.bytes (λ input. length input ≤ LIMIT) came end
          (omega (arith, served.within));
      memory = λ h. absurd (ok_is_no_err k Memory h);
      due = λ h. absurd (ok_is_no_err k Memory h);
      read = λ h. absurd (ok_is_no_err k Read h);
      write = λ h. absurd (ok_is_no_err k Write h);
      taken = λ h. absurd (ok_is_no_err k Write h);
      reads = reads_more;
      reader_quiet = λ _. quiet ∙ served.reader_quiet;
      writer_quiet = λ _. put.quiet (ok_is_no_err t Write) ∙ served.writer_quiet;
      flushed = λ _ f. put.flushed (ok_is_no_err t Write) (served.flushed f);
    }

    -- a turn failed
    serves_turn : {X : Type 0} (last : List ℕ) (rs : List (List ℕ)) (e : Result X SessionFault) (f : SessionFault)
        → e ≡ Err f → Consumes (intake.remaining q) (intake.remaining x) last → length last ≤ 4096
        → Puts outlet v [] w [] rs e
        → (WroteFirst (outlet.contents v) (outlet.contents w) rs
        → IfSome (intake.remaining r) (λ input. WroteFirst (outlet.contents u) (outlet.contents w) (replies input)))
        → (WroteFront (outlet.contents v) (outlet.contents w) rs
        → IfSome (intake.remaining r) (λ input. WroteFront (outlet.contents u) (outlet.contents w) (replies input)))
        → ServesSession intake outlet r x u w e
    serves_turn last rs e f is more short put first front =
        let some : e ≡ Err Memory → WroteFirst (outlet.contents v) (outlet.contents w) rs = λ h.
        wrote_first (outlet.contents v) (outlet.contents w) rs (put.memory h) in record {
          replies = no_value e f _ is;
          ended = no_value e f _ is;
          limit = no_value e f _ is;
          memory = λ h. first (some h);
          due = λ h. due_then (intake.remaining r) (intake.remaining q) (intake.remaining x) (outlet.contents u)
              (outlet.contents v) (outlet.contents w) served.bytes last rs served.came more short served.wrote (some h);
          read = λ h. absurd (put.never_read h);
          write = λ h. subst (λ n. OneFailed n (outlet.failures w)) served.writer_quiet (put.write h).0;
          taken = λ h. front (put.write h).1;
          reads = reads_more;
          reader_quiet = λ _. quiet ∙ served.reader_quiet;
          writer_quiet = λ h. put.quiet h ∙ served.writer_quiet;
          flushed = λ h f. put.flushed h (served.flushed f);
        }

    -- that at the end of the input
    pub serves_last_turn : {X : Type 0} (last : List ℕ) (e : Result X SessionFault) (f : SessionFault) → e ≡ Err f
        → Consumes (intake.remaining r) (intake.remaining x) served.bytes → IsAtEnd (intake.remaining x)
        → Consumes (intake.remaining q) (intake.remaining x) last → length last ≤ 4096
        → Puts outlet v [] w [] (at_end s) e → ServesSession intake outlet r x u w e
    serves_last_turn last e f is came end more short put =
        let p = intake.remaining r in
        let o = intake.remaining x in
        let a = outlet.contents u in
        let b = outlet.contents v in
        let c = outlet.contents w in
        serves_turn last (at_end s) e f is more short put
        (first_at_end p o a b served.bytes s came served.cursor_is served.wrote c end)
        (front_at_end p o a b served.bytes s came served.cursor_is served.wrote c end)

    -- a piece of what was read, and what is behind it
    module _ (whole piece tail : List ℕ) (cut : whole ≡ piece ++ tail)
        (more : Consumes (intake.remaining q) (intake.remaining x) whole) where
      -- a turn over it failed
      pub serves_piece : {X : Type 0} (e : Result X SessionFault) (f : SessionFault) → e ≡ Err f
          → length whole ≤ 4096 → Puts outlet v [] w [] (after s piece).replies e → ServesSession intake outlet r x u w e
      serves_piece e f is short put =
          let p = intake.remaining r in
          let m = intake.remaining q in
          let o = intake.remaining x in
          let a = outlet.contents u in
          let b = outlet.contents v in
          let c = outlet.contents w in
          serves_turn whole (after s piece).replies e f is more short put
          (first_in_piece p m a b served.bytes s served.came served.cursor_is served.wrote o c whole piece tail cut more)
          (front_in_piece p m a b served.bytes s served.came served.cursor_is served.wrote o c whole piece tail cut more)

      -- more came than the limit lets in
      pub serves_limit : {X Y : Type 0} (t : Y) (e : Result X SessionFault) → e ≡ Err Read
          → length (served.bytes ++ piece) ≡ LIMIT → 0 < length tail
          → Puts outlet v [] w [] (after s piece).replies (Ok t) → ServesSession intake outlet r x u w e
      serves_limit t e is full some put = record {
        replies = no_value e Read _ is;
        ended = no_value e Read _ is;
        limit = no_value e Read _ is;
        memory = λ h. absurd (memory_is_not_read e h is);
        due = λ h. absurd (memory_is_not_read e h is);
        read = λ _. read_too_much (intake.remaining r) (intake.remaining q) (outlet.contents u) (outlet.contents v)
            served.bytes s served.came served.cursor_is served.wrote (intake.remaining x) (outlet.contents w) whole piece
            tail cut more LIMIT _ _ full some (quiet ∙ served.reader_quiet)
            (wrote_all (outlet.contents v) (outlet.contents w) (after s piece).replies put.ok);
        write = λ h. absurd (write_is_not_read e h is);
        taken = λ h. absurd (write_is_not_read e h is);
        reads = reads_more;
        reader_quiet = λ h. absurd (h is);
        writer_quiet = λ _. put.quiet (ok_is_no_err t Write) ∙ served.writer_quiet;
        flushed = λ _ f. put.flushed (ok_is_no_err t Write) (served.flushed f);
      }
