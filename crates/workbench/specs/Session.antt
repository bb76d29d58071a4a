-- What a session does from a reader to a writer.
use Rattle.std.specs.Prelude.{◌≡◌, ◌≢◌, ◌<◌, ◌≤◌, ◌+◌, ◌++◌, ◌⊎◌, ℕ, true, List, length, take, Result, Err, OnOk, IfSome}
use Rattle.std.specs.Prelude.{IsErrOf}
use Rattle.std.specs.Io.KnownBytes.{Consumes, IsAtEnd}
use Rattle.streams.specs.declared.fault.SessionFault.{SessionFault}
use Rattle.streams.specs.declared.fault.SessionFault.TheVariants.{Memory, Read, Write}
use Rattle.streams.specs.declared.intake.Intake.{Ghosts as Intake}
use Rattle.streams.specs.declared.outlet.Outlet.{Ghosts as Outlet}
use Rattle.streams.specs.Streams.{OneFailed}
use Rattle.workbench.specs.declared.serving.TheConstants.{LIMIT}
use Rattle.workbench.specs.Replies.{replies as replies_to, complete_replies}
use Rattle.workbench.specs.Written.{WroteAll, WroteFirst, WroteFront, WroteAtLeast}

-- A SESSION from a reader to a writer, each as it was and as it is when the session ends with this result
pub record ServesSession {R W X : Type 0} (intake : Intake R) (outlet : Outlet W) (reader_old reader_new : R)
    (writer_old writer_new : W) (result : Result X SessionFault) : Type 0 where
  -- the replies to all of the input were written, and nothing else
  pub replies : OnOk result (IfSome (intake.remaining reader_old) (λ input.
      WroteAll (outlet.contents writer_old) (outlet.contents writer_new) (replies_to input)))
  -- all of the input was read
  pub ended : OnOk result (IsAtEnd (intake.remaining reader_new))
  -- and it is within the limit
  pub limit : OnOk result (IfSome (intake.remaining reader_old) (λ input. length input ≤ LIMIT))
  -- where memory runs out, the first of the replies, each whole
  pub memory : IsErrOf result Memory → IfSome (intake.remaining reader_old) (λ input.
      WroteFirst (outlet.contents writer_old) (outlet.contents writer_new) (replies_to input))
  -- among them those that were due before the last read
  pub due : IsErrOf result Memory → (bytes last : List ℕ)
      × Consumes (intake.remaining reader_old) (intake.remaining reader_new) (bytes ++ last)
      × (length last ≤ 4096)
      × WroteAtLeast (outlet.contents writer_old) (outlet.contents writer_new) (complete_replies bytes)
  -- where reading stops, the replies to the commands that are complete in what was read, up to the limit
  pub read : IsErrOf result Read → (bytes : List ℕ)
      × Consumes (intake.remaining reader_old) (intake.remaining reader_new) bytes
      × (OneFailed (intake.failures reader_old) (intake.failures reader_new)
      ⊎ ((LIMIT < length bytes) × (intake.failures reader_new ≡ intake.failures reader_old)))
      × WroteAll (outlet.contents writer_old) (outlet.contents writer_new) (complete_replies (take LIMIT bytes))
  -- where writing stops, a call of the writer failed
  pub write : IsErrOf result Write → OneFailed (outlet.failures writer_old) (outlet.failures writer_new)
  -- and it took a front of the replies
  pub taken : IsErrOf result Write → IfSome (intake.remaining reader_old) (λ input.
      WroteFront (outlet.contents writer_old) (outlet.contents writer_new) (replies_to input))
  -- at most 67,108,865 reads are made
  pub reads : intake.reads reader_new ≤ intake.reads reader_old + (LIMIT + 1)
  -- no failure is passed over: the reader fails with Read alone
  pub reader_quiet : result ≢ Err Read → intake.failures reader_new ≡ intake.failures reader_old
  -- and the writer with Write alone
  pub writer_quiet : result ≢ Err Write → outlet.failures writer_new ≡ outlet.failures writer_old
  -- but for Write, what was written has also been flushed
  pub flushed : result ≢ Err Write → outlet.flushed writer_old ≡ true → outlet.flushed writer_new ≡ true
