use Rattle.std.proofs.Common.{refl}
use Rattle.std.proofs.lemmas.Result.{err_from_is_err_and}
use Rattle.streams.specs.declared.fault.SessionFault.TheVariants.{Read, Write}
use Rattle.workbench.proofs.PutReplies.{puts_sent, puts_first_sent, puts_first_unsent, puts_stopped}
use Rattle.workbench.proofs.serving.take_turn.Goals as goal

pub returns-in-Ok-clause-puts : goal.returns-in-Ok-clause-puts
returns-in-Ok-clause-puts g c =
    let sent = c.send.ensures in
    puts_sent g.W.Outlet _ _ _ _ _ _ _ c.in-Ok.ensures.puts c.requires sent.ok sent.quiet sent.flushed
    sent.write

pub returns-in_err-send-in-Err-Memory-clause-puts : goal.returns-in_err-send-in-Err-Memory-clause-puts
returns-in_err-send-in-Err-Memory-clause-puts g c =
    let failed = c.in_err-send-in-Err-Memory.ensures.write in
    let p = err_from_is_err_and c.from_residual.result c.from_residual.ensures.1 in
    puts_first_unsent g.W.Outlet _ _ _ _ _ _ _ _ c.in-Err-Memory.ensures.puts c.requires (cc) (cc)
    failed.1 failed.2

pub returns-in_ok-send-in-Err-Memory-clause-puts : goal.returns-in_ok-send-in-Err-Memory-clause-puts
returns-in_ok-send-in-Err-Memory-clause-puts g c =
    let sent = c.in_ok-send-in-Err-Memory.ensures in
    puts_first_sent g.W.Outlet _ _ _ _ _ _ _ _ c.in-Err-Memory.ensures.puts c.requires (cc) refl sent.ok
    sent.quiet sent.flushed

pub returns-in-Err-Read-clause-puts : goal.returns-in-Err-Read-clause-puts
returns-in-Err-Read-clause-puts g c =
    puts_stopped g.W.Outlet _ _ c.args.writer.now _ _ _ _ _ c.in-Err-Read.ensures.puts c.requires Read (cc) refl
    (λ h. cc)

pub returns-in-Err-Write-clause-puts : goal.returns-in-Err-Write-clause-puts
returns-in-Err-Write-clause-puts g c =
    puts_stopped g.W.Outlet _ _ c.args.writer.now _ _ _ _ _ c.in-Err-Write.ensures.puts c.requires Write (cc) refl
    (λ h. cc)
