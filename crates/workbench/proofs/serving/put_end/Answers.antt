use Rattle.std.proofs.Common.{◌≡◌, [], Err}
use Rattle.std.proofs.lemmas.Result.{err_from_is_err_and}
use Rattle.streams.specs.declared.fault.SessionFault.TheVariants.{Memory}
use Rattle.workbench.specs.Machine.{at_end}
use Rattle.workbench.specs.Views.{cursor_of, ended_at, replies_of}
use Rattle.workbench.proofs.PutReplies.{puts_nothing, puts_cut}
use Rattle.workbench.proofs.PutEnd.{last_failed, last_then}
use Rattle.workbench.proofs.serving.put_end.Goals as goal

pub returns-in_err-last : goal.returns-in_err-last
returns-in_err-last g c =
    let p = err_from_is_err_and c.from_residual.result c.from_residual.ensures.1 in
    let is : c.from_residual.result ≡ Err Memory = cc in
    record {
      puts = puts_cut g.W.Outlet _ _ _ _ [] (at_end (cursor_of c.args.cursor.now)) _
          (puts_nothing g.W.Outlet c.args.writer.now c.args.outbox.now) is;
    }

pub returns-in_err-put_reply : goal.returns-in_err-put_reply
returns-in_err-put_reply g c =
    let p = err_from_is_err_and c.from_residual-in_err-put_reply.result c.from_residual-in_err-put_reply.ensures.1 in
    record {
      puts = last_failed g.W.Outlet _ _ _ _ (cursor_of c.args.cursor.now)
          (ended_at c.end_last_line.new.self c.in_ok-last.last) c.in_ok-last.ensures _ _ p.0
          c.in_err-put_reply.ensures.puts (cc) p.1;
    }

pub returns : goal.returns
returns g c = record {
  puts = last_then g.W.Outlet _ _ _ _ _ _ (cursor_of c.args.cursor.now)
      (ended_at c.end_last_line.new.self c.in_ok-last.last) c.in_ok-last.ensures (replies_of c.cut_off.result)
      c.cut_off.ensures _ c.in_ok-put_reply.ensures.puts c.put_reply-2.ensures.puts;
}
