use Rattle.std.proofs.Common.{◌≡◌, ◌++◌, [], Err, refl, ap, sym}
use Rattle.std.proofs.lemmas.Result.{err_from_is_err_and}
use Rattle.streams.specs.declared.fault.SessionFault.TheVariants.{Memory}
use Rattle.workbench.specs.Replies.{After}
use Rattle.workbench.specs.Machine.{Cursor, after}
use Rattle.workbench.specs.Views.{cursor_of, ended_at}
use Rattle.workbench.proofs.PutReplies.{puts_nothing, puts_cut, puts_then, puts_failed}
use Rattle.workbench.proofs.Runs.{goes_on, goes_to_end, goes_replies}
use Rattle.workbench.proofs.serving.put_lines.Goals as goal

pub lines-init : goal.lines-init
lines-init g c = ([], refl, puts_nothing g.W.Outlet c.args.writer.now c.args.outbox.now)

pub lines-preserved : goal.lines-preserved
lines-preserved g c =
    let inv = c.lines.invariant in
    let s = cursor_of c.lines.cursor in
    let r = ended_at c.take_rest.new.self c.in_ok-reply.reply in (
      inv.0 ++ r.replies,
      goes_on _ _ s.state s.line c.lines.rest.now inv.0 inv.1 _ _ c.in-Some.ensures.parts _
          refl r c.in_ok-reply.ensures,
      puts_then g.W.Outlet _ _ _ _ _ _ inv.0 r.replies _ inv.2 c.in_ok-put_reply.ensures.puts,
    )

pub returns-in_err-reply-clause-puts : goal.returns-in_err-reply-clause-puts
returns-in_err-reply-clause-puts g c =
    let inv = c.lines.invariant in
    let s = cursor_of c.lines.cursor in
    let p = err_from_is_err_and c.from_residual.result c.from_residual.ensures.1 in
    let is : c.from_residual.result ≡ Err Memory = cc in
    rw (goes_replies _ _ s c.lines.rest.now inv.0 inv.1)
    (puts_cut g.W.Outlet _ _ _ _ inv.0 (after s c.lines.rest.now).replies _ inv.2 is)

pub returns-in_err-put_reply-clause-puts : goal.returns-in_err-put_reply-clause-puts
returns-in_err-put_reply-clause-puts g c =
    let inv = c.lines.invariant in
    let s = cursor_of c.lines.cursor in
    let r = ended_at c.take_rest.new.self c.in_ok-reply.reply in
    let on = goes_on (cursor_of c.args.cursor.now) c.args.piece.now s.state s.line c.lines.rest.now inv.0 inv.1 _ _
    c.in-Some.ensures.parts _ refl r c.in_ok-reply.ensures in
    let all = goes_replies (cursor_of c.args.cursor.now) c.args.piece.now r.state c.in-Some.after.now (inv.0
    ++ r.replies) on in
    let p = err_from_is_err_and c.from_residual-in_err-put_reply.result c.from_residual-in_err-put_reply.ensures.1 in
    rw all (puts_failed g.W.Outlet _ _ _ _ (inv.0 ++ r.replies) (after r.state c.in-Some.after.now).replies _ _ p.0
    (puts_then g.W.Outlet _ _ _ _ _ _ inv.0 r.replies _ inv.2 c.in_err-put_reply.ensures.puts) (cc) p.1)

pub returns-in_err-extend_from_slice-clause-puts : goal.returns-in_err-extend_from_slice-clause-puts
returns-in_err-extend_from_slice-clause-puts g c =
    let inv = c.lines.invariant in
    let s = cursor_of c.lines.cursor in
    let out = c.from_residual-in_err-extend_from_slice in
    let p = err_from_is_err_and out.result out.ensures.1 in
    let is : out.result ≡ Err Memory = cc in
    rw (goes_replies _ _ s c.lines.rest.now inv.0 inv.1)
    (puts_cut g.W.Outlet _ _ _ _ inv.0 (after s c.lines.rest.now).replies _ inv.2 is)

pub returns-clause-cursor : goal.returns-clause-cursor
returns-clause-cursor g c =
    let inv = c.lines.invariant in
    let s = cursor_of c.lines.cursor in
    let all = goes_to_end (cursor_of c.args.cursor.now) c.args.piece.now s.state s.line c.lines.rest.now inv.0 inv.1
    c.in_default.ensures.parts _ c.in_ok-extend_from_slice.ensures.items in
    sym (ap (λ (r : After Cursor). r.state) all)

pub returns-clause-puts : goal.returns-clause-puts
returns-clause-puts g c =
    let inv = c.lines.invariant in
    let s = cursor_of c.lines.cursor in
    let all = goes_to_end (cursor_of c.args.cursor.now) c.args.piece.now s.state s.line c.lines.rest.now inv.0 inv.1
    c.in_default.ensures.parts _ c.in_ok-extend_from_slice.ensures.items in
    rw (ap (λ (r : After Cursor). r.replies) all) inv.2
