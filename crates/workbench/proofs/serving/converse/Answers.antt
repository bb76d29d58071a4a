use Rattle.std.proofs.Common.{◌≡◌, ◌≤◌, ◌++◌, [], refl, rules, take, drop, sym, ◌∙◌, arith, length, length-append}
use Rattle.std.proofs.Common.{length-take, length-drop, Err}
use Rattle.std.proofs.KnownBytes.{Appends-nil, Consumes-nil}
use Rattle.std.proofs.lemmas.Result.{err_from_is_err_and}
use Rattle.streams.specs.declared.fault.SessionFault.TheVariants.{Memory}
use Rattle.workbench.specs.Machine.{after}
use Rattle.workbench.specs.Views.{cursor_of}
use Rattle.workbench.proofs.Ends.{all_in_piece, came-all, came-none, cursor_both, cut_at}
use Rattle.workbench.proofs.Ends.{none_complete, not_begun}
use Rattle.workbench.proofs.PutReplies.{puts_as, wrote_all}
use Rattle.workbench.proofs.Sessions.{serves_nothing, serves_read, serves_all, serves_last_turn, serves_piece}
use Rattle.workbench.proofs.Sessions.{serves_limit}
use Rattle.workbench.proofs.serving.converse.Goals as goal

pub returns-in_err-outbox-clause-serves : goal.returns-in_err-outbox-clause-serves
returns-in_err-outbox-clause-serves g c =
    let p = err_from_is_err_and c.from_residual.result c.from_residual.ensures.1 in
    let is : c.from_residual.result ≡ Err Memory = cc in
    serves_nothing g.R.Intake g.W.Outlet _ _ _ is

pub returns-in-Err-clause-serves : goal.returns-in-Err-clause-serves
returns-in-Err-clause-serves g c =
    let read = c.in-Err.ensures in
    serves_read g.R.Intake g.W.Outlet _ _ _ _ _ _ _ _ c.loop-turn.invariant.0 read.counted _ refl read.bytes read.failed

pub returns-then-n-eq0-clause-serves : goal.returns-then-n-eq0-clause-serves
returns-then-n-eq0-clause-serves g c =
    let inv = c.loop-turn.invariant in
    let read = c.in-Ok.ensures in
    serves_all g.R.Intake g.W.Outlet _ _ _ _ _ _ _ _ inv.0 read.counted read.failed _ _ _
    (came-none _ _ _ inv.0.bytes c.read.new.buf c.in-Ok.n c.if-n-eq0.true inv.0.came read.bytes.0)
    (read.bytes.1 c.if-n-eq0.true (omega arith)) c.in_ok-take_turn.ensures.puts

pub returns-in_err-take_turn-clause-serves : goal.returns-in_err-take_turn-clause-serves
returns-in_err-take_turn-clause-serves g c =
    let inv = c.loop-turn.invariant in
    let read = c.in-Ok.ensures in
    let buffer = c.read.new.buf in
    let p = err_from_is_err_and c.from_residual-in_err-take_turn.result c.from_residual-in_err-take_turn.ensures.1 in
    serves_last_turn g.R.Intake g.W.Outlet _ _ _ _ _ _ _ _ inv.0 read.counted read.failed _ (take c.in-Ok.n buffer) _ p.0
    p.1 (came-none _ _ _ inv.0.bytes buffer c.in-Ok.n c.if-n-eq0.true inv.0.came read.bytes.0)
    (read.bytes.1 c.if-n-eq0.true (omega arith)) read.bytes.0
    (omega (arith, length-take c.in-Ok.n buffer, c.read.auto.buf, inv.1))
    (puts_as g.W.Outlet _ _ _ _ _ _ _ p.0 c.in_err-take_turn.ensures.puts (cc) p.1)

pub returns-in_err-take_turn-2-clause-serves : goal.returns-in_err-take_turn-2-clause-serves
returns-in_err-take_turn-2-clause-serves g c =
    let inv = c.loop-turn.invariant in
    let read = c.in-Ok.ensures in
    let buffer = c.read.new.buf in
    let n = c.in-Ok.n in
    let used = c.min-used.result in
    let p = err_from_is_err_and c.from_residual-in_err-take_turn-2.result c.from_residual-in_err-take_turn-2.ensures.1
    in
    serves_piece g.R.Intake g.W.Outlet _ _ _ _ _ _ _ _ inv.0 read.counted read.failed _ (take n buffer)
    (take used buffer) (drop used (take n buffer)) (cut_at buffer n used (omega (arith, c.min-used.ensures)))
    read.bytes.0 _ p.0 p.1 (omega (arith, length-take n buffer, c.read.auto.buf, inv.1))
    (puts_as g.W.Outlet _ _ _ _ _ _ _ p.0 c.in_err-take_turn-2.ensures.puts (cc) p.1)

pub returns-then-room-n-clause-serves : goal.returns-then-room-n-clause-serves
returns-then-room-n-clause-serves g c =
    let inv = c.loop-turn.invariant in
    let read = c.in-Ok.ensures in
    let buffer = c.read.new.buf in
    let n = c.in-Ok.n in
    let used = c.min-used.result in
    let fits : n ≤ length buffer = omega (arith, read.bound) in
    let is_room : used ≡ c.loop-turn.room = omega (arith, c.min-used.ensures) in
    serves_limit g.R.Intake g.W.Outlet _ _ _ _ _ _ _ _ inv.0 read.counted read.failed _ (take n buffer)
    (take used buffer) (drop used (take n buffer)) (cut_at buffer n used (omega (arith, c.min-used.ensures)))
    read.bytes.0 _ _ refl
    (omega (arith, length-append inv.0.bytes (take used buffer), length-take used buffer, inv.0.within))
    (omega (arith, length-drop used (take n buffer), length-take n buffer)) c.in_ok-take_turn-2.ensures.puts

pub loop-turn-preserved : goal.loop-turn-preserved
loop-turn-preserved g c =
    let inv = c.loop-turn.invariant in
    let read = c.in-Ok.ensures in
    let buffer = c.read.new.buf in
    let n = c.in-Ok.n in
    let used = c.min-used.result in
    let was = c.in_ok-take_turn-2.ensures in
    let fits : n ≤ length buffer = omega (arith, read.bound) in
    let all : used ≡ n = omega (arith, c.min-used.ensures) in
    let piece = take used buffer in
    let tail = drop used (take n buffer) in
    let cut = cut_at buffer n used (omega (arith, c.min-used.ensures)) in (
      record {
        bytes = inv.0.bytes ++ piece;
        came = came-all _ _ _ inv.0.bytes buffer n used all inv.0.came read.bytes.0;
        cursor_is = was.cursor ∙ cursor_both _ _ _ _ inv.0.bytes (cursor_of c.loop-turn.cursor) inv.0.came
            inv.0.cursor_is inv.0.wrote _ (g.W.Outlet.contents c.take_turn-in-loop-turn.new.writer) (take n buffer) piece
            tail cut read.bytes.0;
        wrote = all_in_piece _ _ _ _ inv.0.bytes (cursor_of c.loop-turn.cursor) inv.0.came inv.0.cursor_is inv.0.wrote _ _
            (take n buffer) piece tail cut read.bytes.0 (wrote_all _ _ (after (cursor_of c.loop-turn.cursor)
            piece).replies was.puts.ok);
        within = omega (arith, length-append inv.0.bytes piece, length-take used buffer, inv.0.within);
        turns_within = omega (arith, length-append inv.0.bytes piece, length-take used buffer, inv.0.turns_within);
        reader_quiet = read.failed ∙ inv.0.reader_quiet;
        writer_quiet = was.puts.quiet (λ h. cc) ∙ inv.0.writer_quiet;
        flushed = λ h. was.puts.flushed (λ e. cc) (inv.0.flushed h);
        reads = omega (arith, read.counted, inv.0.reads);
      },
      c.read.auto.buf ∙ inv.1,
      was.empty,
    )

pub loop-turn-init : goal.loop-turn-init
loop-turn-init g c = (
  record {
    bytes = [];
    came = Consumes-nil _;
    cursor_is = c.requires ∙ sym not_begun;
    wrote = rw none_complete (Appends-nil _);
    within = omega arith;
    turns_within = omega arith;
    reader_quiet = refl;
    writer_quiet = refl;
    flushed = λ h. h;
    reads = omega arith;
  },
  search rules,
  c.in_ok-outbox.ensures,
)
