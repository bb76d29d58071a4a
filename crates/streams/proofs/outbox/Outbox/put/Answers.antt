use Rattle.std.proofs.lemmas.Result.{on_ok_weaker}
use Rattle.streams.proofs.Posted.{posts_directly, took_more}
use Rattle.streams.proofs.outbox.Outbox.put.Goals as goal

pub returns-in_err-send-clause-write : goal.returns-in_err-send-clause-write
returns-in_err-send-clause-write g c = λ e. (
  c.in_err-send.ensures.write.1,
  took_more _ _ _ c.args.text.now c.in_err-send.ensures.write.2,
)

pub returns-then-text-gt-ROOM-clause-ok : goal.returns-then-text-gt-ROOM-clause-ok
returns-then-text-gt-ROOM-clause-ok g c =
    on_ok_weaker c.write_all.result (posts_directly _ _ _ _ _ _ c.in_ok-send.ensures.ok c.in_ok-send.ensures.empty)
    c.write_all.ensures.ok
