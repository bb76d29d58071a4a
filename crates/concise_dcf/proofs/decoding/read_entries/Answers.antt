use Rattle.std.proofs.lemmas.Result.{err_from_is_err_and}
use Rattle.concise_dcf.specs.Reading.{entries_at}
use Rattle.concise_dcf.proofs.Loop.{goes_on, ends, is_done}
use Rattle.concise_dcf.proofs.decoding.read_entries.Goals as goal

pub returns-in_err-write : goal.returns-in_err-write
returns-in_err-write c =
    let p = err_from_is_err_and c.from_residual.result c.from_residual.ensures.1 in
    rw (p.1, p.2)
    (ends c.in_err-write.field-0.0 c.loop.writes.items c.args.count c.loop.counter c.loop.rest.now
    (entries_at c.args.count c.args.bytes.now) c.loop-test.true c.in_err-write.ensures c.loop.invariant)

pub loop-preserved : goal.loop-preserved
loop-preserved c =
    rw c.in_ok-push.ensures.items (goes_on c.loop.writes.items c.args.count c.loop.counter c.loop.rest.now
    c.in_ok-write.write c.in_ok-write.after.now (entries_at c.args.count c.args.bytes.now) c.loop-test.true
    c.in_ok-write.ensures c.loop.invariant)

pub returns : goal.returns
returns c =
    is_done c.loop.writes.items c.args.count c.loop.counter c.loop.rest.now (entries_at c.args.count c.args.bytes.now)
    c.loop-test.false c.loop.invariant
