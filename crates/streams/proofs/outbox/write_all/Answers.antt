use Rattle.std.proofs.Common.{arith, refl, ◌∙◌, length-drop, ℕ}
use Rattle.std.proofs.KnownBytes.{Appends-kept}
use Rattle.streams.proofs.Known.{Appends-more, Took-take, took_some, took_none, slice-from}
use Rattle.streams.proofs.outbox.write_all.Goals as goal

pub returns-in-Err-clause-write : goal.returns-in-Err-clause-write
returns-in-Err-clause-write g c = (
  refl,
  rw c.loop-at.invariant.2 at c.in-Err.ensures.failed,
  Took-take _ _ c.args.text.now c.loop-at.at (Appends-kept _ _ _ _ c.loop-at.invariant.1 c.in-Err.ensures.bytes),
)

pub returns-then-taken-eq0-clause-write : goal.returns-then-taken-eq0-clause-write
returns-then-taken-eq0-clause-write g c = (
  refl,
  rw c.loop-at.invariant.2 at (took_none _ _ c.in-Ok.taken _ c.if-taken-eq0.true
      (rw (slice-from c.args.text.now c.loop-at.at)
      (omega (arith, c.loop-at-test.true, length-drop c.loop-at.at c.args.text.now))) c.in-Ok.ensures.failed),
  Took-take _ _ c.args.text.now _ (Appends-more _ _ _ c.args.text.now c.loop-at.at c.in-Ok.taken c.loop-at.invariant.1
      c.in-Ok.ensures.bytes),
)

pub loop-at-preserved : goal.loop-at-preserved
loop-at-preserved g c = (
  omega (arith, c.in-Ok.ensures.bound, length-drop {A = ℕ}),
  Appends-more _ _ _ c.args.text.now c.loop-at.at c.in-Ok.taken c.loop-at.invariant.1 c.in-Ok.ensures.bytes,
  took_some _ _ c.in-Ok.taken _ (omega arith) c.in-Ok.ensures.failed ∙ c.loop-at.invariant.2,
)
