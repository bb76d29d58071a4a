use Rattle.std.proofs.Common.{rules, ◌≡◌, ◌<◌, get_or, length, arith}
use Rattle.std.proofs.lemmas.Bool.Decides.{nat_tests}
use Rattle.std.proofs.lemmas.Result.{on_err_weaker}
use Rattle.can_frame.proofs.LeastLemmas.{least_stays}
use Rattle.can_frame.specs.WaitingFrames.{waiting}
use Rattle.can_frame.proofs.ReplacedLemmas.{none_of_purpose, replaced_last, replaced_there}
use Rattle.can_frame.proofs.pending.Pending.replace.Goals as goal

pub returns-then-id-was-clause-ok : goal.returns-then-id-was-clause-ok
returns-then-id-was-clause-ok c = replaced_there c.args.purpose c.args.frame c.deref.result.now c.self.inside.frames.items
    c.args.self.now c.in-Some.place c.deref.ensures.value c.self.view_is c.in-Some.ensures

pub returns-else-id-was-clause-ok : goal.returns-else-id-was-clause-ok
returns-else-id-was-clause-ok c = replaced_there c.args.purpose c.args.frame c.deref.result.now c.self.inside.frames.items
    c.args.self.now c.in-Some.place c.deref.ensures.value c.self.view_is c.in-Some.ensures

pub returns-in-None-clause-ok : goal.returns-in-None-clause-ok
returns-in-None-clause-ok c =
    let last = replaced_last c.args.purpose c.args.frame c.deref.result.now c.self.inside.frames.items c.args.self.now
    c.deref.ensures.value c.self.view_is c.in-None.ensures in
    rw (← last) c.add.ensures.ok

pub returns-in-None-clause-absent : goal.returns-in-None-clause-absent
returns-in-None-clause-absent c =
    let none = none_of_purpose c.args.purpose c.deref.result.now c.self.inside.frames.items c.args.self.now
    c.deref.ensures.value c.self.view_is c.in-None.ensures in
    on_err_weaker c.add.result (λ _. none) c.add.ensures.err

pub invariant_of-self-else-id-was : goal.invariant_of-self-else-id-was
invariant_of-self-else-id-was c =
    let frames = c.self.inside.frames.items in
    let place = c.in-Some.place in
    let was = c.index.result.now in
    let within : place < length frames = search rules in
    let is : was ≡ get_or frames place was = search rules in
    let same : c.args.frame.id ≡ was.frame.id = grind (arith, nat_tests, c.if-id-was.false, c.id-was.ensures.id, c.id.ensures.id) in
    least_stays frames place c.self.inside.least (waiting c.args.purpose c.args.frame) was within is same
    c.self.invariant
