use Rattle.std.proofs.Common.{◌≡◌, ◌++◌, length, arith, sym, ap, ◌∙◌, append_assoc}
use Rattle.trace_spans.proofs.KnownLemmas.{marked_in_turn, none_marked}
use Rattle.trace_spans.proofs.OnceLemmas.{agrees_middle, agrees_on, all_came, none_once}
use Rattle.trace_spans.specs.Reads.{plain}
use Rattle.trace_spans.proofs.recording.recorded.Goals as goal

pub add-requires-clause-consistent : goal.add-requires-clause-consistent
add-requires-clause-consistent c =
    let old = c.loop-read.invariant in
    let r = c.requires in
    let whole = ap (λ ys. c.loop-read.yielded ++ ys) (sym c.in-Some.ensures.steps.0) ∙ old.left in
    let both = agrees_middle r.0 c.loop-read.yielded c.in-Some.read c.next.new.self.rest.items c.args.all.items whole r.1.1.1 in
    let k = old.known r.0 r.1.0 r.1.1.0 r.1.1.1 in
    (r.0, (k.0.meaning, (k.0.known, ((old.same r.0).1 both.0, both.1))))

pub loop-read-init : goal.loop-read-init
loop-read-init c =
    let none = c.new-kept.ensures.items in
    record {
      once = rw none none_once;
      same = λ image. rw none (λ h. h, λ h. h);
      left = c.into_iter-read-iterator.ensures.into_iter_gives.0;
      known = λ image contents h a.
          none_marked image contents c.args.given.now c.args.now.now c.new-kept.result.items none h;
      more = omega arith;
    }

pub loop-read-preserved : goal.loop-read-preserved
loop-read-preserved c =
    let old = c.loop-read.invariant in
    let whole = ap (λ ys. c.loop-read.yielded ++ ys) (sym c.in-Some.ensures.steps.0) ∙ old.left in
    record {
      once = c.in_ok-add.ensures.once;
      same = λ image. agrees_on image (plain c.loop-read.kept.items) c.loop-read.yielded c.in-Some.read (old.same image)
          (plain c.add.new.kept.items) (c.in_ok-add.ensures.same image);
      left = append_assoc c.loop-read.yielded _ c.next.new.self.rest.items
          ∙ ap (λ ys. c.loop-read.yielded ++ ys) (sym c.in-Some.ensures.steps.0) ∙ old.left;
      known = λ image contents h a.
          let k = old.known image contents h a in
          let both = agrees_middle image c.loop-read.yielded c.in-Some.read c.next.new.self.rest.items c.args.all.items
          whole a in
          let n = c.in_ok-add.ensures.known image k.0.meaning k.0.known both.1 k.1 in
          marked_in_turn image contents c.args.given.now c.loop-read.given c.add.new.given c.loop-read.now c.add.new.now
          c.add.new.kept.items k.0 n.0 n.1;
      more = omega (arith, old.more, c.in_ok-add.ensures.more);
    }

pub returns-clause-recorded : goal.returns-clause-recorded
returns-clause-recorded c =
    let old = c.loop-read.invariant in
    let none : length c.loop-read.read-iterator.rest.items ≡ 0 = omega (arith, c.in-None.ensures.steps.0) in
    let all = all_came c.loop-read.yielded c.loop-read.read-iterator.rest.items c.args.all.items none old.left in
    record { once = old.once; same = λ image. rw (← all) (old.same image) }
