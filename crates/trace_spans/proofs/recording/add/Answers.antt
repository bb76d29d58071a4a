use Rattle.std.proofs.Common.{◌≡◌, ◌<◌, length, get_or, arith, ap, ◌∙◌}
use Rattle.image_parts.specs.Contents.{Content}
use Rattle.image_parts.specs.declared.part.Part.{Part}
use Rattle.trace_spans.specs.Reads.{Recorded, plain, plain_read}
use Rattle.trace_spans.proofs.KnownLemmas.{all_marked_later, marked_push, still_marked}
use Rattle.trace_spans.proofs.OnceLemmas.{agrees_push, known_agrees, new_plain, once_push, plain_at, plain_length, plain_push}
use Rattle.trace_spans.proofs.recording.add.Goals as goal

pub returns-in-Some-clause-same : goal.returns-in-Some-clause-same
returns-in-Some-clause-same c =
    let found = rw (c.in-Some.is, c.deref.ensures.value) at c.place_of.ensures in
    let rs = c.args.kept.now.items in
    let k = c.in-Some._place in
    let r = c.requires.consistent in
    let within : k < length (plain rs) = omega (arith, found.0, plain_length rs) in
    let named : (d : Part × Content) → (get_or (plain rs) k d).0 ≡ c.args.read.0 = λ d.
    let e : Recorded = record { name = d.0; number = 0; content = d.1 } in
    ap (λ (x : Part × Content). x.0) (plain_at rs k e d found.0) ∙ found.1 e ∙ c.part.ensures in
    known_agrees (plain rs) c.args.read k within named r.0 r.1.1.1.0 r.1.1.1.1

pub returns-in-Some-clause-known : goal.returns-in-Some-clause-known
returns-in-Some-clause-known c image contents h is m =
    still_marked image contents c.args.given.now c.args.now.now c.args.kept.now.items h m

pub returns-in_ok-push-in-None-clause-once : goal.returns-in_ok-push-in-None-clause-once
returns-in_ok-push-in-None-clause-once c =
    let rs = c.args.kept.now.items in
    let marked = c.in_ok-marked-in-None.marked in
    let r = c.requires.consistent in
    let is : plain_read marked ≡ c.args.read = c.in_ok-marked-in-None.ensures.is r.0 r.1.0 r.1.1.0 r.1.1.1.1 in
    let new = rw (c.in-None.is, c.deref.ensures.value, c.part.ensures) at c.place_of.ensures in
    rw (c.in_ok-push-in-None.ensures.items, plain_push rs marked, is)
    (once_push (plain rs) c.args.read c.requires.once (new_plain c.args.read.0 rs new))

pub returns-in_ok-push-in-None-clause-same : goal.returns-in_ok-push-in-None-clause-same
returns-in_ok-push-in-None-clause-same c image =
    let rs = c.args.kept.now.items in
    let marked = c.in_ok-marked-in-None.marked in
    let r = c.requires.consistent in
    let is : plain_read marked ≡ c.args.read = c.in_ok-marked-in-None.ensures.is r.0 r.1.0 r.1.1.0 r.1.1.1.1 in
    rw (c.in_ok-push-in-None.ensures.items, plain_push rs marked, is) (agrees_push image (plain rs) c.args.read)

pub returns-in_ok-push-in-None-clause-known : goal.returns-in_ok-push-in-None-clause-known
returns-in_ok-push-in-None-clause-known c image contents h is m =
    let rs = c.args.kept.now.items in
    let given = c.args.given.now in
    let later = c.mark.new.given in
    let e = c.in_ok-marked-in-None.ensures.known image contents h is in
    let ms = all_marked_later contents e.0.meaning given later rs e.0.keeps e.0.more m in
    (e.0, rw c.in_ok-push-in-None.ensures.items (marked_push e.0.meaning later rs c.in_ok-marked-in-None.marked ms e.1))
