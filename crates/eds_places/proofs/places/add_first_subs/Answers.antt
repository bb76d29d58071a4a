use Rattle.std.proofs.Common.{◌+◌, sym, ◌∙◌, arith}
use Rattle.std.proofs.lemmas.Result.{err_from_is_err_and}
use Rattle.eds_places.proofs.AddingLemmas.{still_refused, subs_longer, subs_more, not_refused}
use Rattle.eds_places.proofs.places.add_first_subs.Goals as goal

pub returns-in_err-add_place : goal.returns-in_err-add_place
returns-in_err-add_place c =
    let p = err_from_is_err_and c.from_residual.result c.from_residual.ensures.1 in
    let more = subs_more c.args.places.now.keys c.loop-sub.places.keys c.args.index c.loop-sub.sub
    c.loop-sub.invariant.0 in
    let longer = subs_longer c.args.places.now.keys c.args.index (c.loop-sub.sub + 1) c.args.count (omega arith) in
    rw (p.1, p.2) (still_refused _ _ _ (rw more at longer) c.in_err-add_place.ensures)

pub loop-sub-preserved : goal.loop-sub-preserved
loop-sub-preserved c =
    let got = not_refused _ _ c.in_ok-add_place.ensures in (
      got.0 ∙ sym (subs_more c.args.places.now.keys c.loop-sub.places.keys c.args.index c.loop-sub.sub
          c.loop-sub.invariant.0),
      got.1,
    )
