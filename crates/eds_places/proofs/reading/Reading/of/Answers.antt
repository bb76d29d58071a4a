use Rattle.std.proofs.lemmas.Result.{err_from_is_err_and}
use Rattle.eds_places.proofs.AddingLemmas.{places_refused, places_given_back}
use Rattle.eds_places.proofs.reading.Reading.of.Goals as goal

pub returns-in_err-places : goal.returns-in_err-places
returns-in_err-places c =
    let p = err_from_is_err_and c.from_residual.result c.from_residual.ensures.1 in
    rw (p.1, p.2) (places_refused _ _ _ (rw c.sections.ensures at c.in_err-places.ensures))

pub returns : goal.returns
returns c =
    (places_given_back _ _ c.args.ini (rw c.sections.ensures at c.in_ok-places.ensures)).0
