use Rattle.dict_values.proofs.FingerprintLemmas.{one_changed}
use Rattle.dict_values.proofs.fingerprint.changed.Goals as goal

pub returns : goal.returns
returns c = λ values place bytes is taking adding.
    one_changed values place bytes c.args.fingerprint c.args.taken c.args.added c.ranges.taken.fits is taking adding
