use Rattle.device_agenda.proofs.StirLemmas.{awaits_none}
use Rattle.device_agenda.proofs.stirring.awaits_sync.Goals as goal

pub returns : goal.returns
returns c = λ e.
    let kept = rw c.rpdos.ensures at c.any_keeps.ensures in
    let goes = rw c.tpdos.ensures at c.any_goes_by_sync.ensures in
    awaits_none c.args.device.now (rw (kept, goes) at e)
