use Rattle.device_objects.specs.Profile.{sync_identifier}
use Rattle.device_agenda.proofs.GroupLemmas.{never}
use Rattle.device_agenda.proofs.StirLemmas.{sync_below}
use Rattle.device_agenda.proofs.stirring.with_sync.Goals as goal

pub with-requires : goal.with-requires
with-requires c = rw c.requires (sync_below c.args.device.now.learnt c.args.device.now.values)

pub returns-then-awaits_sync-clause-sync : goal.returns-then-awaits_sync-clause-sync
returns-then-awaits_sync-clause-sync c = λ out.
    let d = c.args.device.now in
    let sync = sync_identifier d.learnt d.values in
    absurd (never c.args.sync sync c.requires (c.with.ensures.with sync (sync_below d.learnt d.values) out))
