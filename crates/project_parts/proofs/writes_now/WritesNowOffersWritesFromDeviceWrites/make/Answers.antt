use Rattle.std.proofs.Common.{sym, ◌∙◌}
use Rattle.project_parts.specs.Written.{AreValuesOf}
use Rattle.project_parts.proofs.PlanLemmas.{either, made_so}
use Rattle.project_parts.proofs.PlanLemmas.{values_of}
use Rattle.project_parts.proofs.writes_now.WritesNowOffersWritesFromDeviceWrites.make.Goals as goal

pub new-requires-3 : goal.new-requires-3
unfolding AreValuesOf
new-requires-3 c =
    let now = c.args.self.now in
    values_of c.get-2.result.now c.in_ok-device.device c.in_ok-writes.writes.items c.in_ok-writes-2.writes
    (c.get-2.ensures ∙ sym c.in_ok-device.ensures) (sym (c.in_ok-writes-2.ensures ∙ c.new.ensures))
    (c.in_ok-writes.ensures.fits
    (either now.is_three (made_so now.is_three now.plan c.get.result.now now.device c.get-2.result.now now.node c.get.ensures c.get-2.ensures
    now.made_for)))
