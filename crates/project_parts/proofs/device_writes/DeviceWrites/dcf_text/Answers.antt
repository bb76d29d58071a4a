use Rattle.std.proofs.Common.{sym, ◌∙◌}
use Rattle.project_parts.specs.Written.{AreValuesOf}
use Rattle.project_parts.proofs.PlanLemmas.{values_of}
use Rattle.project_parts.proofs.device_writes.DeviceWrites.dcf_text.Goals as goal

pub dcf_text-requires : goal.dcf_text-requires
unfolding AreValuesOf
dcf_text-requires c =
    values_of c.self.inside.device c.get-2.result.now c.self.inside.writes c.as_slice-writes.result.now
    (sym c.get-2.ensures) (sym (c.as_slice-writes.ensures.writes ∙ c.get.ensures)) c.self.invariant
