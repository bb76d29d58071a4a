use Rattle.std.proofs.Common.{refl}
use Rattle.image_parts.proofs.RecordLemmas.{itself}
use Rattle.co_depend.proofs.recording_parts.RecordingPartsParts.roster.Goals as goal

-- what was asked stays where there is no memory for one more
pub returns-in_err-push-clause-lasts : goal.returns-in_err-push-clause-lasts
returns-in_err-push-clause-lasts c = rw (← c.self.view_is) (record {
  kept = refl;
  begins = rw c.in_err-push.ensures.items (itself c.self.inside.asked.items);
})
