use Rattle.pdo_plan.proofs.BitLemmas.{all_fit}
use Rattle.pdo_plan.proofs.laws.mappings_fit_frames.Goals as goal

pub returns : goal.returns
returns c = all_fit
