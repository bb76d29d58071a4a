use Rattle.pdo_plan.proofs.MadeLemmas.{made_for}
use Rattle.pdo_plan.proofs.laws.plans_are_made_for_their_devices.Goals as goal

pub returns : goal.returns
returns c = λ controller nodes ms node sheet there. made_for controller nodes node sheet there ms
