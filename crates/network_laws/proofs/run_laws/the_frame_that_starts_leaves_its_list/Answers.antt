use Rattle.network_laws.proofs.FrameStartLemmas.{a_frame_leaves, all_else_stays}
use Rattle.network_laws.proofs.run_laws.the_frame_that_starts_leaves_its_list.Goals as goal

pub returns-clause-leaves : goal.returns-clause-leaves
returns-clause-leaves c = a_frame_leaves

pub returns-clause-stays : goal.returns-clause-stays
returns-clause-stays c = all_else_stays
