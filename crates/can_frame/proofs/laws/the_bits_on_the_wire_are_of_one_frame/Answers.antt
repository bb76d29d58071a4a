use Rattle.can_frame.proofs.FrameBitLemmas.{wire_is_of_one}
use Rattle.can_frame.proofs.laws.the_bits_on_the_wire_are_of_one_frame.Goals as goal

pub returns-clause-alone : goal.returns-clause-alone
returns-clause-alone c = wire_is_of_one
