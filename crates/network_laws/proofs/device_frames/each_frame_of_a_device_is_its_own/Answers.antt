use Rattle.network_laws.proofs.OwnLaws.{dark_owns, frame_owns, instant_owns, power_owns, sent_owns, set_owns}
use Rattle.network_laws.proofs.device_frames.each_frame_of_a_device_is_its_own.Goals as goal

pub returns-clause-dark : goal.returns-clause-dark
returns-clause-dark c = dark_owns

pub returns-clause-power : goal.returns-clause-power
returns-clause-power c = λ image t on d h. power_owns image t d on h

pub returns-clause-set : goal.returns-clause-set
returns-clause-set c = set_owns

pub returns-clause-frame : goal.returns-clause-frame
returns-clause-frame c = λ image t frame d h. frame_owns t image frame d h

pub returns-clause-instant : goal.returns-clause-instant
returns-clause-instant c = instant_owns

pub returns-clause-sent : goal.returns-clause-sent
returns-clause-sent c = sent_owns
