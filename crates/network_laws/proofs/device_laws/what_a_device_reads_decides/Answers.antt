use Rattle.image_parts.proofs.QuestionLemmas.{two_images}
use Rattle.co_device.specs.Device.{after_power}
use Rattle.co_device.specs.Receiving.{after_frame}
use Rattle.network_laws.proofs.device_laws.what_a_device_reads_decides.Goals as goal

pub returns-clause-frame : goal.returns-clause-frame
returns-clause-frame c first second t frame d = two_images (after_frame t frame d) first second

pub returns-clause-power : goal.returns-clause-power
returns-clause-power c first second t on d = two_images (after_power on t d) first second
