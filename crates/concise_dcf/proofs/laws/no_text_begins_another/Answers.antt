use Rattle.concise_dcf.proofs.Entries.{no_front}
use Rattle.concise_dcf.proofs.laws.no_text_begins_another.Goals as goal

pub returns : goal.returns
returns c = no_front
