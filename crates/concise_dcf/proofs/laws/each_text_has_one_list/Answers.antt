use Rattle.concise_dcf.proofs.Entries.{one_list}
use Rattle.concise_dcf.proofs.laws.each_text_has_one_list.Goals as goal

pub returns : goal.returns
returns c = one_list
