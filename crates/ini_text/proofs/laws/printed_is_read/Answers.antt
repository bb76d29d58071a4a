use Rattle.ini_text.proofs.PrintLemmas.{sections_again}
use Rattle.ini_text.proofs.ReadLemmas.{again_is_printable}
use Rattle.ini_text.proofs.laws.printed_is_read.Goals as goal

pub returns : goal.returns
returns c = λ sections. (again_is_printable sections, sections_again sections)
