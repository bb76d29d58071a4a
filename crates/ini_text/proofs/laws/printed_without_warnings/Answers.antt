use Rattle.ini_text.proofs.PrintLemmas.{sections_again, no_warnings}
use Rattle.ini_text.proofs.ReadLemmas.{quietly_again}
use Rattle.ini_text.proofs.laws.printed_without_warnings.Goals as goal

pub returns : goal.returns
returns c = λ sections. (
  quietly_again sections,
  λ h i. record { sections = sections_again sections h.0 i; warnings = no_warnings sections h.0 h.1 i },
)
