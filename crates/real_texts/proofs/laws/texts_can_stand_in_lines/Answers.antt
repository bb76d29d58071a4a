use Rattle.real_texts.proofs.Plain.{bytes_are, texts_are_short, finite_are_some}
use Rattle.real_texts.proofs.laws.texts_can_stand_in_lines.Goals as goal

pub returns-clause-bytes : goal.returns-clause-bytes
returns-clause-bytes c = bytes_are

pub returns-clause-short : goal.returns-clause-short
returns-clause-short c = texts_are_short

pub returns-clause-some : goal.returns-clause-some
returns-clause-some c = finite_are_some
