use Rattle.network_laws.proofs.FileLemmas.{last_marks, none_marks}
use Rattle.network_laws.proofs.files_and_devices.the_last_write_marks_its_entry_or_takes_the_mark_away.Goals as goal

pub returns-clause-last : goal.returns-clause-last
returns-clause-last c = λ marks before later w node place e f h. last_marks node place marks before later w e f h

pub returns-clause-others : goal.returns-clause-others
returns-clause-others c = λ marks writes node place h. none_marks node place marks writes h
