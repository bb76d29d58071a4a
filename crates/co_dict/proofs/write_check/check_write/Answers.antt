use Rattle.std.proofs.Common.{rules}
use Rattle.co_dict.proofs.CheckLemmas.{write_check_in_turn}
use Rattle.co_dict.proofs.write_check.check_write.Goals as goal

pub returns-in_err-entry-clause-answer : goal.returns-in_err-entry-clause-answer
returns-in_err-entry-clause-answer c = rw (write_check_in_turn, c.in_err-entry.ensures.refused) (search rules)
