use Rattle.std.proofs.Common.{rules}
use Rattle.co_dict.proofs.CheckLemmas.{write_check_in_turn}
use Rattle.co_dict.proofs.write_check.check_write_of.Goals as goal

pub check_rest-requires-clause-granted : goal.check_rest-requires-clause-granted
check_rest-requires-clause-granted c =
    rw (← c.check_writable.ensures c.args.shape.now (c.args.index, c.args.sub) c.requires, c.in_ok-check_writable.was)
    (search rules)

pub returns-in_err-check_writable-clause-answer : goal.returns-in_err-check_writable-clause-answer
returns-in_err-check_writable-clause-answer c =
    rw (
      write_check_in_turn,
      ← c.check_writable.ensures c.args.shape.now (c.args.index, c.args.sub) c.requires,
      c.in_err-check_writable.was,
    ) (search rules)
