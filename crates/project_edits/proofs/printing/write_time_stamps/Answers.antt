use Rattle.project_edits.proofs.StampLemmas.{stamps_written}
use Rattle.project_edits.proofs.printing.write_time_stamps.Goals as goal

pub returns-clause-written : goal.returns-clause-written
returns-clause-written c =
    stamps_written c.args.stamps c.args.out.now.items _ _ _ c.in_ok-extend_from_slice.ensures.items
    c.in_ok-write_period_and_day.ensures.written c.in_ok-push.ensures.items
