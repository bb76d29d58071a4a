use Rattle.project_edits.proofs.EventLemmas.{event_written}
use Rattle.project_edits.proofs.event_lines.write_event.Goals as goal

pub returns-clause-written : goal.returns-clause-written
returns-clause-written c =
    event_written c.args.number c.args.event.now c.args.out.now.items _ _ _ c.in_ok-write_moment.ensures.written
    c.in_ok-write_words.ensures.written c.in_ok-push.ensures.items
