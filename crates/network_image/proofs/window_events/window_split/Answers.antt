use Rattle.std.proofs.Common.{◌∙◌, ◌≤◌, length, sym, subst}
use Rattle.std.proofs.lemmas.List.Sums.{prefix_len-le-length}
use Rattle.network_image.proofs.MomentLemmas.{its_events, later_events}
use Rattle.network_image.proofs.window_events.window_split.Goals as goal

pub split_at-requires : goal.split_at-requires
split_at-requires c = subst (λ n. n ≤ length c.args.moments.now) (sym c.count_before.ensures)
    (prefix_len-le-length _ c.args.moments.now)

pub returns-clause-window : goal.returns-clause-window
returns-clause-window c =
    c.split_at.ensures.front ∙ its_events c.args.script.now c.args.i c.requires.number c.args.moments.now
    c.count_before.result c.requires.moments c.count_before.ensures

pub returns-clause-after : goal.returns-clause-after
returns-clause-after c =
    c.split_at.ensures.back ∙ later_events c.args.script.now c.args.i c.requires.number c.args.moments.now
    c.count_before.result c.requires.moments c.count_before.ensures
