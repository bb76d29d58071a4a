use Rattle.std.proofs.Common.{rules, not}
use Rattle.std.proofs.lemmas.Fn.{filter_same}
use Rattle.can_frame.specs.WaitingFrames.{is_unwanted}
use Rattle.can_frame.proofs.walks.drop_unwanted.Goals as goal

pub returns : goal.returns
returns c = filter_same _ (λ w. not (is_unwanted c.args.unwanted w.purpose)) _ (λ x b f' k. search rules) _ _
    c.retain.ensures.filtered
