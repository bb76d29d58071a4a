use Rattle.std.proofs.Common.{ap, ◌∙◌, drop, min, ℕ, ◌+◌}
use Rattle.co_sdo.proofs.RestLemmas.{after_one}
use Rattle.co_sdo.proofs.rest.Rest.after_segment.Goals as goal

pub returns : goal.returns
returns c =
    ap (λ (sent : ℕ). drop sent c.self.inside.value)
    (c.after_segment-sent.ensures ∙ ap (min (c.self.inside.sent + 7)) c.len.ensures)
    ∙ after_one c.self.inside.value c.self.inside.sent ∙ ap (drop 7) c.self.view_is
