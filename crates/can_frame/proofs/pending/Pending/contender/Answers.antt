use Rattle.std.proofs.Common.{◌<◌, length, ap, sym, ◌∙◌}
use Rattle.can_frame.specs.declared.waiting.Waiting.{Waiting}
use Rattle.can_frame.proofs.LeastLemmas.{identifier_at}
use Rattle.can_frame.proofs.WinnerLemmas.{first_wins}
use Rattle.can_frame.proofs.pending.Pending.contender.Goals as goal

pub returns : goal.returns
returns c =
    let frames = c.self.inside.frames.items in
    let place = c.self.inside.least in
    let waiting = c.in_ok-waiting.waiting.now in
    let there = c.in_ok-waiting.ensures.lookup in
    let within : place < length frames = rw c.deref.ensures.value at there.3.0 in
    let is = rw c.deref.ensures.value at there.1 in
    rw (← c.self.view_is)
    (first_wins c.args.sender frames place c.id.result c.self.invariant within (c.id.ensures.id
    ∙ ap (λ (w : Waiting). w.frame.id) is ∙ sym (identifier_at frames place waiting within)))
