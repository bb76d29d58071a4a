use Rattle.std.proofs.Common.{subst}
use Rattle.co_segments.specs.Segments.{IsValidOnce, Segment}
use Rattle.co_segments.proofs.PlacedLemmas.{in_kept}
use Rattle.co_segments.proofs.store.Store.held.Goals as goal

pub returns-clause-sound : goal.returns-clause-sound
returns-clause-sound c =
    rw (← c.self.view_is) (λ kept among.
    let e = in_kept c.self.inside.stock.recent.entries kept among in
    subst (λ (k : Segment). IsValidOnce k) e.1.1 (c.self.invariant.sound e.0 e.1.0))
