use Rattle.std.proofs.Common.{◌≡◌, ◌∙◌, ap, ◌/◌, ◌+◌, filter, ℕ}
use Rattle.can_bus.specs.Runs.{is_shown}
use Rattle.co_segments.proofs.WindowLemmas.{spans_show_trace}
use Rattle.co_segments.proofs.store.Store.trace_text.Goals as goal

-- as many windows
windows : {m n : ℕ} → m ≡ n → m / 10000 + 1 ≡ n / 10000 + 1
windows e = ap (λ (k : ℕ). k / 10000 + 1) e

pub returns-clause-lines : goal.returns-clause-lines
returns-clause-lines g c =
    let image = (g.P.Asked.seen c.args.parts.now).image in
    let count : c.from.result / 10000 + 1 ≡ c.args.horizon / 10000 + 1 = windows c.from.ensures in
    c.in_ok-keep_shown.ensures
    ∙ ap (filter (is_shown c.args.horizon)) c.in_ok-told.ensures.lines
    ∙ spans_show_trace image c.args.horizon (c.from.result / 10000 + 1) count

pub returns-clause-traced : goal.returns-clause-traced
returns-clause-traced g c =
    let t = c.in_ok-told.ensures.traced in
    let count : c.from.result / 10000 + 1 ≡ c.args.horizon / 10000 + 1 = windows c.from.ensures in
    rw (← c.self.view_is)
    (t.0, (rw count at t.1.0, t.1.1, t.1.3, rw c.take_asked-asked.ensures.asks t.1.4))
