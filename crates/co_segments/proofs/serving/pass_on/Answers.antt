use Rattle.std.proofs.Common.{ap, refl, arith}
use Rattle.kept_values.specs.LastUsed.{LastUsed}
use Rattle.co_segments.specs.declared.stock.Stock.{Stock}
use Rattle.co_segments.specs.Placed.{Placed, kept_of}
use Rattle.co_segments.specs.Progress.{progress}
use Rattle.co_segments.proofs.AdvanceLemmas.{goes_from, goes_wrong}
use Rattle.co_segments.proofs.StockLemmas.{segments_fewer, segments_from_told, stands_settled}
use Rattle.co_segments.proofs.serving.pass_on.Goals as goal

pub returns-in_err-give_up_ahead : goal.returns-in_err-give_up_ahead
returns-in_err-give_up_ahead g c =
    let image = (g.P.Asked.seen c.args.parts.now).image in
    let before : Stock = c.args.stock.now in
    let after : Stock = record before { recent = c.give_up_ahead.new.self } in
    let segments = segments_fewer before after c.give_up_ahead.ensures.fewer refl
    (segments_from_told image before c.args.telling.now.look c.args.here.state c.requires.stands.told) in
    let new = progress after c.args.telling.now c.args.meter.now c.args.parts.now in
    goes_wrong {new = new} c.from_residual.ensures.0 segments c.give_up_ahead.ensures.capacity refl (omega arith, omega arith)

pub search-requires-clause-passed : goal.search-requires-clause-passed
search-requires-clause-passed g c = rw c.in_ok-give_up_ahead.ensures.ok c.requires.passed

pub search-requires-clause-stands : goal.search-requires-clause-stands
search-requires-clause-stands g c =
    let image = (g.P.Asked.seen c.args.parts.now).image in
    let before : Stock = c.args.stock.now in
    let after : Stock = record before { recent = c.give_up_ahead.new.self } in
    stands_settled image before after c.args.number c.args.telling.now.look c.args.here c.requires.stands
    c.in_ok-give_up_ahead.ensures.ok refl

pub returns-in_err-end : goal.returns-in_err-end
returns-in_err-end g c =
    let e = c.in_err-end.ensures in
    let after = c.search.new in
    let new = progress after.stock after.telling after.meter after.parts in
    goes_wrong {new = new} c.from_residual-in_err-end.ensures.0 e.segments
    (omega (arith, e.capacity, c.give_up_ahead.ensures.capacity)) e.kept e.rises

pub returns : goal.returns
returns g c =
    let ok = c.in_ok-give_up_ahead.ensures.ok in
    let settled : Stock = record c.args.stock.now { recent = c.give_up_ahead.new.self } in
    let between = progress settled c.args.telling.now c.args.meter.now c.args.parts.now in
    let after = c.search.new in
    let new = progress after.stock after.telling after.meter after.parts in
    goes_from {between = between} {new = new} c.in_ok-end.ensures (ap (λ (x : LastUsed Placed). kept_of x.entries) ok)
    (ap (λ (x : LastUsed Placed). x.capacity) ok) refl refl refl (rw ok (omega arith))
