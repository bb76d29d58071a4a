use Rattle.std.proofs.Common.{◌≡◌, ◌≤◌, ◌+◌}
use Rattle.co_segments.specs.Segments.{recorded_of}
use Rattle.co_segments.specs.Stocks.{ArePassed, StandsAt, left_from}
use Rattle.co_segments.proofs.finding.find.Given as goal

-- none so far is of use
abbrev pub invariant-loop-place : goal.invariant-loop-place
invariant-loop-place g l =
    let image = (g.P.Asked.seen l.fn.parts).image in
    record {
      passed : ArePassed image l.number l.place l.fn.stock l.here.state.bus;
      stands : StandsAt image l.number l.stock l.look l.here;
      recent : l.stock.recent ≡ l.fn.stock.recent;
      counted : g.P.Asked.asks l.parts + recorded_of l.number (left_from l.number l.place l.fn.stock)
          ≤ g.P.Asked.asks l.fn.parts + recorded_of l.number (left_from l.number l.from l.fn.stock);
      kept : (g.P.Asked.seen l.parts).image ≡ image;
    }
