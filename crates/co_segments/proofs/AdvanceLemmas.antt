-- A trace goes on.
use Rattle.std.proofs.Common.{◌≡◌, ℕ, ◌+◌, ◌≤◌, IfOk, IsErr, List, Result, subst, ◌∙◌, arith}
use Rattle.std.proofs.lemmas.Result.{IfOk-from_err, on_ok_weaker}
use Rattle.image_parts.specs.declared.asked.Asked.{Ghosts as Asked}
use Rattle.can_bus.specs.Bus.{Bus}
use Rattle.kept_values.specs.Work.{Rises}
use Rattle.image_parts.specs.Contents.{Content, Image}
use Rattle.image_parts.specs.declared.part.Part.{Part}
use Rattle.co_segments.specs.declared.reached.Reached.{Reached}
use Rattle.co_segments.specs.Progress.{Goes, Progress, state_of}
use Rattle.co_segments.specs.Segments.{Advances, Segment, TraceState, recorded_of}
use Rattle.co_segments.specs.Stocks.{AreSegments, StandsAt, held_in}

-- memory ran out
pub goes_wrong : {P E : Type 0} {asked : Asked P Part Content} {number : ℕ} {here : Bus} {looked_at : List Segment}
    {old new : Progress P} {result : Result Reached E} → IsErr result → AreSegments new.stock
    → new.stock.recent.capacity ≡ old.stock.recent.capacity
    → (asked.seen new.parts).image ≡ (asked.seen old.parts).image → Rises old.work new.work
    → Goes asked number here looked_at old new result
goes_wrong {asked = asked} {number = number} {here = here} {looked_at = looked_at} {old = old} {new = new}
    {result = result} e segments capacity kept rises =
    let image = (asked.seen old.parts).image in
    record {
      read = 0;
      advances = IfOk-from_err result (λ end. Advances image old.stock.recent.capacity number (state_of here old 0)
          (state_of end.state.bus new 0)) e;
      stands = IfOk-from_err result (λ end. StandsAt image (number + 1) new.stock new.telling.look end) e;
      counted = IfOk-from_err result (λ _. asked.asks new.parts ≤ asked.asks old.parts + recorded_of number looked_at + 0) e;
      segments = segments;
      capacity = capacity;
      kept = kept;
      rises = rises;
    }

-- the same from an earlier point, before some segments were looked at
pub goes_from : {P E : Type 0} {asked : Asked P Part Content} {number : ℕ} {here : Bus} {some looked_at : List Segment}
    {old between new : Progress P} {result : Result Reached E} → Goes asked number here some between new result
    → held_in between.stock ≡ held_in old.stock → between.stock.recent.capacity ≡ old.stock.recent.capacity
    → between.telling.told ≡ old.telling.told → between.work ≡ old.work
    → (asked.seen between.parts).image ≡ (asked.seen old.parts).image
    → asked.asks between.parts + recorded_of number some ≤ asked.asks old.parts + recorded_of number looked_at
    → Goes asked number here looked_at old new result
goes_from {asked = asked} {number = number} {here = here} {some = some} {looked_at = looked_at} {old = old}
    {between = between} {new = new} {result = result} h held capacity told work image counted =
    let state : state_of here between 0 ≡ state_of here old 0 =
    λ i. record { bus = here; held = held i; told = told i; work = work i; read = 0 } in
    let asks : asked.asks new.parts ≤ asked.asks between.parts + recorded_of number some + h.read
    → asked.asks new.parts ≤ asked.asks old.parts + recorded_of number looked_at + h.read =
    λ a. omega (arith, a, counted) in
    record {
      read = h.read;
      advances = subst (λ (u : Image × ℕ × TraceState).
          IfOk result (λ end. Advances u.0 u.1 number u.2 (state_of end.state.bus new h.read)))
          (λ i. (image i, capacity i, state i)) h.advances;
      stands = subst (λ (i : Image). IfOk result (λ end. StandsAt i (number + 1) new.stock new.telling.look end)) image
          h.stands;
      counted = on_ok_weaker result asks h.counted;
      segments = h.segments;
      capacity = h.capacity ∙ capacity;
      kept = h.kept ∙ image;
      rises = rw (← work) h.rises;
    }
