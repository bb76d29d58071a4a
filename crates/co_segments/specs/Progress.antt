-- How far a trace has come, as the functions see it that go on with it.
use Rattle.std.specs.Prelude.{◌≡◌, ℕ, ◌+◌, ◌≤◌, IfOk, List, OnOk, Result, ◌++◌}
use Rattle.image_parts.specs.declared.asked.Asked.{Ghosts as Asked}
use Rattle.can_bus.specs.Bus.{Bus}
use Rattle.can_bus.specs.declared.line.Line.{Line}
use Rattle.kept_values.specs.Work.{Rises, Work}
use Rattle.image_parts.specs.Contents.{Content, Image}
use Rattle.image_parts.specs.Images.{IsImage}
use Rattle.image_parts.specs.declared.part.Part.{Part}
use Rattle.trace_spans.specs.Spans.{IsReady}
use Rattle.co_segments.specs.declared.reached.Reached.{Reached}
use Rattle.co_segments.specs.declared.stock.Stock.{Stock}
use Rattle.co_segments.specs.declared.telling.Telling.{Telling}
use Rattle.co_segments.specs.Placed.{Numbered, Placed}
use Rattle.co_segments.specs.Segments.{Advances, Segment, TraceState, recorded_of}
use Rattle.co_segments.specs.Stocks.{AreSegments, StandsAt, held_in}

-- what the store holds, what the trace knows and told, what was counted, and what hands the parts out
pub record Progress (P : Type 0) : Type 0 where
  pub stock : Stock
  pub telling : Telling
  pub work : Work
  pub parts : P

abbrev pub progress : {P : Type 0} → Stock → Telling → Work → P → Progress P
progress stock telling work parts = record { stock = stock; telling = telling; work = work; parts = parts }

-- where the trace stands by that, once it has reached a bus, and its runs have read so many values
abbrev pub state_of : {P : Type 0} → Bus → Progress P → ℕ → TraceState
state_of here p read =
    record { bus = here; held = held_in p.stock; told = p.telling.told; work = p.work; read = read }

-- A TRACE GOES ON from the bus before the window of a number to the bus behind it, if memory lasts: of the held segments
-- some are looked at
pub record Goes {P E : Type 0} (asked : Asked P Part Content) (number : ℕ) (here : Bus) (looked_at : List Segment)
    (old new : Progress P) (result : Result Reached E) : Type 0 where
  pub read : ℕ
  pub advances : IfOk result (λ end. Advances (asked.seen old.parts).image old.stock.recent.capacity number
      (state_of here old 0) (state_of end.state.bus new read))
  pub stands : IfOk result (λ end. StandsAt (asked.seen old.parts).image (number + 1) new.stock new.telling.look end)
  -- parts are asked at most as often as a run reads and the segments that were looked at have reads
  pub counted : OnOk result (asked.asks new.parts ≤ asked.asks old.parts + recorded_of number looked_at + read)
  -- whatever came of it, each held segment is valid
  pub segments : AreSegments new.stock
  -- as many can be held as before
  pub capacity : new.stock.recent.capacity ≡ old.stock.recent.capacity
  -- the image is the same
  pub kept : (asked.seen new.parts).image ≡ (asked.seen old.parts).image
  -- and no count becomes less
  pub rises : Rises old.work new.work

-- the span of a number can be run from a bus on
pub record CanRun (image : Image) (number : ℕ) (here : Bus) : Type 0 where
  pub within : number ≤ 1000
  pub image_is : IsImage image
  pub ready : IsReady number here

-- a segment TELLS its lines, and the bus at its end is reached
pub record Tells (s : Placed) (told after : List Line) (end : Numbered) : Type 0 where
  pub end_is : end ≡ record { number = s.end; bus = s.kept.end }
  pub told_is : after ≡ told ++ s.kept.lines
