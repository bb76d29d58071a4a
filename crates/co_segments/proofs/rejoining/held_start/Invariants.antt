use Rattle.std.proofs.Common.{drop}
use Rattle.image_parts.specs.Contents.{Image}
use Rattle.co_segments.specs.Placed.{kept_of}
use Rattle.co_segments.specs.Segments.{IsStale}
use Rattle.co_segments.specs.Placed.{entries_of_number}
use Rattle.co_segments.proofs.rejoining.held_start.Given as goal

-- none so far starts from the bus
abbrev pub invariant-loop-place : goal.invariant-loop-place
invariant-loop-place l = (image : Image)
    → IsStale image (kept_of (drop l.place (entries_of_number l.number l.recent.entries))) l.number l.bus
    → IsStale image (kept_of l.recent.entries) l.number l.bus
