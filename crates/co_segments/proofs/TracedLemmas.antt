-- A trace, window by window.
use Rattle.std.proofs.Common.{◌≡◌, ℕ, ◌+◌, ◌++◌, List, length, sym, ap, ◌∙◌, add-one, arith}
use Rattle.image_parts.specs.Asking.{outcome, reads}
use Rattle.image_parts.specs.Contents.{Image}
use Rattle.can_bus.specs.Bus.{Bus}
use Rattle.can_bus.specs.declared.line.Line.{Line}
use Rattle.can_bus.specs.Spans.{span}
use Rattle.co_segments.specs.Segments.{Advances, Runs, TraceState, Traced, Uses, behind, with_run}

-- a window gives what its span gives
pub advances_gives : (image : Image) (capacity number : ℕ) (s next : TraceState) → Advances image capacity number s next
    → (next.bus ≡ (outcome (span number s.bus) image).0)
    × (next.told ≡ s.told ++ (outcome (span number s.bus) image).1)
advances_gives image capacity number s next (Uses kept before after held serves gives is) = (
  ap (λ (x : TraceState). x.bus) is ∙ sym (ap (λ (r : Bus × List Line). r.0) gives),
  ap (λ (x : TraceState). x.told) is ∙ ap (λ (r : Bus × List Line). s.told ++ r.1) (sym gives),
)
advances_gives image capacity number s next (Runs kept stale run is) = (
  ap (λ (x : TraceState). x.bus) is ∙ sym (ap (λ (r : Bus × List Line). r.0) run.gives),
  ap (λ (x : TraceState). x.told) is ∙ ap (λ (r : Bus × List Line). s.told ++ r.1) (sym run.gives),
)

-- the same window where values were read before
read_before : (image : Image) (capacity number : ℕ) (s next : TraceState)
    → Advances image capacity number (record s { read = 0 }) next
    → Advances image capacity number s (record next { read = s.read + next.read })
read_before image capacity number s next (Uses kept before after held serves gives is) =
    let none : s.read + 0 ≡ s.read = omega arith in
    Uses kept before after held serves gives
    (ap (λ (x : TraceState). record x { read = s.read + x.read }) is
    ∙ (λ i. record (behind capacity kept (before ++ after) s) { read = none i }))
read_before image capacity number s next (Runs kept stale run is) =
    let values = length (reads (span number s.bus) image) in
    let all : s.read + (0 + values) ≡ s.read + values = omega arith in
    Runs kept stale run
    (ap (λ (x : TraceState). record x { read = s.read + x.read }) is
    ∙ (λ i. record (with_run values (behind capacity kept s.held s)) { read = all i }))

-- one more window of a trace
pub traced_more : (image : Image) (capacity : ℕ) (start : TraceState) (number : ℕ) (s next : TraceState)
    → Traced image capacity start number s → Advances image capacity number (record s { read = 0 }) next
    → Traced image capacity start (number + 1) (record next { read = s.read + next.read })
traced_more image capacity start number s next earlier advances =
    rw add-one (s, (earlier, read_before image capacity number s next advances))
