-- Whole spans give the trace.
use Rattle.std.proofs.Common.{◌≡◌, ℕ, suc, ◌+◌, ◌*◌, ◌/◌, ◌-◌, ◌≤◌, List, [], filter, ap, ◌∙◌, arith}
use Rattle.image_parts.specs.Asking.{outcome, turns}
use Rattle.image_parts.specs.Contents.{Image}
use Rattle.can_bus.specs.Bus.{Bus, blank_bus}
use Rattle.can_bus.specs.Runs.{is_shown, trace}
use Rattle.can_bus.specs.declared.line.Line.{Line}
use Rattle.can_bus.proofs.ToldLemmas.{trace_of_run}
use Rattle.can_bus.specs.Spans.{span}
use Rattle.can_bus.proofs.SpanLemmas.{spans_are_the_run}
use Rattle.trace_spans.specs.Spans.{lines_of_spans}

-- whole spans up to that of the horizon show the trace
pub spans_show_trace : (image : Image) (horizon count : ℕ) → count ≡ horizon / 10000 + 1
    → filter (is_shown horizon) (lines_of_spans image count) ≡ trace image horizon
spans_show_trace image horizon count h =
    let is : count ≡ suc (horizon / 10000) = omega (arith, h) in
    ap (λ n. filter (is_shown horizon) (lines_of_spans image n)) is
    ∙ ap (λ (r : Bus × List Line). filter (is_shown horizon) r.1)
    (spans_are_the_run image (horizon / 10000) blank_bus).outcomes
    ∙ trace_of_run image horizon (10000 * suc (horizon / 10000)) (omega arith)

-- no span is left
pub none_left : (image : Image) (number count : ℕ) (s : Bus) → count ≤ number
    → outcome (turns span (count - number) number s) image ≡ (s, [])
unfolding turns
none_left image number count s h =
    let none : count - number ≡ 0 = omega arith in
    ap (λ n. outcome (turns span n number s) image) none
