-- Segments stay valid.
use Rattle.std.proofs.Common.{◌≡◌, ℕ, ◌∙◌}
use Rattle.image_parts.specs.Asking.{outcome}
use Rattle.image_parts.proofs.QuestionLemmas.{two_images}
use Rattle.image_parts.specs.Contents.{Image}
use Rattle.can_bus.specs.Bus.{Bus}
use Rattle.can_bus.specs.Spans.{span}
use Rattle.co_segments.specs.Segments.{IsRun, IsValid, IsValidOnce, Segment, Serves}

-- one that was run under an image
pub sound_from_run : (image : Image) (number : ℕ) (start : Bus) (kept : Segment) → IsRun image number start kept
    → IsValidOnce kept
unfolding IsValidOnce
sound_from_run image number start kept r = (
  λ other h. rw (r.number_is, r.start_is)
      ((two_images (span number start) image other ((r.recorded.same other).0 h)).outcomes ∙ r.gives),
  r.recorded.once,
)

pub valid_from_sound : (kept : Segment) → IsValidOnce kept → IsValid kept
unfolding IsValidOnce
valid_from_sound kept h = h.0

-- one that serves gives the span under the image
pub gives_from_serves : (image : Image) (number : ℕ) (start : Bus) (kept : Segment) → IsValid kept
    → Serves image number start kept → outcome (span number start) image ≡ (kept.end, kept.lines)
gives_from_serves image number start kept v s = rw (← s.0, ← s.1) (v image s.2)
