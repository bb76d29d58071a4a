use Rattle.std.proofs.Common.{◌≡◌, ◌≤◌, ◌++◌, ◌↔◌, ℕ}
use Rattle.image_parts.specs.Asking.{Agrees}
use Rattle.image_parts.specs.Contents.{Content, Image}
use Rattle.trace_spans.specs.Reads.{AreNumbered, AreMarked, LearnsMore, plain}
use Rattle.trace_spans.specs.Records.{IsOnce}
use Rattle.trace_spans.proofs.recording.recorded.Given as goal

-- what is kept stands for what came
abbrev pub invariant-loop-read : goal.invariant-loop-read
invariant-loop-read l =
    record {
      once : IsOnce (plain l.kept.items);
      same : (image : Image) → Agrees image (plain l.kept.items) ↔ Agrees image l.yielded;
      left : l.yielded ++ l.read-iterator.rest.items ≡ l.fn.all.items;
      known : (image : Image) (contents : ℕ → Content) → AreNumbered image contents l.fn.given l.fn.now
          → Agrees image l.fn.all.items
          → (e : LearnsMore image contents l.fn.given l.given l.now) × AreMarked e.meaning l.given l.kept.items;
      more : l.fn.given ≤ l.given;
    }
