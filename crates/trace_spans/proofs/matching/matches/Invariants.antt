use Rattle.std.proofs.Common.{◌≡◌, ◌≤◌, ◌+◌, ◌<◌, ℕ, get_or}
use Rattle.image_parts.specs.Contents.{Content}
use Rattle.trace_spans.specs.Reads.{AreNumbered, AreMarked, LearnsMore, Recorded}
use Rattle.trace_spans.proofs.matching.matches.Given as goal

-- the image has all so far
abbrev pub invariant-loop-place : goal.invariant-loop-place
invariant-loop-place g l =
    let image = (g.P.Asked.seen l.fn.parts).image in
    record {
      so_far : (k : ℕ) (d : Recorded) → k < l.place → image (get_or l.reads k d).name ≡ (get_or l.reads k d).content;
      known : (contents : ℕ → Content) → AreNumbered image contents l.fn.given l.fn.now.reads
          → AreMarked contents l.fn.given l.reads → LearnsMore image contents l.fn.given l.given l.now.reads;
      more : l.fn.given ≤ l.given;
      counted : g.P.Asked.asks l.parts ≤ g.P.Asked.asks l.fn.parts + l.place;
      kept : (g.P.Asked.seen l.parts).image ≡ image;
    }
