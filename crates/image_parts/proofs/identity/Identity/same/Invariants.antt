use Rattle.std.proofs.Common.{◌≡◌, take}
use Rattle.image_parts.proofs.identity.Identity.same.Given as goal

-- what came so far is the same
abbrev pub invariant-loop-place : goal.invariant-loop-place
invariant-loop-place l = take l.place l.self.numbers ≡ take l.place l.other.numbers
