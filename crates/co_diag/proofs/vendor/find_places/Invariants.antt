use Rattle.std.proofs.Common.{◌≡◌, ◌++◌, ℕ, map, take}
use Rattle.diag_lines.specs.declared.code.Code.TheVariants.{BesideLimits}
use Rattle.diag_lines.specs.declared.subject.Subject.TheVariants as of
use Rattle.diag_nodes.specs.Found.{diagnostic}
use Rattle.co_diag.proofs.vendor.find_places.Given as goal

abbrev pub invariant-loop-place : goal.invariant-loop-place
invariant-loop-place l = l.found.items ≡ l.fn.found.items
    ++ map (λ (place : ℕ × ℕ). diagnostic BesideLimits (of.Limit l.node place.0 place.1)) (take l.place-index l.places)
