use Rattle.std.proofs.Common.{◌≡◌, ◌↔◌, ◌&&◌, not, ℕ, filter}
use Rattle.std.specs.Map.{keys_of}
use Rattle.co_project.specs.Project.{is_controller}
use Rattle.co_project.specs.declared.node.Node.{Node}
use Rattle.network_image.specs.Image.{mandatory_of}
use Rattle.network_image.proofs.roster.are_mandatory.Given as goal

-- the numbers are all if those that are left are the numbers of the mandatory nodes that are left
abbrev pub invariant-loop-id : goal.invariant-loop-id
invariant-loop-id l =
    (l.rest ≡ keys_of (filter (λ (e : ℕ × Node). e.1.mandatory && not (is_controller l.project e.0)) l.id-iterator))
    ↔ (l.numbers ≡ mandatory_of l.project)
