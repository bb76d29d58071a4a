use Rattle.std.proofs.Common.{◌≡◌, ◌++◌, ◌&&◌, not, filter, ℕ}
use Rattle.std.specs.Map.{keys_of}
use Rattle.co_project.specs.Project.{is_controller}
use Rattle.co_project.specs.declared.node.Node.{Node}
use Rattle.network_image.specs.Image.{mandatory_of}
use Rattle.network_image.proofs.roster.mandatory_numbers.Given as goal

-- the numbers so far, and those of the mandatory nodes that are left, are all
abbrev pub invariant-loop-id : goal.invariant-loop-id
invariant-loop-id l =
    l.numbers.items ++ keys_of (filter (λ (e : ℕ × Node). e.1.mandatory && not (is_controller l.project e.0)) l.id-iterator)
    ≡ mandatory_of l.project
