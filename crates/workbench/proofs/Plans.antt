-- The DCF of a node of a sound project.
use Rattle.std.proofs.Common.{◌≡◌, ℕ, Option, Some, option_map, ap}
use Rattle.ini_text.specs.Change.{text_of}
use Rattle.eds_dcf.specs.Dcf.{dcf_sections}
use Rattle.project_plan.specs.Network.{Member, writes_of}
use Rattle.co_project.specs.Project.{Content}
use Rattle.project_plan.specs.Files.{dcf_text}
use Rattle.project_plan.specs.Nodes.{IsSoundNode}
use Rattle.workbench.specs.Queries.{dcf_of}

-- it is the text of which the laws of files speak
pub is_its_text : (p : Content) (id : ℕ) (m : Member) → IsSoundNode p id m → dcf_of p id ≡ Some (dcf_text p id m)
unfolding dcf_of dcf_text
is_its_text p id m is =
    ap (λ (o : Option Member). option_map (λ (m : Member). text_of
    (dcf_sections m.sheet id m.node.name p.bitrate (writes_of p m id))) o) is.there
