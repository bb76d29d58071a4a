-- A frame of a node changes the boot of that node alone.
use Rattle.std.proofs.Common.{◌≡◌, ◌≢◌, ℕ, ◌+◌, true, List, Some, refl, ap, ◌∙◌, arith}
use Rattle.std.specs.Prelude.{◌==◌}
use Rattle.std.proofs.lemmas.Bool.Decides.{nat_tests}
use Rattle.std.proofs.lemmas.List.{get_or-set_other}
use Rattle.std.proofs.lemmas.List.Quantifiers.{position-Some}
use Rattle.image_parts.specs.Asking.{outcome}
use Rattle.can_frame.specs.Frames.{BaseFrame}
use Rattle.can_frame.specs.Identifiers.{error_control_id, sdo_answer_id}
use Rattle.image_parts.specs.Contents.{Image}
use Rattle.nmt_boot.proofs.FrameLemmas.{received_holds}
use Rattle.nmt_boot.specs.Manager.{Manager, after_frame}
use Rattle.manager_nodes.specs.Table.{is_from, no_node, node_at, place_of}
use Rattle.manager_nodes.specs.declared.booting.Booting.{Booting}

pub sum_is : (a b c : ℕ) → (a + b == c) ≡ true → a + b ≡ c
sum_is a b c e = grind (arith, nat_tests)

-- the node at the place has that identifier
found_is : (base id : ℕ) (nodes : List Booting) (i : ℕ) → place_of base id nodes ≡ Some i
    → base + (node_at nodes i).number ≡ id
unfolding place_of
found_is base id nodes i e =
    sum_is base (node_at nodes i).number id (position-Some (is_from base id) nodes i no_node e).1

another : (base id : ℕ) (nodes : List Booting) (i j : ℕ) → place_of base id nodes ≡ Some i
    → base + (node_at nodes j).number ≢ id → j ≢ i
another base id nodes i j e differ same =
    differ (ap (λ (k : ℕ). base + (node_at nodes k).number) same ∙ found_is base id nodes i e)

pub its_node_alone : (image : Image) (t : ℕ) (frame : BaseFrame) (m : Manager) (j : ℕ)
    → error_control_id (node_at m.nodes j).number ≢ frame.id → sdo_answer_id (node_at m.nodes j).number ≢ frame.id
    → node_at (outcome (after_frame t frame m) image).0.nodes j ≡ node_at m.nodes j
its_node_alone image t frame m j no_boot no_answer =
    received_holds image t frame m (λ r read. node_at r.0.nodes j ≡ node_at m.nodes j) refl
    (λ i e o. refl)
    (λ i e o. get_or-set_other m.nodes i j _ no_node (another (error_control_id 0) frame.id m.nodes i j e no_boot))
    (λ i e. get_or-set_other m.nodes i j _ no_node (another (sdo_answer_id 0) frame.id m.nodes i j e no_answer))
