-- The image that the parts of nodes and windows are.
use Rattle.std.proofs.Common.{◌≡◌, ℕ, Option, Some, None, option_map, option_and_then, refl, ap, ◌∙◌, slice_get}
use Rattle.std.specs.FinMap.{get}
use Rattle.project_plan.specs.Network.{member_at}
use Rattle.co_project.specs.Project.{Content as Project}
use Rattle.image_parts.specs.Contents.{BootIs, DefaultsAre, EventsAre, ExpectIs, RosterIs, ShapeIs}
use Rattle.image_parts.specs.declared.part.Part.{Part}
use Rattle.image_parts.specs.declared.part.Part.TheVariants as part
use Rattle.image_parts.specs.declared.roster.Roster.{Roster}
use Rattle.network_image.specs.Held.{held_of, AllHeld, PartsOfNode, Windows}
use Rattle.project_plan.specs.Events.{shape_of_node}
use Rattle.network_image.specs.Image.{defaults_of_node, identity_of_node, image_of, roster_of_project}
use Rattle.network_image.specs.Image.{window_steps, write_of_node}
use Rattle.network_image.specs.Steps.{unless_none}
use Rattle.network_image.specs.Network.{image_held, Network}

mapped_twice : {A B C : Type 0} (f : A → B) (g : B → C) (o : Option A)
    → option_map g (option_map f o) ≡ option_map (λ a. g (f a)) o
mapped_twice f g None = refl
mapped_twice f g (Some a) = refl

mapped_then : {A B C : Type 0} (f : A → B) (g : B → Option C) (o : Option A)
    → option_and_then g (option_map f o) ≡ option_and_then (λ a. g (f a)) o
mapped_then f g None = refl
mapped_then f g (Some a) = refl

-- where each part is that of the project, the image is
pub same_image : (p : Project) (roster : Roster) (held : AllHeld) (windows : Windows) → roster ≡ roster_of_project p
    → ((id : ℕ) → get held id ≡ option_map (held_of p id) (member_at p id))
    → ((i : ℕ) → get windows i ≡ unless_none (window_steps p i))
    → image_held (record { roster = roster; nodes = held; windows = windows }) ≡ image_of p
unfolding defaults_of_node shape_of_node identity_of_node write_of_node
same_image p roster held windows is all timed = λ i name. by name i
  where
    network : Network
    network = record { roster = roster; nodes = held; windows = windows }

    by : (name : Part) → image_held network name ≡ image_of p name
    by part.Roster = ap (λ (r : Roster). RosterIs (Some r)) is
    by (part.Defaults id) =
        ap (λ (o : Option PartsOfNode). DefaultsAre (option_map (λ (h : PartsOfNode). h.defaults) o)) (all id)
        ∙ ap DefaultsAre (mapped_twice (held_of p id) (λ (h : PartsOfNode). h.defaults) (member_at p id))
    by (part.Shape id) =
        ap (λ (o : Option PartsOfNode). ShapeIs (option_map (λ (h : PartsOfNode). h.shape) o)) (all id)
        ∙ ap ShapeIs (mapped_twice (held_of p id) (λ (h : PartsOfNode). h.shape) (member_at p id))
    by (part.Expect id) =
        ap (λ (o : Option PartsOfNode). ExpectIs (option_map (λ (h : PartsOfNode). h.expect) o)) (all id)
        ∙ ap ExpectIs (mapped_twice (held_of p id) (λ (h : PartsOfNode). h.expect) (member_at p id))
    by (part.Boot id place) =
        ap (λ (o : Option PartsOfNode). BootIs (option_and_then (λ (h : PartsOfNode). slice_get h.writes place) o)) (all id)
        ∙ ap BootIs (mapped_then (held_of p id) (λ (h : PartsOfNode). slice_get h.writes place) (member_at p id))
    by (part.Events window) = ap EventsAre (timed window)
