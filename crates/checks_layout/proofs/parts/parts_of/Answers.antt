use Rattle.std.proofs.Common.{◌∙◌, [], ap, sym, subst}
use Rattle.image_parts.specs.Asking.{Seen}
use Rattle.image_parts.specs.Contents.{Content, Image}
use Rattle.image_parts.specs.Images.{IsImage}
use Rattle.image_parts.specs.declared.part.Part.{Part}
use Rattle.network_image.proofs.CoherentLemmas.{is_image}
use Rattle.checks_layout.proofs.parts.parts_of.Goals as goal

-- an image of which nothing was handed out
untouched : Image → Seen Part Content
untouched image = record { image = image; asked = [] }

pub returns-clause-seen : goal.returns-clause-seen
unfolding untouched
returns-clause-seen c = c.of-parts.ensures.seen ∙ ap untouched c.in_ok-network.ensures

pub returns-clause-image : goal.returns-clause-image
returns-clause-image c =
    subst (λ (s : Seen Part Content). IsImage s.image) (sym (returns-clause-seen c))
    (is_image c.args.project.now c.keeps_to_rules.ensures)
