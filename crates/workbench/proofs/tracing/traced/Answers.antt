use Rattle.std.proofs.Common.{ℕ, ◌∙◌, ◌+◌, ◌/◌, ap, arith, subst, sym}
use Rattle.pdo_choices.proofs.RangeLemmas.{between}
use Rattle.can_bus.specs.Runs.{trace}
use Rattle.image_parts.specs.Contents.{Image}
use Rattle.image_parts.specs.Images.{IsImage}
use Rattle.network_image.specs.Image.{image_of}
use Rattle.network_image.proofs.CoherentLemmas.{is_image}
use Rattle.co_segments.specs.Segments.{Traced, at_power_on}
use Rattle.workbench.specs.Queries.{trace_of}
use Rattle.workbench.proofs.tracing.traced.Goals as goal

pub trace_text-requires-clause-soon : goal.trace_text-requires-clause-soon
trace_text-requires-clause-soon c =
    let limit = between 0 10000000 c.args.project.now.horizon c.keeps_to_rules.ensures.horizon in
    omega (arith, limit.1, c.horizon-horizon.ensures)

pub trace_text-requires-clause-image : goal.trace_text-requires-clause-image
trace_text-requires-clause-image c =
    subst (λ s. IsImage s.image) (sym c.of-parts.ensures.seen)
    (subst IsImage (sym c.requires) (is_image c.args.project.now c.keeps_to_rules.ensures))

pub returns-clause-lines : goal.returns-clause-lines
unfolding trace_of
returns-clause-lines c =
    c.in_ok-told.ensures.lines
    ∙ ap (λ s. trace s.image c.horizon-horizon.result) c.of-parts.ensures.seen
    ∙ ap (λ i. trace i c.horizon-horizon.result) c.requires
    ∙ ap (trace (image_of c.args.project.now)) c.horizon-horizon.ensures

pub returns-clause-traced : goal.returns-clause-traced
returns-clause-traced c =
    let traced = c.in_ok-told.ensures.traced in
    let image = ap (λ s. s.image) c.of-parts.ensures.seen ∙ c.requires in
    let start = at_power_on c.args.store.now.segments c.args.meter.now in
    let told = subst (λ (u : Image × ℕ). Traced u.0 c.args.store.now.capacity start (u.1 / 10000 + 1) traced.0)
    (λ i. (image i, c.horizon-horizon.ensures i)) traced.1.0 in
    (traced.0, (told, traced.1.1, traced.1.2))
