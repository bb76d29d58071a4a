use Rattle.std.proofs.Common.{◌∙◌, ℕ, List, ◌++◌, ap, map}
use Rattle.diag_lines.specs.declared.code.Code.TheVariants.{BesideLimits, UnplannedRpdo, UnplannedTpdo}
use Rattle.diag_lines.specs.declared.diag.Diag.{Diag}
use Rattle.diag_lines.specs.declared.subject.Subject.TheVariants as of
use Rattle.pdo_findings.specs.Findings.{refused_places}
use Rattle.diag_nodes.specs.Found.{diagnostic}
use Rattle.co_diag.specs.Found.{pdo_findings}
use Rattle.co_diag.proofs.WalkLemmas.{three_found}
use Rattle.co_diag.proofs.vendor.find_of_pdos.Goals as goal

pub returns : goal.returns
unfolding pdo_findings
returns c =
    let node : ℕ = c.args.node in
    let of_tpdos : List ℕ → List Diag = map (λ number. diagnostic UnplannedTpdo (of.Tpdo node number)) in
    let of_rpdos : List ℕ → List Diag = map (λ number. diagnostic UnplannedRpdo (of.Rpdo node number)) in
    let of_places : List (ℕ × ℕ) → List Diag = map (λ place. diagnostic BesideLimits (of.Limit node place.0 place.1)) in
    three_found c.args.found.now.items c.find_tpdos.new.found.items c.find_rpdos.new.found.items
    c.find_places.new.found.items _ _ _
    (c.in_ok-find_tpdos.ensures
    ∙ ap (λ (ns : List ℕ). c.args.found.now.items ++ of_tpdos ns) (c.as_slice.ensures.value ∙ c.in_ok-tpdos.ensures))
    (c.in_ok-find_rpdos.ensures
    ∙ ap (λ (ns : List ℕ). c.find_tpdos.new.found.items ++ of_rpdos ns)
    (c.as_slice-2.ensures.value ∙ c.in_ok-rpdos.ensures))
    (c.in_ok-find_places.ensures
    ∙ ap (λ (ps : List (ℕ × ℕ)). c.find_rpdos.new.found.items ++ of_places ps)
    (c.as_slice-4.ensures.value ∙ c.in_ok-places.ensures
    ∙ ap (refused_places c.args.made.now) (c.as_slice-3.ensures.value ∙ c.in_ok-writes.ensures.writes)))
