use Rattle.std.proofs.Common.{◌≤◌, ℕ, List, All, length, subst, sym, ap, ◌∙◌, arith}
use Rattle.std.specs.List.{slice_get}
use Rattle.std.proofs.lemmas.Option.{slice_get-get_or}
use Rattle.std.proofs.lemmas.Grind.{common_steps}
use Rattle.std.proofs.lemmas.List.Elements.{filter_map-append}
use Rattle.concise_dcf.specs.declared.write.Write.{Write}
use Rattle.node_parameters.proofs.ParameterLemmas.{all_taken, writes_sized, writes_few}
use Rattle.node_parameters.proofs.parameters.writes.Goals as goal

pub loop-position-preserved : goal.loop-position-preserved
loop-position-preserved c = grind (arith, common_steps, filter_map-append)

pub parameter_write-requires : goal.parameter_write-requires
parameter_write-requires c =
    let first : ℕ × ℕ = (0, 0) in
    ap (λ (places : List (ℕ × ℕ)). slice_get places c.loop-position.position) (sym c.pairs-places.ensures.pairs)
    ∙ slice_get-get_or c.pairs-places.result.now c.loop-position.position first c.loop-position-test.true

pub returns-clause-sizes : goal.returns-clause-sizes
returns-clause-sizes c =
    let all = all_taken c.args.device.now c.args.params.now c.args.node c.loop-position.writes.items
    c.pairs-places.result.now c.loop-position.position c.loop-position.invariant.0
    c.pairs-places.ensures.pairs (omega arith) in
    subst (λ (ws : List Write). All (λ w. (1 ≤ length w.bytes) × (length w.bytes ≤ 512)) ws) (sym all)
    (writes_sized c.args.device.now c.args.params.now c.args.node)

pub returns-clause-count : goal.returns-clause-count
returns-clause-count c =
    let all = all_taken c.args.device.now c.args.params.now c.args.node c.loop-position.writes.items
    c.pairs-places.result.now c.loop-position.position c.loop-position.invariant.0
    c.pairs-places.ensures.pairs (omega arith) in
    omega (
      arith,
      ap (λ (ws : List Write). length ws) all,
      writes_few c.args.device.now c.args.params.now c.args.node,
      ap length c.pairs-places.ensures.pairs,
      c.pairs-places.ensures.bound,
    )
