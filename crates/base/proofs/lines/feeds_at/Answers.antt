use Rattle.std.proofs.Common.{eqb, ap, ◌∙◌, arith, w8}
use lib.Count.{ones}
use lib.Lanes.{chunk}
use Rattle.std.proofs.lemmas.Simd.{bitmask_splat, ones-mask_l, length-chunk}
use Rattle.base.proofs.lines.feeds_at.Goals as goal

pub returns : goal.returns
returns c =
    let lanes = chunk c.args.at 32 c.args.text.now in
    ap ones (bitmask_splat w8 eqb lanes 32 10 (length-chunk c.args.at 32 c.args.text.now c.requires) (omega arith))
    ∙ ones-mask_l (λ x. eqb x 10) lanes
