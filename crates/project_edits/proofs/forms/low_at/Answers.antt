use Rattle.std.proofs.Common.{ap, ◌∙◌, arith, w8}
use lib.Count.{ones}
use lib.Dec.{ltb}
use lib.Lanes.{chunk}
use Rattle.std.proofs.lemmas.Simd.{bitmask_splat, ones-mask_l, length-chunk}
use Rattle.project_edits.proofs.forms.low_at.Goals as goal

pub returns : goal.returns
returns c =
    let lanes = chunk c.args.at 16 c.args.text.now in
    ap ones (bitmask_splat w8 ltb lanes 16 32 (length-chunk c.args.at 16 c.args.text.now c.requires) (omega arith))
    ∙ ones-mask_l (λ x. ltb x 32) lanes
