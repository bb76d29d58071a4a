use Rattle.std.proofs.Common.{◌≡◌, take, fold, flat_map}
use Rattle.std.specs.Hash as fed
use Rattle.ini_text.specs.Content.{lower_case}
use Rattle.ini_text.proofs.name.hash_name.Given as goal

abbrev pub invariant-loop-byte : goal.invariant-loop-byte
invariant-loop-byte g l = l.state
    ≡ fold g.H.Hasher.write l.initial.state (flat_map fed.u8 (lower_case (take l.byte-index l.name)))
