use Rattle.std.proofs.Common.{◌≡◌, take}
use Rattle.std.specs.List.{flat_map}
use Rattle.pdo_findings.specs.Findings.{refused_place}
use Rattle.pdo_findings.proofs.refused.refused_places.Given as goal

abbrev pub invariant-loop-write : goal.invariant-loop-write
invariant-loop-write l = l.places.items ≡ flat_map (refused_place l.device) (take l.write-index l.writes)
