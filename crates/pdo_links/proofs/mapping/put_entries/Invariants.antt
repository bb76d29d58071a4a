use Rattle.std.proofs.Common.{◌≡◌, ◌++◌, take}
use Rattle.pdo_links.specs.Tables.{AreMapped}
use Rattle.pdo_links.specs.PdoWrites.{mapped_writes}
use Rattle.pdo_links.proofs.mapping.put_entries.Given as goal

-- the entries so far are written
abbrev pub invariant-loop-place : goal.invariant-loop-place
invariant-loop-place l =
    (l.writes.items ≡ l.initial.writes.items ++ mapped_writes l.object 1 (take l.place l.mapping))
    × AreMapped (take l.place l.mapping)
