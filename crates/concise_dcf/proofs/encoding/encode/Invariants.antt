use Rattle.std.proofs.Common.{◌≡◌, ◌++◌, length, take}
use Rattle.byteorder.specs.Endian.{little_bytes}
use Rattle.concise_dcf.specs.Concise.{entries_of, Fits}
use Rattle.std.specs.List.{AllByRecursion}
use Rattle.concise_dcf.proofs.encoding.encode.Given as goal

abbrev pub invariant-loop-write : goal.invariant-loop-write
invariant-loop-write l = (l.out.items ≡ little_bytes 4 (length l.writes) ++ entries_of (take l.write-index l.writes))
    × AllByRecursion Fits (take l.write-index l.writes)
