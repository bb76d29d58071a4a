use Rattle.std.proofs.Common.{◌≡◌, ℕ, take, length}
use Rattle.std.specs.FinMap.{get}
use Rattle.eds_dcf.specs.Template.{Tells}
use Rattle.eds_dcf.specs.Writes.{last_of}
use Rattle.eds_dcf.proofs.written.Written.by.Given as goal

abbrev pub invariant-loop-write : goal.invariant-loop-write
invariant-loop-write l = record {
  left : (place : ℕ × ℕ) → get l.values place ≡ last_of (take l.write-index l.writes) place;
  told : Tells l.flags (get l.values);
  flags : length l.flags ≡ 4096;
}
