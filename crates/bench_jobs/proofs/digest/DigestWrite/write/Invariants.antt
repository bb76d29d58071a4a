use Rattle.std.proofs.Common.{length}
use Rattle.bench_jobs.proofs.digest.DigestWrite.write.Given as goal

abbrev pub decreases-single : goal.decreases-single
decreases-single l = length l.rest
