use Rattle.std.proofs.Common.{◌≡◌, ℕ, ◌<◌, ◌≤◌, true}
use Rattle.co_values.specs.declared.form.Width.TheVariants.{Bits32}
use Rattle.vendor_pdos.specs.Parameters.{takes_at}
use Rattle.vendor_pdos.proofs.mappings.takes_entries.Given as goal

-- those so far can be written
abbrev pub invariant-loop-sub : goal.invariant-loop-sub
invariant-loop-sub l = (k : ℕ) → 1 ≤ k → k < l.sub → takes_at l.device Bits32 (l.mapping, k) ≡ true
