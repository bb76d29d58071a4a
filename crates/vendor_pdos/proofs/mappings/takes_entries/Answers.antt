use Rattle.std.proofs.Common.{◌≡◌, ℕ, Bool, false, sym, rules, arith}
use Rattle.co_values.specs.declared.form.Width.TheVariants.{Bits32}
use Rattle.pdo_stations.proofs.RoomLemmas.{all_pass, one_fails}
use Rattle.vendor_pdos.specs.Parameters.{takes_at}
use Rattle.vendor_pdos.proofs.mappings.takes_entries.Goals as goal

pub returns-then-not-takes_at : goal.returns-then-not-takes_at
returns-then-not-takes_at c =
    let test : ℕ → Bool = λ sub. takes_at c.args.device.now Bits32 (c.args.mapping, sub) in
    let fails : test c.loop-sub.sub ≡ false = search rules in
    sym (one_fails test 1 c.args.count c.loop-sub.sub (omega arith) (omega arith) fails)

pub returns : goal.returns
returns c =
    let test : ℕ → Bool = λ sub. takes_at c.args.device.now Bits32 (c.args.mapping, sub) in
    sym (all_pass test 1 c.args.count (λ k low up. c.loop-sub.invariant k low (omega arith)))
