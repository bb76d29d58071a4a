use Rattle.std.proofs.Common.{◌≡◌, ℕ, ◌-◌, ◌+◌, Bool, false, subst, rules, arith}
use Rattle.co_values.specs.declared.form.Width.TheVariants.{Bits32}
use Rattle.pdo_stations.specs.Devices.{has_unsigned}
use Rattle.pdo_stations.specs.Rooms.{device_with}
use Rattle.pdo_stations.proofs.RoomLemmas.{front_counted}
use Rattle.pdo_stations.proofs.room.mapping_entries.Goals as goal

pub returns-then-not-has_unsigned : goal.returns-then-not-has_unsigned
returns-then-not-has_unsigned c = λ count few.
    let sub : ℕ = c.loop-sub.sub in
    let test : ℕ → Bool = λ n. has_unsigned (device_with c.args.shape.now) 0 Bits32 (c.args.object, n) in
    let fails : test sub ≡ false = search rules in
    let again : sub ≡ sub - 1 + 1 = omega arith in
    front_counted test (sub - 1) count (λ k low up. c.loop-sub.invariant k low (omega arith))
    (λ more. subst (λ n. test n ≡ false) again fails) few

pub returns : goal.returns
returns c = λ count few.
    let test : ℕ → Bool = λ n. has_unsigned (device_with c.args.shape.now) 0 Bits32 (c.args.object, n) in
    front_counted test 64 count (λ k low up. c.loop-sub.invariant k low (omega arith))
    (λ more. absurd (omega arith)) few
