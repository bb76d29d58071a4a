-- The test of purposes.
use Rattle.std.proofs.Common.{◌≡◌, ℕ, true, refl, ap, arith}
use Rattle.std.specs.Prelude.{◌==◌, ◌↔◌}
use Rattle.std.proofs.lemmas.Bool.Decides.{nat_tests}
use Rattle.can_frame.specs.declared.purpose.Purpose.{Purpose}
use Rattle.can_frame.specs.declared.purpose.Purpose.TheVariants.{BootUp, Heartbeat, Tpdo, Sdo, Emergency, Sync, Time, Nmt}
use Rattle.can_frame.specs.WaitingFrames.{is_same}

number_same : (n m : ℕ) → (n == m) ≡ true → n ≡ m
number_same n m h = grind (arith, nat_tests)

number_itself : (n : ℕ) → (n == n) ≡ true
number_itself n = grind (arith, nat_tests)

pub same_purpose : (one other : Purpose) → is_same one other ≡ true → one ≡ other
same_purpose BootUp BootUp h = refl
same_purpose Heartbeat Heartbeat h = refl
same_purpose (Tpdo n) (Tpdo m) h = ap Tpdo (number_same n m h)
same_purpose (Sdo n) (Sdo m) h = ap Sdo (number_same n m h)
same_purpose Emergency Emergency h = refl
same_purpose Sync Sync h = refl
same_purpose Time Time h = refl
same_purpose Nmt Nmt h = refl
same_purpose _ _ h = absurd cc

pub same_itself : (one : Purpose) → is_same one one ≡ true
same_itself BootUp = refl
same_itself Heartbeat = refl
same_itself (Tpdo n) = number_itself n
same_itself (Sdo n) = number_itself n
same_itself Emergency = refl
same_itself Sync = refl
same_itself Time = refl
same_itself Nmt = refl

pub same_both : (one other : Purpose) → (is_same one other ≡ true) ↔ (one ≡ other)
same_both one other = (same_purpose one other, λ e. rw e (same_itself other))
