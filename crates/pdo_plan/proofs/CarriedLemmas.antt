-- What is said of the sources by their widths is what is said of them by the sender's entries.
use Rattle.std.proofs.Common.{◌≡◌, ℕ, ◌+◌, ◌==◌, ◌||◌, Bool, true, false, not, cond, List, [], ◌∷◌, map, Some, refl, ap}
use Rattle.std.proofs.Common.{arith}
use Rattle.std.specs.Prelude.{fold}
use Rattle.std.specs.List.{list_any, cons_option}
use Rattle.std.specs.Map.{lookup}
use Rattle.std.specs.BTreeMap.{is_at}
use Rattle.std.specs.Option.{option_map_or}
use Rattle.std.specs.Ordering.{nat_cmp}
use Rattle.std.proofs.lemmas.Bool.Decides.{nat_tests}
use Rattle.co_dict.specs.declared.direction.Direction.TheVariants.{Transmit}
use Rattle.pdo_stations.specs.declared.carried.Carried.{Carried}
use Rattle.pdo_stations.specs.declared.mapped.Mapped.{Mapped}
use Rattle.pdo_stations.specs.Devices.{Devices, can_map, type_at, width_at}
use Rattle.pdo_plan.specs.Mapping.{Sources, bits_of, sent_mapping, taken_mapping, lacks_dummy_at, is_mismatched}
use Rattle.pdo_choices.specs.Consumers.{Sinks}
use Rattle.pdo_plan.specs.Mapping.{misfit}
use Rattle.pdo_stations.specs.Carried.{carried_by, carried_of, bits_in, total_bits, sent_by, taken_by, taken_of_all}
use Rattle.pdo_stations.specs.Carried.{lacks_some, lacks_dummy_for, carried_at}
use Rattle.pdo_plan.specs.Carried.{mismatches}

pub fold_map : {X Y : Type 0} (g : X → Y) (f : ℕ → Y → ℕ) (n : ℕ) (xs : List X)
    → fold f n (map g xs) ≡ fold (λ a x. f a (g x)) n xs
fold_map g f n [] = refl
fold_map g f n (x ∷ xs) = fold_map g f (f n (g x)) xs

module _ (devices : Devices) (sender : ℕ) where
  pub bits_same : (ss : Sources) → total_bits (carried_of devices sender ss) ≡ bits_of devices sender ss
  bits_same ss = fold_map (carried_by devices sender) (λ a c. a + bits_in c) 0 ss

  pub sent_same : (ss : Sources) → sent_by (carried_of devices sender ss) ≡ sent_mapping devices sender ss
  unfolding sent_mapping
  sent_same [] = refl
  sent_same (s ∷ ss) = cc (sent_same ss)

  pub taken_same : (sinks : Sinks) (node : ℕ) (ss : Sources)
      → taken_of_all devices sinks node (carried_of devices sender ss) ≡ taken_mapping devices sender ss sinks node
  unfolding taken_of_all taken_mapping taken_by
  taken_same sinks node [] = refl
  taken_same sinks node (s ∷ ss) =
      ap (λ (ms : List Mapped). cons_option (taken_by devices sinks node (carried_by devices sender s)) ms)
      (taken_same sinks node ss)

  pub lacks_same : (sinks : Sinks) (node : ℕ) (ss : Sources)
      → lacks_some devices sinks node (carried_of devices sender ss)
      ≡ list_any (lacks_dummy_at devices sender sinks node) ss
  lacks_same sinks node [] = refl
  lacks_same sinks node (s ∷ ss) = ap (λ b. lacks_dummy_for devices sinks node (carried_by devices sender s) || b)
      (lacks_same sinks node ss)

  pub sendable_same : (ss : Sources) → list_any (λ c. not c.sendable) (carried_of devices sender ss)
      ≡ list_any (λ s. not (can_map Transmit devices sender s.1)) ss
  sendable_same [] = refl
  sendable_same (s ∷ ss) = ap (λ b. not (can_map Transmit devices sender s.1) || b) (sendable_same ss)

  at_number : (a b : ℕ) → is_at (nat_cmp a) b ≡ (b == a)
  at_number a b = grind (arith, nat_tests)

  pub mismatch_same : (ss : Sources) (sink : (ℕ × ℕ) × (ℕ × ℕ))
      → mismatches devices (carried_of devices sender ss) sink ≡ is_mismatched devices sender ss sink
  mismatch_same [] sink = refl
  mismatch_same (s ∷ ss) sink = by (s.0 == sink.0.0) (at_number sink.0.0 s.0) (mismatch_same ss sink)
    where
      by : (b : Bool) → is_at (nat_cmp sink.0.0) s.0 ≡ b
          → mismatches devices (carried_of devices sender ss) sink ≡ is_mismatched devices sender ss sink
          → option_map_or (λ (c : Carried). misfit c.bits c.kind (width_at devices sink.0.1 sink.1)
          (type_at devices sink.0.1 sink.1))
          (cond b (Some (carried_by devices sender s)) (carried_at (carried_of devices sender ss) sink.0.0)) true
          ≡ option_map_or (λ place. misfit (width_at devices sender place) (type_at devices sender place)
          (width_at devices sink.0.1 sink.1) (type_at devices sink.0.1 sink.1))
          (cond (is_at (nat_cmp sink.0.0) s.0) (Some s.1) (lookup (is_at (nat_cmp sink.0.0)) ss)) true
      by true e rest = rw e refl
      by false e rest = rw e rest
