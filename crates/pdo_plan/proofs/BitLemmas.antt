-- Each mapping of a clean message has at most 64 bits.
use Rattle.std.proofs.Common.{◌≡◌, ℕ, ◌+◌, ◌≤◌, Bool, true, false, List, [], ◌∷◌, filter_map, Option, Some, None}
use Rattle.std.proofs.Common.{option_map, option_and_then, refl, sym, ap, subst, ◌∙◌, arith}
use Rattle.std.specs.Prelude.{fold, if◌then◌else◌}
use Rattle.std.specs.List.{cons_option, All}
use Rattle.std.specs.Option.{option_or, unwrap_or}
use Rattle.std.proofs.lemmas.List.Elements.{All-from_recursion}
use Rattle.project_messages.specs.declared.linked.Linked.{Linked}
use Rattle.project_messages.specs.Messages.{sink_at}
use Rattle.pdo_choices.specs.declared.clean.Clean.{Clean}
use Rattle.pdo_choices.specs.declared.consumer.Consumer.{Consumer}
use Rattle.pdo_stations.specs.declared.mapped.Mapped.{Mapped}
use Rattle.pdo_plan.specs.declared.outcome.Outcome.TheVariants.{Planned}
use Rattle.pdo_stations.specs.Devices.{Devices, width_at}
use Rattle.pdo_stations.specs.Dummies.{mapped_to, dummy_type, dummy_for}
use Rattle.pdo_plan.specs.Mapping.{Sources, mapping_bits, source_bits, bits_of, sent_mapping, taken_at}
use Rattle.pdo_choices.specs.Consumers.{Sinks, consumers_of}
use Rattle.pdo_plan.specs.Mapping.{taken_mapping}
use Rattle.pdo_choices.specs.Had.{Had, Withheld, had_by}
use Rattle.pdo_plan.specs.Plan.{judged_message, consumer_of, planned_consumers, clean}
use Rattle.pdo_plan.specs.Plan.{plan_of, FitFrames}
use Rattle.pdo_plan.proofs.CarriedLemmas.{fold_map}
use Rattle.pdo_plan.proofs.ChainLemmas.{each_clean, all_clean}
use Rattle.pdo_plan.proofs.FreeLemmas.{faultless}
use Rattle.pdo_plan.proofs.JudgedLemmas.{judged_clean, each_given, consumer_is}

-- the bits of an entry that is given are at most those that it is given for
sum_given : {X : Type 0} (h : X → Option Mapped) (g : X → ℕ) → ((x : X) (m : Mapped) → h x ≡ Some m → m.bits ≤ g x)
    → (low high : ℕ) → low ≤ high → (xs : List X)
    → fold (λ a (m : Mapped). a + m.bits) low (filter_map h xs) ≤ fold (λ a x. a + g x) high xs
sum_given h g most low high up [] = up
sum_given h g most low high up (x ∷ xs) =
    by (h x) refl (λ m e. sum_given h g most (low + m.bits) (high + g x) (next m (most x m e)) xs)
    (sum_given h g most low (high + g x) (omega arith) xs)
  where
    next : (m : Mapped) → m.bits ≤ g x → low + m.bits ≤ high + g x
    next m e = omega arith

    by : (o : Option Mapped) → h x ≡ o
        → ((m : Mapped) → h x ≡ Some m → fold (λ a (m : Mapped). a + m.bits) (low + m.bits)
        (filter_map h xs) ≤ fold (λ a x. a + g x) (high + g x) xs)
        → fold (λ a (m : Mapped). a + m.bits) low (filter_map h xs) ≤ fold (λ a x. a + g x) (high + g x) xs
        → fold (λ a (m : Mapped). a + m.bits) low (cons_option o (filter_map h xs)) ≤ fold (λ a x. a + g x)
        (high + g x) xs
    by None e some none = none
    by (Some m) e some none = some m e

module _ (devices : Devices) (sender : ℕ) where
  sent_bits : (ss : Sources) → mapping_bits (sent_mapping devices sender ss) ≡ bits_of devices sender ss
  unfolding sent_mapping
  sent_bits ss = fold_map (λ s. mapped_to s.1 (source_bits devices sender s)) (λ a m. a + m.bits) 0 ss

  dummy_bits : (node bits : ℕ) (m : Mapped) → dummy_for devices node bits ≡ Some m → m.bits ≡ bits
  dummy_bits node bits m e = by (dummy_type bits) e
    where
      allowed : (b : Bool) (kind : ℕ) → (if b then Some (mapped_to (kind, 0) bits) else None) ≡ Some m → m.bits ≡ bits
      allowed true kind e = let made : Mapped = mapped_to (kind, 0) bits in let same : made ≡ m = cc
          in sym (ap (λ (x : Mapped). x.bits) same)
      allowed false kind e = cc

      by : (o : Option ℕ) → option_and_then (λ kind. if devices.dummy node kind then Some (mapped_to (kind, 0) bits)
          else None) o ≡ Some m → m.bits ≡ bits
      by None e = cc
      by (Some kind) e = allowed (devices.dummy node kind) kind e

  taken_bits : (sinks : Sinks) (node : ℕ) (s : ℕ × (ℕ × ℕ)) (m : Mapped) → taken_at devices sender sinks node s ≡ Some m
      → m.bits ≡ source_bits devices sender s
  taken_bits sinks node s m e = by (sink_at sinks s.0 node) (width_at devices sender s.1) refl e
    where
      by : (o : Option (ℕ × ℕ)) (w : Option ℕ) → width_at devices sender s.1 ≡ w
          → option_or (option_map (λ place. mapped_to place (source_bits devices sender s)) o)
          (option_and_then (dummy_for devices node) w) ≡ Some m → m.bits ≡ source_bits devices sender s
      by (Some place) w is e = let made : Mapped = mapped_to place (source_bits devices sender s)
          in let same : made ≡ m = cc in sym (ap (λ (x : Mapped). x.bits) same)
      by None None is e = cc
      by None (Some bits) is e = dummy_bits node bits m e ∙ sym (ap (λ o. unwrap_or o 0) is)

  taken_most : (sinks : Sinks) (node : ℕ) (ss : Sources)
      → mapping_bits (taken_mapping devices sender ss sinks node) ≤ bits_of devices sender ss
  unfolding taken_mapping
  taken_most sinks node ss =
      sum_given (taken_at devices sender sinks node) (source_bits devices sender)
      (λ s m e. let same = taken_bits sinks node s m e in omega arith) 0 0 (omega arith) ss

consumer_fits : (had : Had) (devices : Devices) (m : Linked) → bits_of devices m.message.node m.sources ≤ 64
    → (node : ℕ) (k : Consumer) → consumer_of had devices m node ≡ Some k → mapping_bits k.mapping ≤ 64
consumer_fits had devices m few node k e =
    let is = consumer_is had devices m node k e in
    let same : mapping_bits (taken_mapping devices m.message.node m.sources m.sinks node)
    ≡ mapping_bits k.mapping = ap mapping_bits is.mapping in
    let most = taken_most devices m.message.node m.sinks node m.sources in
    omega (arith, same, most, few)

consumers_fit : (had : Had) (devices : Devices) (m : Linked) → bits_of devices m.message.node m.sources ≤ 64
    → All (λ (k : Consumer). mapping_bits k.mapping ≤ 64) (planned_consumers had devices m)
unfolding planned_consumers
consumers_fit had devices m few =
    All-from_recursion (λ (k : Consumer). mapping_bits k.mapping ≤ 64) (planned_consumers had devices m)
    (each_given (consumer_of had devices m) (λ (k : Consumer). mapping_bits k.mapping ≤ 64)
    (consumer_fits had devices m few) (consumers_of m.sinks))

fits : (devices : Devices) (withheld : Withheld) (before : List Clean) (m : Linked) (c : Clean)
    → judged_message (had_by withheld before) devices m ≡ Planned c → FitFrames c
fits devices withheld before m c e =
    let is = judged_clean (had_by withheld before) devices m c e in
    let few = (faultless (had_by withheld before) devices m is.faultless).bits in
    let sent : mapping_bits c.mapping ≡ bits_of devices m.message.node m.sources = ap mapping_bits (sym is.mapping)
    ∙ sent_bits devices m.message.node m.sources in (
      omega (arith, sent, few),
      subst (λ (ks : List Consumer). All (λ (k : Consumer). mapping_bits k.mapping ≤ 64) ks) is.consumers
          (consumers_fit (had_by withheld before) devices m few),
    )

pub all_fit : (devices : Devices) (ms : List (List ℕ × Linked)) → All FitFrames (clean (plan_of devices ms))
all_fit devices ms = all_clean FitFrames (clean (plan_of devices ms))
    (each_clean devices (λ before c. FitFrames c) (fits devices) ms)
