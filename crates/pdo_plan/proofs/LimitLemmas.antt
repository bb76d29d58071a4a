-- What the limits of a message give.
use Rattle.std.proofs.Common.{◌≡◌, ℕ, ◌<◌, ◌≤◌, true, List, ◌∷◌, length, arith}
use Rattle.std.specs.List.{All, AllByRecursion}
use Rattle.std.specs.List.Sorted.{IsStrictlySortedBy}
use Rattle.std.specs.Map.{keys_of}
use Rattle.std.specs.declared.cmp.Ordering.TheVariants.{Less}
use Rattle.std.specs.Ordering.{nat_cmp}
use Rattle.std.proofs.lemmas.Bool.Decides.{nat_tests}
use Rattle.std.proofs.lemmas.List.{length-map}
use Rattle.std.proofs.lemmas.List.Elements.{All-cons, All-map, All-weaker, recursion_from_All}
use Rattle.std.proofs.lemmas.Map.Views.{length-le_from_below}
use Rattle.project_messages.specs.declared.linked.Linked.{Linked}
use Rattle.project_messages.specs.Messages.{is_position, IsMessage, AreSources, IsLinked}
use Rattle.pdo_plan.specs.Mapping.{Sources}
use Rattle.pdo_choices.proofs.RangeLemmas.{between}

above_none : (n : ℕ) → is_position n ≡ true → nat_cmp 0 n ≡ Less
above_none n e = grind (arith, nat_tests)

below_past : (n : ℕ) → is_position n ≡ true → n < 65
below_past n e = grind (arith, nat_tests)

-- a message has at most 64 sources
pub few_sources : (ss : Sources) → AreSources ss → length ss ≤ 64
unfolding AreSources IsStrictlySortedBy
few_sources ss kept =
    let keys : List ℕ = keys_of ss in
    let places : All (λ n. is_position n ≡ true) keys = All-map (λ n. is_position n ≡ true) (λ e. e.0) ss kept.1 in
    let low : AllByRecursion (λ n. nat_cmp 0 n ≡ Less) keys =
    recursion_from_All (λ n. nat_cmp 0 n ≡ Less) keys (All-weaker (λ n. is_position n ≡ true)
    (λ n. nat_cmp 0 n ≡ Less) above_none keys places) in
    let high : All (λ n. n < 65) (0 ∷ keys) = All-cons (λ n. n < 65) 0 keys (omega arith)
    (All-weaker (λ n. is_position n ≡ true) (λ n. n < 65) below_past keys places) in
    let most : length (0 ∷ keys) ≤ 65 = length-le_from_below 65 (0 ∷ keys) (low, kept.0) high in
    let count : length keys ≡ length ss = length-map ss (λ e. e.0) in
    omega (arith, most, count)

-- the limits of a message
pub record Limits (m : Linked) : Type 0 where
  pub node : (1 ≤ m.message.node) × (m.message.node ≤ 127)
  pub tpdo : (1 ≤ m.message.tpdo) × (m.message.tpdo ≤ 512)
  pub cob : m.message.cob ≤ 0x7FF
  pub sources : length m.sources ≤ 64

pub limits_of : (m : Linked) → IsLinked m → Limits m
unfolding IsLinked IsMessage
limits_of m kept = record {
  node = between 1 127 m.message.node kept.0.0;
  tpdo = between 1 512 m.message.tpdo kept.0.1;
  cob = (between 0 0x7FF m.message.cob kept.0.2).1;
  sources = few_sources m.sources kept.2;
}
