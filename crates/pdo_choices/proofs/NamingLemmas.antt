-- The RPDOs that receives name, sink by sink.
use Rattle.std.proofs.Common.{◌≡◌, ◌==◌, ◌&&◌, ◌||◌, ℕ, Bool, true, false, [], ◌∷◌, refl, ◌∙◌, arith}
use Rattle.std.specs.List.{list_any}
use Rattle.std.specs.Option.{option_map_or}
use Rattle.std.proofs.lemmas.Bool.Decides.{nat_tests}
use Rattle.project_messages.specs.declared.linked.Linked.{Linked}
use Rattle.pdo_choices.specs.Consumers.{Sinks}
use Rattle.pdo_choices.specs.Receives.{names_rpdo, rpdo_named}

-- the receive of a sink's node names this RPDO of this node
abbrev pub named_at : Linked → ℕ × ℕ → (ℕ × ℕ) × (ℕ × ℕ) → Bool
named_at m q s = (s.0.1 == q.0) && option_map_or (λ named. named == q.1) (rpdo_named m s.0.1) false

either_way : (a b : Bool) → (b || (a && b)) ≡ b
either_way true true = refl
either_way true false = refl
either_way false true = refl
either_way false false = refl

same_number : (a b : ℕ) → (a == b) ≡ true → a ≡ b
same_number a b e = grind (arith, nat_tests)

any_at : (f : ℕ → Bool) (node : ℕ) (sinks : Sinks) → list_any (λ s. (s.0.1 == node) && f s.0.1) sinks
    ≡ (list_any (λ s. s.0.1 == node) sinks && f node)
any_at f node [] = refl
any_at f node (s ∷ sinks) = by (s.0.1 == node) refl (any_at f node sinks)
  where
    by : (b : Bool) → (s.0.1 == node) ≡ b
        → list_any (λ s. (s.0.1 == node) && f s.0.1) sinks ≡ (list_any (λ s. s.0.1 == node) sinks && f node)
        → ((b && f s.0.1) || list_any (λ s. (s.0.1 == node) && f s.0.1) sinks)
        ≡ ((b || list_any (λ s. s.0.1 == node) sinks) && f node)
    by true e rest = (λ i. f (same_number s.0.1 node e i) || rest i)
        ∙ either_way (list_any (λ s. s.0.1 == node) sinks) (f node)
    by false e rest = rest

-- of all sinks
pub named_by : (m : Linked) (q : ℕ × ℕ) → list_any (named_at m q) m.sinks ≡ names_rpdo q.0 q.1 m
named_by m q = any_at (λ node. option_map_or (λ named. named == q.1) (rpdo_named m node) false) q.0 m.sinks
