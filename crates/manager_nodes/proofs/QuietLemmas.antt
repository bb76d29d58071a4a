-- No node times out before the first deadline.
use Rattle.std.proofs.Common.{◌≡◌, ℕ, ◌+◌, ◌<◌, ◌≤◌, false, List, [], ◌∷◌, map, Option, Some, None, IfSome, refl}
use Rattle.std.proofs.Common.{subst, arith}
use Rattle.std.proofs.lemmas.Bool.Decides.{nat_tests}
use Rattle.base.specs.Moments.{earlier, earliest}
use Rattle.node_boot.specs.Boot.{deadline_of, is_at}
use Rattle.manager_nodes.proofs.EarliestLemmas.{first_then}
use Rattle.manager_nodes.specs.Table.{deadlines, node_after, timed_out}
use Rattle.manager_nodes.specs.declared.booting.Booting.{Booting}

-- no deadline of these nodes lies before t
abbrev pub AreFrom : ℕ → List Booting → Type 0
AreFrom t [] = Unit {0}
AreFrom t (n ∷ ns) = IfSome (deadline_of n.stage) (λ d. t ≤ d) × AreFrom t ns

not_at : (t : ℕ) (o : Option ℕ) → IfSome o (λ d. t + 1 ≤ d) → is_at t o ≡ false
not_at t None h = refl
not_at t (Some d) h = grind (arith, nat_tests)

pub quiet_nodes : (t : ℕ) (ns : List Booting) → AreFrom (t + 1) ns → map (node_after t) ns ≡ ns
quiet_nodes t [] h = refl
quiet_nodes t (n ∷ ns) h = rw (not_at t (deadline_of n.stage) h.0, quiet_nodes t ns h.1) refl

pub quiet_list : (t : ℕ) (ns : List Booting) → AreFrom (t + 1) ns → timed_out t ns ≡ []
quiet_list t [] h = refl
quiet_list t (n ∷ ns) h = rw (not_at t (deadline_of n.stage) h.0) (quiet_list t ns h.1)

-- the first of the deadlines, if there is one, lies after t
abbrev pub IsQuiet : ℕ → List Booting → Type 0
IsQuiet t nodes = IfSome (earliest (deadlines nodes)) (λ first. t < first)

both_later : (t : ℕ) (a b : Option ℕ) → IfSome (earlier a b) (λ d. t < d)
    → IfSome a (λ d. t + 1 ≤ d) × IfSome b (λ d. t < d)
both_later t None b h = (tt, h)
both_later t (Some a) None h = (omega (arith, h), tt)
both_later t (Some a) (Some b) h = (omega (arith, h), omega (arith, h))

are_from : (t : ℕ) (ns : List Booting) → IsQuiet t ns → AreFrom (t + 1) ns
unfolding deadlines
are_from t [] h = tt
are_from t (n ∷ ns) h =
    let both = both_later t (deadline_of n.stage) (earliest (deadlines ns))
    (subst (λ (o : Option ℕ). IfSome o (λ first. t < first)) (first_then (deadline_of n.stage) (deadlines ns)) h) in
    (both.0, are_from t ns both.1)

pub nodes_stay : (t : ℕ) (ns : List Booting) → IsQuiet t ns → map (node_after t) ns ≡ ns
nodes_stay t ns h = quiet_nodes t ns (are_from t ns h)

pub none_times_out : (t : ℕ) (ns : List Booting) → IsQuiet t ns → timed_out t ns ≡ []
none_times_out t ns h = quiet_list t ns (are_from t ns h)
