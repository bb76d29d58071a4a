-- The earliest moment, found one after another.
use Rattle.std.proofs.Common.{◌≡◌, ℕ, ◌+◌, ◌<◌, ◌≤◌, List, [], ◌∷◌, ◌++◌, drop, get_or, length, Option, Some, None}
use Rattle.std.proofs.Common.{refl, sym, ap, ◌∙◌}
use Rattle.std.proofs.lemmas.List.{drop_all, drop_more}
use Rattle.base.specs.Moments.{earlier, earliest, moments_of}
use Rattle.node_boot.specs.Boot.{deadline_of}
use Rattle.manager_nodes.specs.Table.{deadlines}
use Rattle.manager_nodes.specs.declared.booting.Booting.{Booting}
use Rattle.base.proofs.EarliestLemmas.{earliest_append, earliest_of, in_turn}

pub first_then : (o : Option ℕ) (ms : List ℕ) → earliest (moments_of o ++ ms) ≡ earlier o (earliest ms)
first_then o ms = earliest_append (moments_of o) ms ∙ ap (λ (first : Option ℕ). earlier first (earliest ms))
    (earliest_of o)

one_more : (first : Option ℕ) (n : Booting) (ns : List Booting)
    → earlier (earlier first (deadline_of n.stage)) (earliest (deadlines ns))
    ≡ earlier first (earliest (deadlines (n ∷ ns)))
unfolding deadlines
one_more first n ns = in_turn first (deadline_of n.stage) (earliest (deadlines ns))
    ∙ ap (earlier first) (sym (first_then (deadline_of n.stage) (deadlines ns)))

-- the node n stands at the place i
pub one_more_at : (first next deadline : Option ℕ) (ns : List Booting) (i : ℕ) (n : Booting) → i < length ns
    → n ≡ get_or ns i n → deadline ≡ deadline_of n.stage → next ≡ earlier first deadline
    → earlier next (earliest (deadlines (drop (i + 1) ns))) ≡ earlier first (earliest (deadlines (drop i ns)))
one_more_at first next deadline ns i n within is e f =
    let all : drop i ns ≡ n ∷ drop (i + 1) ns = drop_more ns i n within
    ∙ ap (λ (x : Booting). x ∷ drop (i + 1) ns) (sym is) in
    ap (λ (x : Option ℕ). earlier x (earliest (deadlines (drop (i + 1) ns)))) (f ∙ ap (earlier first) e)
    ∙ one_more first n (drop (i + 1) ns)
    ∙ ap (λ (xs : List Booting). earlier first (earliest (deadlines xs))) (sym all)

no_more : (first : Option ℕ) → first ≡ earlier first (earliest (deadlines []))
unfolding deadlines
no_more None = refl
no_more (Some moment) = refl

pub at_end : (first : Option ℕ) (ns : List Booting) (i : ℕ) → length ns ≤ i
    → first ≡ earlier first (earliest (deadlines (drop i ns)))
at_end first ns i past = no_more first ∙ ap (λ (xs : List Booting). earlier first (earliest (deadlines xs)))
    (sym (drop_all i ns past))
