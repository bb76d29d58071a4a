-- The synchronous counter overflow values that aren't the network's are found.
use Rattle.std.proofs.Common.{◌≡◌, ◌==◌, ◌⊎◌, inl, inr, not, ℕ, Bool, true, false, [], Contains, Option, Some, None}
use Rattle.std.proofs.Common.{refl, sym, ap, subst}
use Rattle.std.specs.Prelude.{if◌then◌else◌, option_map}
use Rattle.std.specs.List.{cons_option}
use Rattle.node_parameters.proofs.WrittenLemmas.{Contains-filter_map, from_filter_map}
use Rattle.co_project.specs.Project.{Content}
use Rattle.project_plan.specs.Network.{Member, member_at, members}
use Rattle.project_plan.specs.Values.{number_after}
use Rattle.diag_lines.specs.declared.code.Code.TheVariants.{OtherCounter}
use Rattle.diag_lines.specs.declared.diag.Diag.{Diag}
use Rattle.diag_lines.specs.declared.subject.Subject.TheVariants as of
use Rattle.diag_lines.proofs.ListLemmas.{Contains-nil, Contains-first, Contains-cases}
use Rattle.co_diag.specs.Found.{counter_diagnostic, other_counters}
use Rattle.diag_nodes.specs.Found.{counters, diagnostic}
use Rattle.co_diag.specs.Holds.{HasOtherCounter, HoldsOf, Holds}
use Rattle.diag_nodes.specs.Rules.{counter_at, counters_in, numbers_of}
use Rattle.co_diag.proofs.ListLemmas.{Contains-flat_map, from_flat_map}
use Rattle.diag_nodes.proofs.MemberLemmas.{member_found, member_listed}

-- ---- what is found holds

-- the value of a node that has one
counter_by : (node : ℕ) (o : Option ℕ) (c : ℕ × ℕ)
    → Contains {X = ℕ × ℕ} (cons_option (option_map (λ n. (node, n)) o) []) c → (o ≡ Some c.1) × (node ≡ c.0)
counter_by node None c there = absurd (Contains-nil c there)
counter_by node (Some n) c there = by (Contains-cases own [] c there)
  where
    own : ℕ × ℕ
    own = (node, n)

    by : (own ≡ c) ⊎ Contains [] c → (Some n ≡ Some c.1) × (node ≡ c.0)
    by (inl same) = (ap (λ (x : ℕ × ℕ). Some x.1) same, ap (λ (x : ℕ × ℕ). x.0) same)
    by (inr there) = absurd (Contains-nil c there)

-- it is another
other_by : (sync_counter : ℕ) (c : ℕ × ℕ) (d : Diag) → counter_diagnostic sync_counter c ≡ Some d
    → ((c.1 == sync_counter) ≡ false) × (diagnostic OtherCounter (of.Node c.0 None) ≡ d)
other_by sync_counter c d h = by (c.1 == sync_counter) refl h
  where
    by : (t : Bool) → (c.1 == sync_counter) ≡ t
        → (if not t then Some (diagnostic OtherCounter (of.Node c.0 None)) else None) ≡ Some d
        → ((c.1 == sync_counter) ≡ false) × (diagnostic OtherCounter (of.Node c.0 None) ≡ d)
    by true same h = cc
    by false other h = let same : diagnostic OtherCounter (of.Node c.0 None) ≡ d = cc in (other, same)

pub counters_hold : (p : Content) (d : Diag) → Contains (other_counters p) d → Holds p d
unfolding other_counters counters Holds
counters_hold p d c =
    let one = from_filter_map (counter_diagnostic p.sync_counter) (counters p) d c in
    let at = from_flat_map (counters_in (numbers_of p)) (members p) one.0 one.1 in
    let own = counter_by at.0.0 (counter_at (numbers_of p at.0)) one.0 at.2 in
    let other = other_by p.sync_counter one.0 d one.2 in
    let holds : HasOtherCounter p one.0.0 = record {
      member = at.0.1;
      counter = one.0.1;
      is = subst (λ (n : ℕ). member_at p n ≡ Some at.0.1) own.1 (member_found p at.0 at.1);
      there = subst (λ (n : ℕ). counter_at (number_after p at.0.1 n) ≡ Some one.0.1) own.1 own.0;
      other = other.0;
    } in
    subst (λ (x : Diag). HoldsOf p x.code x.subject) other.1 holds

-- ---- what holds is found

pub counters_listed : (p : Content) (node : ℕ) → HasOtherCounter p node
    → Contains (other_counters p) (diagnostic OtherCounter (of.Node node None))
unfolding other_counters counters
counters_listed p node h =
    Contains-filter_map (counter_diagnostic p.sync_counter) (counters p) c d
    (Contains-flat_map (counters_in (numbers_of p)) (members p) e c (member_listed p node h.member h.is)
    (subst (λ (o : Option ℕ). Contains {X = ℕ × ℕ} (cons_option (option_map (λ n. (node, n)) o) []) c) (sym h.there)
    (Contains-first c [])))
    (ap (λ (t : Bool). if not t then Some d else None) h.other)
  where
    e : ℕ × Member
    e = (node, h.member)

    c : ℕ × ℕ
    c = (node, h.counter)

    d : Diag
    d = diagnostic OtherCounter (of.Node node None)
