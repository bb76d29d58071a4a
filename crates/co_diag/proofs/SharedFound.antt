-- The identifiers that two or more TPDOs have are found.
use Rattle.std.proofs.Common.{◌≡◌, ◌≤◌, ◌&&◌, ℕ, Bool, true, false, not, List, length, map, filter}
use Rattle.std.proofs.Common.{Contains, Some, None, refl, sym, ap, subst, ◌∙◌, arith}
use Rattle.std.specs.Prelude.{◌==◌, if◌then◌else◌, nat_le}
use Rattle.std.proofs.lemmas.Bool.{eqb-true, le-leb, leb-true}
use Rattle.std.proofs.lemmas.List.{length-map}
use Rattle.cia301.specs.CobIds.{is_restricted}
use Rattle.eds_device.specs.Places.{pairs_of}
use Rattle.node_parameters.proofs.WrittenLemmas.{Contains-filter_map, from_filter_map}
use Rattle.co_project.specs.Project.{Content}
use Rattle.project_plan.specs.Network.{members}
use Rattle.diag_lines.specs.declared.code.Code.TheVariants.{SharedIdentifier}
use Rattle.diag_lines.specs.declared.diag.Diag.{Diag}
use Rattle.diag_lines.specs.declared.subject.Subject.TheVariants as of
use Rattle.co_diag.specs.Holds.{HoldsOf, Holds, IsShared, sends_with, senders_with}
use Rattle.diag_nodes.specs.Found.{diagnostic, identifiers}
use Rattle.co_diag.specs.Found.{shared_in, shared_identifiers}
use Rattle.diag_nodes.specs.Rules.{identifier_at, identifiers_in, numbers_of}
use Rattle.co_diag.proofs.ListLemmas.{length-filter_flat_map, length-filter_given, member_of_some}

-- ---- as many TPDOs as identifiers

as_many : (p : Content) (id : ℕ) → length (senders_with p id) ≡ length (filter (λ n. n == id) (identifiers p))
unfolding senders_with sends_with identifiers
as_many p id =
    length-filter_flat_map (λ e. map (λ place. (e.0, place)) (filter (sends_with p id e) (pairs_of e.1.sheet.sections)))
    (identifiers_in (numbers_of p)) (λ n. n == id)
    (λ e. length-map (filter (sends_with p id e) (pairs_of e.1.sheet.sections)) (λ place. (e.0, place))
    ∙ length-filter_given (sends_with p id e) (identifier_at (numbers_of p e)) (λ n. n == id) (λ place. refl)
    (pairs_of e.1.sheet.sections))
    (members p)

-- ---- what is found holds

shared_by : (p : Content) (id : ℕ) (d : Diag) → shared_in (identifiers p) id ≡ Some d
    → IsShared p id × (diagnostic SharedIdentifier (of.Cob id) ≡ d)
shared_by p id d h = by (nat_le 2 (length (filter (λ n. n == id) (identifiers p)))) (is_restricted id) refl refl h
  where
    by : (a b : Bool) → nat_le 2 (length (filter (λ n. n == id) (identifiers p))) ≡ a → is_restricted id ≡ b
        → (if a && not b then Some (diagnostic SharedIdentifier (of.Cob id)) else None) ≡ Some d
        → IsShared p id × (diagnostic SharedIdentifier (of.Cob id) ≡ d)
    by true false two free h =
        let same : diagnostic SharedIdentifier (of.Cob id) ≡ d = cc in
        let enough : 2 ≤ length (filter (λ n. n == id) (identifiers p)) =
        leb-true 2 (length (filter (λ n. n == id) (identifiers p))) two in
        ((subst (λ n. 2 ≤ n) (sym (as_many p id)) enough, free), same)
    by true true two free h = cc
    by false b two free h = cc

pub shared_hold : (p : Content) (d : Diag) → Contains (shared_identifiers p) d → Holds p d
unfolding shared_identifiers Holds
shared_hold p d c =
    let one = from_filter_map (shared_in (identifiers p)) (identifiers p) d c in
    let s = shared_by p one.0 d one.2 in
    subst (λ (x : Diag). HoldsOf p x.code x.subject) s.1 s.0

-- ---- what holds is found

pub shared_listed : (p : Content) (id : ℕ) → IsShared p id
    → Contains (shared_identifiers p) (diagnostic SharedIdentifier (of.Cob id))
unfolding shared_identifiers
shared_listed p id h =
    let ids : List ℕ = identifiers p in
    let two : 2 ≤ length (filter (λ n. n == id) ids) = subst (λ n. 2 ≤ n) (as_many p id) h.0 in
    let one = member_of_some (λ n. n == id) ids (omega arith) in
    let same : one.0 ≡ id = eqb-true one.0 id one.2 in
    let test : nat_le 2 (length (filter (λ n. n == id) ids)) ≡ true = le-leb 2 (length (filter (λ n. n == id) ids)) two
    in
    let found : shared_in ids id ≡ Some (diagnostic SharedIdentifier (of.Cob id)) = rw (test, h.1) refl in
    Contains-filter_map (shared_in ids) ids one.0 (diagnostic SharedIdentifier (of.Cob id)) one.1
    (ap (shared_in ids) same ∙ found)
