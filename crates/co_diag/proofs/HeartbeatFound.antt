-- The producer heartbeat time of the device that the manager runs in is found where it isn't the manager's.
use Rattle.std.proofs.Common.{◌≡◌, ◌∙◌, ◌==◌, ◌&&◌, ◌⊎◌, inl, inr, not, ℕ, Bool, true, false, [], ◌∷◌, Contains, Option, Some}
use Rattle.std.proofs.Common.{None, refl, ap, subst}
use Rattle.std.specs.Prelude.{if◌then◌else◌, option_and_then}
use Rattle.node_parameters.proofs.WrittenLemmas.{Contains-filter_map, from_filter_map}
use Rattle.co_project.specs.Project.{Content, is_controller}
use Rattle.project_plan.specs.Network.{Member, member_at, members}
use Rattle.project_plan.specs.Values.{number_after}
use Rattle.diag_lines.specs.declared.code.Code.TheVariants.{OtherHeartbeat}
use Rattle.diag_lines.specs.declared.diag.Diag.{Diag}
use Rattle.diag_lines.specs.declared.subject.Subject.TheVariants as of
use Rattle.diag_lines.proofs.ListLemmas.{Contains-nil, Contains-first, Contains-cases}
use Rattle.co_diag.specs.Found.{heartbeat_diagnostic, other_heartbeats}
use Rattle.diag_nodes.specs.Found.{diagnostic, times}
use Rattle.co_diag.specs.Holds.{HasOtherHeartbeat, HoldsOf, Holds}
use Rattle.diag_nodes.specs.Rules.{heartbeat_time, numbers_of, times_in}
use Rattle.co_diag.proofs.ListLemmas.{Contains-flat_map, from_flat_map}
use Rattle.diag_nodes.proofs.MemberLemmas.{member_found, member_listed}

-- ---- what is found holds

-- the time of a node
time_of : (own t : ℕ × Option ℕ) → Contains (own ∷ []) t → (own.1 ≡ t.1) × (own.0 ≡ t.0)
time_of own t there = by (Contains-cases own [] t there)
  where
    by : (own ≡ t) ⊎ Contains [] t → (own.1 ≡ t.1) × (own.0 ≡ t.0)
    by (inl same) = (ap (λ (x : ℕ × Option ℕ). x.1) same, ap (λ (x : ℕ × Option ℕ). x.0) same)
    by (inr there) = absurd (Contains-nil t there)

-- it is another than the manager's, at the device that the manager runs in
record Other (p : Content) (node : ℕ) (o : Option ℕ) (d : Diag) : Type 0 where
  time : ℕ
  own : is_controller p node ≡ true
  there : o ≡ Some time
  other : (time == p.manager.heartbeat_ms) ≡ false
  is : diagnostic OtherHeartbeat (of.Node node None) ≡ d

other_by : (p : Content) (node : ℕ) (o : Option ℕ) (d : Diag) → heartbeat_diagnostic p (node, o) ≡ Some d
    → Other p node o d
other_by p node None d h = cc
other_by p node (Some time) d h = by (is_controller p node) (time == p.manager.heartbeat_ms) refl refl h
  where
    it : Diag
    it = diagnostic OtherHeartbeat (of.Node node None)

    by : (own same : Bool) → is_controller p node ≡ own → (time == p.manager.heartbeat_ms) ≡ same
        → (if own && not same then Some it else None) ≡ Some d → Other p node (Some time) d
    by true false own other h =
        let same : it ≡ d = cc in
        record { time = time; own = own; there = refl; other = other; is = same }
    by true true own same h = cc
    by false t own other h = cc

pub heartbeats_hold : (p : Content) (d : Diag) → Contains (other_heartbeats p) d → Holds p d
unfolding other_heartbeats times Holds
heartbeats_hold p d c =
    let one = from_filter_map (heartbeat_diagnostic p) (times p) d c in
    let at = from_flat_map (times_in (numbers_of p)) (members p) one.0 one.1 in
    let own = time_of (at.0.0, heartbeat_time (numbers_of p at.0)) one.0 at.2 in
    let other : Other p one.0.0 one.0.1 d = other_by p one.0.0 one.0.1 d one.2 in
    let holds : HasOtherHeartbeat p one.0.0 = record {
      member = at.0.1;
      time = other.time;
      is = subst (λ (n : ℕ). member_at p n ≡ Some at.0.1) own.1 (member_found p at.0 at.1);
      own = other.own;
      there = subst (λ (n : ℕ). heartbeat_time (number_after p at.0.1 n) ≡ one.0.1) own.1 own.0 ∙ other.there;
      other = other.other;
    } in
    subst (λ (x : Diag). HoldsOf p x.code x.subject) other.is holds

-- ---- what holds is found

pub heartbeats_listed : (p : Content) (node : ℕ) → HasOtherHeartbeat p node
    → Contains (other_heartbeats p) (diagnostic OtherHeartbeat (of.Node node None))
unfolding other_heartbeats times
heartbeats_listed p node h =
    Contains-filter_map (heartbeat_diagnostic p) (times p) t d
    (Contains-flat_map (times_in (numbers_of p)) (members p) e t (member_listed p node h.member h.is)
    (Contains-first t []))
    said
  where
    e : ℕ × Member
    e = (node, h.member)

    t : ℕ × Option ℕ
    t = (node, heartbeat_time (numbers_of p e))

    d : Diag
    d = diagnostic OtherHeartbeat (of.Node node None)

    said : heartbeat_diagnostic p t ≡ Some d
    said = ap (option_and_then (λ time. if is_controller p node && not (time == p.manager.heartbeat_ms) then Some d
        else None)) h.there
        ∙ (λ i. if h.own i && not (h.other i) then Some d else None)
