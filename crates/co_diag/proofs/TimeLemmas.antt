-- The times of the producers that heartbeat consumers wait for, and what is found by what is kept of nodes.
use Rattle.std.proofs.Common.{◌≡◌, ◌==◌, ◌⊎◌, inl, inr, ℕ, Bool, true, false, cond, List, [], ◌∷◌, ◌++◌, filter_map}
use Rattle.std.proofs.Common.{Contains, Option, Some, None, is_some, refl, sym, ap, subst, ◌∙◌}
use Rattle.std.specs.Prelude.{◌&&◌, if◌then◌else◌, option_map}
use Rattle.std.specs.List.{find, flat_map}
use Rattle.std.specs.Option.{unwrap_or}
use Rattle.std.proofs.lemmas.Bool.{eq-eqb, eqb-true}
use Rattle.co_project.specs.Project.{Content, is_controller}
use Rattle.project_plan.specs.Network.{Member, member_at, members}
use Rattle.project_plan.specs.Values.{number_after}
use Rattle.diag_lines.specs.declared.diag.Diag.{Diag}
use Rattle.diag_lines.proofs.ListLemmas.{Contains-nil, Contains-first, Contains-later, Contains-cases}
use Rattle.diag_nodes.specs.declared.consumer.HeartbeatConsumer.{HeartbeatConsumer}
use Rattle.co_diag.specs.Found.{consumer_diagnostic, counter_diagnostic, heartbeat_diagnostic, other_counters}
use Rattle.co_diag.specs.Found.{other_heartbeats}
use Rattle.diag_nodes.specs.Found.{consumers, counters, identifiers, times}
use Rattle.co_diag.specs.Found.{shared_identifiers, shared_in, unfit_consumers}
use Rattle.co_diag.specs.Holds.{producer_time, time_of_node}
use Rattle.co_diag.specs.Times.{times_heard}
use Rattle.diag_nodes.specs.Kept.{time_among}
use Rattle.diag_nodes.specs.Rules.{heartbeat_time, numbers_of, times_in}
use Rattle.co_diag.specs.Rules.{time_by}
use Rattle.diag_nodes.proofs.MemberLemmas.{member_found, member_listed}

-- ---- the time of a node

module _ (node : ℕ) where
  abbrev is_of : ℕ × Member → Bool
  is_of e = e.0 == node

  of_found : (es : List (ℕ × Member)) (e : ℕ × Member) → find is_of es ≡ Some e → Contains es e × (e.0 ≡ node)
  of_found [] e h = cc
  of_found (x ∷ es) e h = by (x.0 == node) refl h (of_found es e)
    where
      further : Contains es e × (e.0 ≡ node) → Contains (x ∷ es) e × (e.0 ≡ node)
      further (c, same) = (Contains-later x es e c, same)

      by : (t : Bool) → (x.0 == node) ≡ t → cond t (Some x) (find is_of es) ≡ Some e
          → (find is_of es ≡ Some e → Contains es e × (e.0 ≡ node)) → Contains (x ∷ es) e × (e.0 ≡ node)
      by true same h rest =
          let one : ◌≡◌ {A = ℕ × Member} x e = cc in
          subst (λ (y : ℕ × Member). Contains (x ∷ es) y × (y.0 ≡ node)) one (
            Contains-first x es,
            eqb-true x.0 node same,
          )
      by false other h rest = further (rest h)

  listed : (es : List (ℕ × Member)) (e : ℕ × Member) → Contains es e → e.0 ≡ node → is_some (find is_of es) ≡ true
  listed [] e c same = absurd (Contains-nil e c)
  listed (x ∷ es) e c same = by (x.0 == node) refl (Contains-cases x es e c) (λ d. listed es e d same)
    where
      by : (t : Bool) → (x.0 == node) ≡ t → (x ≡ e) ⊎ Contains es e → (Contains es e → is_some (find is_of es) ≡ true)
          → is_some (cond t (Some x) (find is_of es)) ≡ true
      by true is d rest = refl
      by false other (inr d) rest = rest d
      by false other (inl is) rest =
          let key : x.0 ≡ node = ap (λ (y : ℕ × Member). y.0) is ∙ same in
          let tie : (x.0 == node) ≡ true = eq-eqb x.0 node key in
          cc

  member_is : (p : Content) → find is_of (members p) ≡ option_map (λ m. (node, m)) (member_at p node)
  member_is p = by (find is_of (members p)) refl (member_at p node) refl
    where
      by : (f : Option (ℕ × Member)) → find is_of (members p) ≡ f → (o : Option Member) → member_at p node ≡ o
          → f ≡ option_map (λ m. (node, m)) o
      by (Some e) found o there =
          let at = of_found (members p) e found in
          let same : member_at p node ≡ Some e.1 = subst (λ n. member_at p n ≡ Some e.1) at.1 (member_found p e at.0) in
          let known : o ≡ Some e.1 = sym there ∙ same in
          let key : e.0 ≡ node = at.1 in
          let one : ◌≡◌ {A = ℕ × Member} e (node, e.1) = λ i. (key i, e.1) in
          ap Some one ∙ ap (option_map (λ m. (node, m))) (sym known)
      by None found None there = refl
      by None found (Some m) there =
          let some : is_some (find is_of (members p)) ≡ true = listed (members p) (node, m)
          (member_listed p node m there) refl in
          cc

  module _ (p : Content) where
    abbrev time_of : ℕ × Member → Option ℕ
    time_of e = heartbeat_time (numbers_of p e)

    time_found : (es : List (ℕ × Member)) → find (λ t. t.0 == node) (flat_map (times_in (numbers_of p)) es)
        ≡ option_map (λ e. (e.0, time_of e)) (find is_of es)
    time_found [] = refl
    time_found (e ∷ es) = by (e.0 == node) (time_found es)
      where
        by : (t : Bool) → find (λ t. t.0 == node) (flat_map (times_in (numbers_of p)) es)
            ≡ option_map (λ e. (e.0, time_of e)) (find is_of es)
            → cond t (Some (e.0, time_of e)) (find (λ t. t.0 == node) (flat_map (times_in (numbers_of p)) es))
            ≡ option_map (λ e. (e.0, time_of e)) (cond t (Some e) (find is_of es))
        by true rest = refl
        by false rest = rest

    -- by those of all nodes
    time_is : time_by p.manager (time_among (times p)) node ≡ time_by p.manager (time_of_node p) node
    unfolding times
    time_is =
        ap (λ o. if node == p.manager.id then Some p.manager.heartbeat_ms
        else option_map (λ (t : ℕ × Option ℕ). unwrap_or t.1 0) o) (time_found (members p) ∙ ap (option_map (λ e. (e.0, time_of e))) (member_is p))
        ∙ ap (λ o. if node == p.manager.id then Some p.manager.heartbeat_ms else o) (by (member_at p node))
      where
        by : (o : Option Member) → option_map (λ (t : ℕ × Option ℕ). unwrap_or t.1 0)
            (option_map (λ e. (e.0, time_of e)) (option_map (λ m. (node, m)) o))
            ≡ option_map (λ m. unwrap_or (heartbeat_time (number_after p m node)) 0) o
        by None = refl
        by (Some m) = refl

-- as a device hears it
heard_is : (p : Content) (device node : ℕ) → times_heard p (times p) device node ≡ producer_time p device node
unfolding producer_time
heard_is p device node = ap (λ o. if is_controller p device && (node == device) then None else o) (time_is node p)

-- ---- what is found

consumers_found : (p : Content) (ts : List (ℕ × Option ℕ)) (cs : List HeartbeatConsumer) → ts ≡ times p
    → cs ≡ consumers p → filter_map (consumer_diagnostic (times_heard p ts)) cs ≡ unfit_consumers p
unfolding unfit_consumers
consumers_found p ts cs same are =
    (λ i. filter_map (consumer_diagnostic (times_heard p (same i))) (are i))
    ∙ (λ i. filter_map (consumer_diagnostic (λ device node. heard_is p device node i)) (consumers p))

pub counters_found : (p : Content) (ids : List ℕ) (ts : List (ℕ × Option ℕ)) (cs : List HeartbeatConsumer)
    (ns : List (ℕ × ℕ)) (old first second new : List Diag) → ids ≡ identifiers p → ts ≡ times p → cs ≡ consumers p
    → ns ≡ counters p → first ≡ old ++ filter_map (consumer_diagnostic (times_heard p ts)) cs
    → second ≡ first ++ filter_map (shared_in ids) ids
    → new ≡ second ++ filter_map (counter_diagnostic p.sync_counter) ns
    → new ≡ old ++ unfit_consumers p ++ shared_identifiers p ++ other_counters p
unfolding shared_identifiers other_counters
counters_found p ids ts cs ns old first second new are_ids are_times are_consumers are_counters one two three =
    three
    ∙ ap (λ (ds : List Diag). ds ++ filter_map (counter_diagnostic p.sync_counter) ns)
    (two
    ∙ ap (λ (ds : List Diag). ds ++ filter_map (shared_in ids) ids)
    (one ∙ ap (λ (ds : List Diag). old ++ ds) (consumers_found p ts cs are_times are_consumers))
    ∙ ap (λ (xs : List ℕ). old ++ unfit_consumers p ++ filter_map (shared_in xs) xs) are_ids)
    ∙ ap (λ (xs : List (ℕ × ℕ)). old ++ unfit_consumers p ++ filter_map (shared_in (identifiers p)) (identifiers p)
    ++ filter_map (counter_diagnostic p.sync_counter) xs) are_counters

-- and the heartbeats behind these
pub heartbeats_found : (p : Content) (ts : List (ℕ × Option ℕ)) (before old new : List Diag) → ts ≡ times p
    → before ≡ old ++ unfit_consumers p ++ shared_identifiers p ++ other_counters p
    → new ≡ before ++ filter_map (heartbeat_diagnostic p) ts
    → new ≡ old ++ unfit_consumers p ++ shared_identifiers p ++ other_counters p ++ other_heartbeats p
unfolding other_heartbeats
heartbeats_found p ts before old new are_times so_far now =
    now ∙ (λ i. so_far i ++ filter_map (heartbeat_diagnostic p) (are_times i))
