-- What is found of the nodes by their data sheets, and then the rest, is all that is found.
use Rattle.std.proofs.Common.{◌≡◌, ◌↔◌, ◌⊎◌, inl, inr, ℕ, Bool, true, false, cond, List, [], ◌∷◌, ◌++◌, filter, filter_map}
use Rattle.std.proofs.Common.{Contains, Option, Some, None, is_some, refl, sym, ap, subst, ◌∙◌}
use Rattle.std.specs.Prelude.{option_and_then}
use Rattle.std.specs.FinMap.{entries, get}
use Rattle.std.specs.List.{flat_map}
use Rattle.std.specs.Option.{option_or}
use Rattle.std.proofs.lemmas.List.Elements.{Contains-append_cases, Contains-append_left, Contains-append_right}
use Rattle.co_dict.proofs.PlaceLemmas.{places_exact, places_total}
use Rattle.eds_device.specs.Described.{unless_empty}
use Rattle.eds_device.specs.Places.{pairs_of}
use Rattle.node_parameters.specs.Parameters.{given_text, parameter_text}
use Rattle.node_parameters.proofs.WrittenLemmas.{Contains-filter_map, from_filter_map}
use Rattle.co_project.specs.Project.{Content}
use Rattle.project_plan.specs.GivenParameters.{given_places, is_given}
use Rattle.project_plan.specs.Network.{Member, members, plan_of_project}
use Rattle.diag_lines.specs.declared.diag.Diag.{Diag}
use Rattle.diag_lines.specs.Order.{diag_cmp}
use Rattle.diag_lines.specs.Sets.{sorted_set}
use Rattle.diag_lines.proofs.ListLemmas.{Contains-first, Contains-later, Contains-cases}
use Rattle.co_diag.specs.Found.{diagnostics_found, diagnostics_of, idle_event, message_faults, message_warnings}
use Rattle.co_diag.specs.Found.{other_counters, other_heartbeats}
use Rattle.diag_nodes.specs.Found.{parameter_diagnostic}
use Rattle.co_diag.specs.Found.{shared_identifiers, skipped_lines, unfit_consumers, unfit_event}
use Rattle.co_diag.specs.Found.{unfit_parameters, vendor_findings}
use Rattle.diag_nodes.specs.Found.{unreadable_defaults}
use Rattle.co_diag.specs.Sheets.{diagnostics_met}
use Rattle.diag_nodes.specs.Sheets.{faults_of_node}
use Rattle.co_diag.proofs.FoundLemmas.{collected}
use Rattle.co_diag.proofs.ListLemmas.{Contains-flat_map, from_flat_map}
use Rattle.diag_nodes.proofs.MemberLemmas.{entry_of}
use Rattle.co_diag.proofs.ParameterFound.{Unfit, unfit_by}

-- ---- elements that pass

module _ {X : Type 0} (p : X → Bool) where
  passed : (xs : List X) (x : X) → Contains (filter p xs) x → Contains xs x
  passed [] x c = c
  passed (y ∷ xs) x c = by (p y) c (passed xs x)
    where
      by : (b : Bool) → Contains (cond b (y ∷ filter p xs) (filter p xs)) x → (Contains (filter p xs) x → Contains xs x)
          → Contains (y ∷ xs) x
      by true c rest = on (Contains-cases y (filter p xs) x c)
        where
          on : (y ≡ x) ⊎ Contains (filter p xs) x → Contains (y ∷ xs) x
          on (inl is) = subst (λ z. Contains (y ∷ xs) z) is (Contains-first y xs)
          on (inr d) = Contains-later y xs x (rest d)
      by false c rest = Contains-later y xs x (rest c)

  passes : (xs : List X) (x : X) → Contains xs x → p x ≡ true → Contains (filter p xs) x
  passes [] x c t = c
  passes (y ∷ xs) x c t = on (Contains-cases y xs x c) (λ d. passes xs x d t)
    where
      later : (b : Bool) → Contains (filter p xs) x → Contains (cond b (y ∷ filter p xs) (filter p xs)) x
      later true d = Contains-later y (filter p xs) x d
      later false d = d

      on : (y ≡ x) ⊎ Contains xs x → (Contains xs x → Contains (filter p xs) x)
          → Contains (cond (p y) (y ∷ filter p xs) (filter p xs)) x
      on (inl is) rest = subst (λ (z : X). Contains (cond (p y) (y ∷ filter p xs) (filter p xs)) z) is
          (subst (λ (b : Bool). Contains (cond b (y ∷ filter p xs) (filter p xs)) y) (sym (ap p is ∙ t))
          (Contains-first y (filter p xs)))
      on (inr d) rest = later (p y) (rest d)

-- ---- one node

-- what is found of a node by its data sheet, and what is found of it
module _ (e : ℕ × Member) (d : Diag) where
  abbrev own_ones : List Diag
  own_ones = filter_map (λ own. parameter_diagnostic e own.0) (entries e.1.node.params)

  abbrev given_ones : List Diag
  given_ones = filter_map (parameter_diagnostic e) (given_places e.1.sheet.sections)

  abbrev all_ones : List Diag
  all_ones = filter_map (parameter_diagnostic e) (pairs_of e.1.sheet.sections)

  of_given : Contains given_ones d → Contains all_ones d
  of_given c =
      let one = from_filter_map (parameter_diagnostic e) (given_places e.1.sheet.sections) d c in
      Contains-filter_map (parameter_diagnostic e) (pairs_of e.1.sheet.sections) one.0 d
      (passed (is_given e.1.sheet.sections) (pairs_of e.1.sheet.sections) one.0 one.1) one.2

  pub fault_found : Contains (faults_of_node e) d → Contains (unfit_parameters e) d
  unfolding faults_of_node unfit_parameters
  fault_found c = on (Contains-append_cases own_ones given_ones d c)
    where
      on : Contains own_ones d ⊎ Contains given_ones d → Contains (own_ones ++ all_ones) d
      on (inl own) = Contains-append_left own_ones all_ones d own
      on (inr given) = Contains-append_right own_ones all_ones d (of_given given)

  -- a parameter is the node's own, or its data sheet gives it
  at_place : (place : ℕ × ℕ) → Contains (pairs_of e.1.sheet.sections) place → parameter_diagnostic e place ≡ Some d
      → Contains (own_ones ++ given_ones) d
  unfolding parameter_text
  at_place place there found = by (get e.1.node.params place) refl u.given
    where
      u : Unfit e place d
      u = unfit_by e place d found

      some_given : (o : Option (List ℕ)) (text : List ℕ) → option_and_then unless_empty o ≡ Some text → is_some o ≡ true
      some_given None text h = cc
      some_given (Some value) text h = refl

      by : (o : Option (List ℕ)) → get e.1.node.params place ≡ o
          → option_and_then unless_empty (option_or o (given_text e.1.sheet.sections place)) ≡ Some u.text
          → Contains (own_ones ++ given_ones) d
      by (Some own) is g = Contains-append_left own_ones given_ones d
          (Contains-filter_map (λ own. parameter_diagnostic e own.0) (entries e.1.node.params) (place, own) d
          (entry_of places_total places_exact e.1.node.params place own is) found)
      by None is g = Contains-append_right own_ones given_ones d
          (Contains-filter_map (parameter_diagnostic e) (given_places e.1.sheet.sections) place d
          (passes (is_given e.1.sheet.sections) (pairs_of e.1.sheet.sections) place there
          (some_given (given_text e.1.sheet.sections place) u.text g)) found)

  pub fault_met : Contains (unfit_parameters e) d → Contains (faults_of_node e) d
  unfolding faults_of_node unfit_parameters
  fault_met c = by (Contains-append_cases own_ones all_ones d c)
    where
      by : Contains own_ones d ⊎ Contains all_ones d → Contains (own_ones ++ given_ones) d
      by (inl own) = Contains-append_left own_ones given_ones d own
      by (inr all) = let one = from_filter_map (parameter_diagnostic e) (pairs_of e.1.sheet.sections) d all
          in at_place one.0 one.1 one.2

-- ---- all nodes

nodes_same : (es : List (ℕ × Member)) (d : Diag)
    → Contains (flat_map faults_of_node es) d ↔ Contains (flat_map unfit_parameters es) d
nodes_same es d = (there, back)
  where
    there : Contains (flat_map faults_of_node es) d → Contains (flat_map unfit_parameters es) d
    there c = let one = from_flat_map faults_of_node es d c
        in Contains-flat_map unfit_parameters es one.0 d one.1 (fault_found one.0 d one.2)

    back : Contains (flat_map unfit_parameters es) d → Contains (flat_map faults_of_node es) d
    back c = let one = from_flat_map unfit_parameters es d c
        in Contains-flat_map faults_of_node es one.0 d one.1 (fault_met one.0 d one.2)

-- ---- all that is found

-- lists with the same elements have them with the same list behind them
same_before : (xs ys zs : List Diag) (d : Diag) → Contains xs d ↔ Contains ys d
    → Contains (xs ++ zs) d ↔ Contains (ys ++ zs) d
same_before xs ys zs d same =
    (λ c. on xs ys same.0 (Contains-append_cases xs zs d c), λ c. on ys xs same.1 (Contains-append_cases ys zs d c))
  where
    on : (these those : List Diag) → (Contains these d → Contains those d) → Contains these d ⊎ Contains zs d → Contains (those ++ zs) d
    on these those f (inl c) = Contains-append_left those zs d (f c)
    on these those f (inr c) = Contains-append_right those zs d c

same_found : (p : Content) (d : Diag) → Contains (diagnostics_met p) d ↔ Contains (diagnostics_found p) d
unfolding diagnostics_met diagnostics_found
same_found p d =
    same_before _ _ (vendor_findings p) d
    (same_before _ _ (flat_map skipped_lines (entries p.texts)) d
    (same_before _ _ (filter_map (idle_event p) (entries p.events)) d
    (same_before _ _ (filter_map (unfit_event p) (entries p.events)) d
    (same_before _ _ (flat_map (message_warnings p) (entries p.messages)) d
    (same_before _ _ (flat_map message_faults (plan_of_project p)) d
    (same_before _ _ (other_heartbeats p) d
    (same_before _ _ (other_counters p) d
    (same_before _ _ (shared_identifiers p) d
    (same_before _ _ (unfit_consumers p) d
    (same_before (flat_map faults_of_node (members p)) (flat_map unfit_parameters (members p))
    (flat_map unreadable_defaults (members p)) d
    (nodes_same (members p) d)))))))))))

pub met_is : (p : Content) → sorted_set diag_cmp (diagnostics_met p) ≡ diagnostics_of p
met_is p = collected p (diagnostics_met p) (same_found p)
