-- The parameters with a fault are found.
use Rattle.std.proofs.Common.{◌≡◌, ◌⊎◌, inl, inr, ℕ, Bool, true, false, List, ◌++◌, Contains, Option, Some, None}
use Rattle.std.proofs.Common.{Result, Ok, Err, refl, subst}
use Rattle.std.specs.Prelude.{filter_map, if◌then◌else◌, option_map, option_and_then}
use Rattle.std.specs.FinMap.{entries, get}
use Rattle.std.specs.List.{flat_map}
use Rattle.std.specs.Option.{option_or}
use Rattle.std.specs.Result.{result_err}
use Rattle.std.proofs.lemmas.List.Elements.{Contains-append_cases, Contains-append_left, Contains-append_right}
use Rattle.co_dict.proofs.PlaceLemmas.{places_exact, places_total}
use Rattle.cia301.specs.PdoObjects.{is_of_pdos}
use Rattle.eds_device.specs.Described.{unless_empty, value_text}
use Rattle.eds_device.specs.Entries.{entry_at}
use Rattle.eds_device.specs.Places.{pairs_of}
use Rattle.node_parameters.specs.declared.parameter_fault.ParameterFault.{ParameterFault}
use Rattle.node_parameters.specs.declared.parameter_fault.ParameterFault.TheVariants as parameter
use Rattle.node_parameters.specs.Judgement.{parameter_bytes}
use Rattle.node_parameters.specs.Parameters.{given_text, parameter_text}
use Rattle.node_parameters.proofs.WrittenLemmas.{Contains-filter_map, from_filter_map}
use Rattle.co_project.specs.Project.{Content}
use Rattle.project_plan.specs.Network.{Member, member_at, members}
use Rattle.diag_lines.specs.declared.diag.Diag.{Diag}
use Rattle.diag_lines.specs.declared.subject.Subject.TheVariants as of
use Rattle.diag_nodes.specs.Codes.{parameter_code}
use Rattle.co_diag.specs.Holds.{HasUnfitParameter, HoldsOf, Holds}
use Rattle.diag_nodes.specs.Found.{diagnostic, parameter_diagnostic}
use Rattle.co_diag.specs.Found.{unfit_parameters}
use Rattle.co_diag.proofs.ListLemmas.{Contains-flat_map, from_flat_map}
use Rattle.diag_nodes.proofs.MemberLemmas.{entry_of, member_found, member_listed, value_there}

-- ---- what is found holds

-- the text and the fault of what is found
pub record Unfit (e : ℕ × Member) (place : ℕ × ℕ) (d : Diag) : Type 0 where
  pub fault : ParameterFault
  pub text : List ℕ
  pub given : parameter_text e.1.sheet.sections e.1.node.params place ≡ Some text
  pub fails : parameter_bytes (entry_at e.1.sheet e.0 place.0 place.1) text e.0 ≡ Err fault
  pub is : diagnostic (parameter_code fault) (of.Param e.0 place.0 place.1) ≡ d

pub unfit_by : (e : ℕ × Member) (place : ℕ × ℕ) (d : Diag) → parameter_diagnostic e place ≡ Some d → Unfit e place d
unfolding parameter_diagnostic
unfit_by e place d h = with (parameter_text e.1.sheet.sections e.1.node.params place) refl h
  where
    judge : List ℕ → Result (List ℕ) ParameterFault
    judge text = parameter_bytes (entry_at e.1.sheet e.0 place.0 place.1) text e.0

    of_fault : ParameterFault → Diag
    of_fault fault = diagnostic (parameter_code fault) (of.Param e.0 place.0 place.1)

    by : (text : List ℕ) → parameter_text e.1.sheet.sections e.1.node.params place ≡ Some text
        → (r : Result (List ℕ) ParameterFault) → judge text ≡ r
        → option_map of_fault (result_err r) ≡ Some d → Unfit e place d
    by text given (Ok bytes) j h = cc
    by text given (Err fault) j h = let same : of_fault fault ≡ d = cc
        in record { fault = fault; text = text; given = given; fails = j; is = same }

    with : (o : Option (List ℕ)) → parameter_text e.1.sheet.sections e.1.node.params place ≡ o
        → option_map of_fault (option_and_then (λ text. result_err (judge text)) o) ≡ Some d → Unfit e place d
    with None given h = cc
    with (Some text) given h = by text given (judge text) refl h

-- each fault of a parameter has its code
of_code : (p : Content) (fault : ParameterFault) (node index sub : ℕ) → HasUnfitParameter p fault node index sub
    → HoldsOf p (parameter_code fault) (of.Param node index sub)
of_code p parameter.NoEntry node index sub h = h
of_code p parameter.NotModelled node index sub h = h
of_code p parameter.NotWritable node index sub h = h
of_code p parameter.Unreadable node index sub h = h
of_code p parameter.OutsideLimits node index sub h = h

unfit_holds : (p : Content) (e : ℕ × Member) (place : ℕ × ℕ) (d : Diag) → member_at p e.0 ≡ Some e.1
    → parameter_diagnostic e place ≡ Some d → Holds p d
unfolding Holds
unfit_holds p e place d is h =
    let u : Unfit e place d = unfit_by e place d h in
    let holds : HasUnfitParameter p u.fault e.0 place.0 place.1 =
    record { member = e.1; text = u.text; is = is; given = u.given; fails = u.fails } in
    subst (λ (x : Diag). HoldsOf p x.code x.subject) u.is (of_code p u.fault e.0 place.0 place.1 holds)

pub parameters_hold : (p : Content) (d : Diag) → Contains (flat_map unfit_parameters (members p)) d → Holds p d
unfolding unfit_parameters
parameters_hold p d c =
    let at = from_flat_map unfit_parameters (members p) d c in
    by at.0 (member_found p at.0 at.1)
    (Contains-append_cases (filter_map (λ own. parameter_diagnostic at.0 own.0) (entries at.0.1.node.params))
    (filter_map (parameter_diagnostic at.0) (pairs_of at.0.1.sheet.sections)) d at.2)
  where
    by : (e : ℕ × Member) → member_at p e.0 ≡ Some e.1
        → Contains (filter_map (λ own. parameter_diagnostic e own.0) (entries e.1.node.params)) d
        ⊎ Contains (filter_map (parameter_diagnostic e) (pairs_of e.1.sheet.sections)) d → Holds p d
    by e is (inl own) = let one = from_filter_map (λ own. parameter_diagnostic e own.0) (entries e.1.node.params) d own
        in unfit_holds p e one.0.0 d is one.2
    by e is (inr given) = let one = from_filter_map (parameter_diagnostic e) (pairs_of e.1.sheet.sections) d given
        in unfit_holds p e one.0 d is one.2

-- ---- what holds is found

-- a text that isn't the node's own is one of its device
given_there : (m : Member) (place : ℕ × ℕ) (text : List ℕ)
    → option_and_then unless_empty (given_text m.sheet.sections place) ≡ Some text → Contains (pairs_of m.sheet.sections) place
given_there m place text h = by (is_of_pdos place.0) h
  where
    with : (o : Option (List ℕ)) → value_text m.sheet.sections place.0 place.1 ≡ o
        → option_and_then unless_empty o ≡ Some text → Contains (pairs_of m.sheet.sections) place
    with None is h = cc
    with (Some value) is h = value_there m.sheet place value is

    by : (b : Bool) → option_and_then unless_empty (if b then None else value_text m.sheet.sections place.0 place.1)
        ≡ Some text → Contains (pairs_of m.sheet.sections) place
    by true h = cc
    by false h = with (value_text m.sheet.sections place.0 place.1) refl h

pub parameters_listed : (p : Content) (fault : ParameterFault) (node index sub : ℕ)
    → HasUnfitParameter p fault node index sub
    → Contains (flat_map unfit_parameters (members p)) (diagnostic (parameter_code fault) (of.Param node index sub))
unfolding unfit_parameters parameter_diagnostic parameter_text
parameters_listed p fault node index sub h =
    Contains-flat_map unfit_parameters (members p) e d (member_listed p node h.member h.is)
    (among (get h.member.node.params place) refl h.given)
  where
    e : ℕ × Member
    e = (node, h.member)

    place : ℕ × ℕ
    place = (index, sub)

    d : Diag
    d = diagnostic (parameter_code fault) (of.Param node index sub)

    found : parameter_diagnostic e place ≡ Some d
    found = rw (h.given, h.fails) refl

    own_ones : List Diag
    own_ones = filter_map (λ own. parameter_diagnostic e own.0) (entries h.member.node.params)

    given_ones : List Diag
    given_ones = filter_map (parameter_diagnostic e) (pairs_of h.member.sheet.sections)

    among : (o : Option (List ℕ)) → get h.member.node.params place ≡ o
        → option_and_then unless_empty (option_or o (given_text h.member.sheet.sections place)) ≡ Some h.text
        → Contains (own_ones ++ given_ones) d
    among (Some own) is g =
        Contains-append_left own_ones given_ones d
        (Contains-filter_map (λ own. parameter_diagnostic e own.0) (entries h.member.node.params)
        (place, own) d (entry_of places_total places_exact h.member.node.params place own is) found)
    among None is g =
        Contains-append_right own_ones given_ones d
        (Contains-filter_map (parameter_diagnostic e)
        (pairs_of h.member.sheet.sections) place d (given_there h.member place h.text g) found)
