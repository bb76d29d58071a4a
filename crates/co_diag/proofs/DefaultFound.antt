-- The defaults that spell no value are found.
use Rattle.std.proofs.Common.{◌≡◌, ◌∙◌, ℕ, Bool, true, false, List, Contains, Option, Some, None, refl, ap, subst}
use Rattle.std.specs.Prelude.{if◌then◌else◌, option_and_then}
use Rattle.std.specs.List.{flat_map}
use Rattle.eds_device.specs.Described.{Described, default_text, description_of, kind_at, written_text}
use Rattle.eds_device.specs.Places.{pairs_of}
use Rattle.node_parameters.proofs.WrittenLemmas.{Contains-filter_map, from_filter_map}
use Rattle.co_project.specs.Project.{Content}
use Rattle.project_plan.specs.Doubtful.{spells_none}
use Rattle.project_plan.specs.Network.{Member, members}
use Rattle.diag_lines.specs.declared.code.Code.TheVariants.{Unreadable}
use Rattle.diag_lines.specs.declared.diag.Diag.{Diag}
use Rattle.diag_lines.specs.declared.subject.Subject.TheVariants as of
use Rattle.co_diag.specs.Holds.{HasUnreadableDefault, HoldsOf, Holds}
use Rattle.diag_nodes.specs.Found.{diagnostic, unreadable_default, unreadable_defaults}
use Rattle.co_diag.proofs.ListLemmas.{Contains-flat_map, from_flat_map}
use Rattle.diag_nodes.proofs.MemberLemmas.{described_there, member_found, member_listed}

-- ---- what is found holds

-- the text of what is found
record Unspelled (e : ℕ × Member) (place : ℕ × ℕ) (d : Diag) : Type 0 where
  text : List ℕ
  given : default_text e.1.sheet place.0 place.1 ≡ Some text
  unreadable : spells_none e.0 text (kind_at e.1.sheet place) ≡ true
  is : diagnostic Unreadable (of.Default e.0 place.0 place.1) ≡ d

unspelled_by : (e : ℕ × Member) (place : ℕ × ℕ) (d : Diag) → unreadable_default e place ≡ Some d → Unspelled e place d
unfolding unreadable_default
unspelled_by e place d h = by (default_text e.1.sheet place.0 place.1) refl h
  where
    it : Diag
    it = diagnostic Unreadable (of.Default e.0 place.0 place.1)

    of_test : (text : List ℕ) → default_text e.1.sheet place.0 place.1 ≡ Some text → (none : Bool)
        → spells_none e.0 text (kind_at e.1.sheet place) ≡ none → (if none then Some it else None) ≡ Some d
        → Unspelled e place d
    of_test text given true none h = let same : it ≡ d = cc
        in record { text = text; given = given; unreadable = none; is = same }
    of_test text given false none h = cc

    by : (o : Option (List ℕ)) → default_text e.1.sheet place.0 place.1 ≡ o
        → option_and_then (λ text. if spells_none e.0 text (kind_at e.1.sheet place) then Some it else None) o ≡ Some d
        → Unspelled e place d
    by None given h = cc
    by (Some text) given h = of_test text given (spells_none e.0 text (kind_at e.1.sheet place)) refl h

pub defaults_hold : (p : Content) (d : Diag) → Contains (flat_map unreadable_defaults (members p)) d → Holds p d
unfolding unreadable_defaults Holds
defaults_hold p d c =
    let at = from_flat_map unreadable_defaults (members p) d c in
    let one = from_filter_map (unreadable_default at.0) (pairs_of at.0.1.sheet.sections) d at.2 in
    let u : Unspelled at.0 one.0 d = unspelled_by at.0 one.0 d one.2 in
    let holds : HasUnreadableDefault p at.0.0 one.0.0 one.0.1 =
    record {
      member = at.0.1;
      text = u.text;
      is = member_found p at.0 at.1;
      given = u.given;
      unreadable = u.unreadable;
    } in
    subst (λ (x : Diag). HoldsOf p x.code x.subject) u.is holds

-- ---- what holds is found

default_there : (m : Member) (index sub : ℕ) (text : List ℕ) → default_text m.sheet index sub ≡ Some text
    → Contains (pairs_of m.sheet.sections) (index, sub)
unfolding default_text
default_there m index sub text h = by (description_of m.sheet index sub) refl h
  where
    by : (o : Option Described) → description_of m.sheet index sub ≡ o
        → option_and_then (λ (d : Described). written_text d.default) o ≡ Some text
        → Contains (pairs_of m.sheet.sections) (index, sub)
    by None is h = cc
    by (Some d) is h = described_there m.sheet (index, sub) d is

pub defaults_listed : (p : Content) (node index sub : ℕ) → HasUnreadableDefault p node index sub
    → Contains (flat_map unreadable_defaults (members p)) (diagnostic Unreadable (of.Default node index sub))
unfolding unreadable_defaults unreadable_default
defaults_listed p node index sub h =
    let d : Diag = diagnostic Unreadable (of.Default node index sub) in
    let said : Bool → Option Diag = λ none. if none then Some d else None in
    let found : unreadable_default (node, h.member) (index, sub) ≡ Some d =
    ap (option_and_then (λ (text : List ℕ). said (spells_none node text (kind_at h.member.sheet (index, sub)))))
    h.given ∙ ap said h.unreadable in
    Contains-flat_map unreadable_defaults (members p) (node, h.member)
    (diagnostic Unreadable (of.Default node index sub)) (member_listed p node h.member h.is)
    (Contains-filter_map (unreadable_default (node, h.member)) (pairs_of h.member.sheet.sections) (index, sub)
    (diagnostic Unreadable (of.Default node index sub)) (default_there h.member index sub h.text h.given) found)
