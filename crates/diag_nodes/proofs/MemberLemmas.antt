-- The nodes of a project with their devices, and the places that these have.
use Rattle.std.proofs.Common.{◌≡◌, ℕ, true, false, List, [], ◌∷◌, Contains, filter_map, Bool, Option, Some, None, cond}
use Rattle.std.proofs.Common.{refl, sym, ap, subst, ◌∙◌}
use Rattle.std.specs.Prelude.{option_map, option_and_then}
use Rattle.std.specs.declared.cmp.Ordering.{Ordering}
use Rattle.std.specs.Ordering.{eq_by_cmp}
use Rattle.std.specs.Cmp.{IsTotalOrder}
use Rattle.std.specs.FinMap.{FinMap, entries, find, get, get-entries}
use Rattle.std.specs.Option.{option_map_or}
use Rattle.std.proofs.lemmas.Cmp.{nat_cmp_total}
use Rattle.std.proofs.lemmas.List.Elements.{All-contains}
use Rattle.std.proofs.lemmas.Map.Lookups.{CmpEqualImpliesEq, exact_unsigned}
use Rattle.base.proofs.EachLemmas.{all_entries, each_there}
use Rattle.base.proofs.TableLemmas.{alike}
use Rattle.co_values.specs.declared.form.Width.{Width}
use Rattle.co_values.specs.declared.data_type.DataType.TheVariants.{NotModelled}
use Rattle.eds_device.specs.Described.{Described, description_of, description_by, kind_at, known_as, unless_empty, value_by}
use Rattle.eds_device.specs.Described.{value_text}
use Rattle.eds_device.specs.Origins.{Origin, origin_of}
use Rattle.eds_device.specs.Places.{pairs_of}
use Rattle.eds_device.specs.Sheets.{Sheet}
use Rattle.eds_places.proofs.GivenLemmas.{rules_give}
use Rattle.node_parameters.proofs.WrittenLemmas.{Contains-filter_map, from_filter_map}
use Rattle.pdo_stations.specs.Devices.{is_unsigned}
use Rattle.co_project.specs.declared.node.Node.{Node}
use Rattle.co_project.specs.Project.{Content}
use Rattle.project_plan.specs.Network.{Member, member_at, member_by, members, with_sheet}
use Rattle.diag_lines.proofs.ListLemmas.{Contains-first, Contains-later}

-- ---- tables

module _ {K X : Type 0} {R : K → K → Ordering} (total : IsTotalOrder R) (exact : CmpEqualImpliesEq R) where
  -- what is among the entries is found
  pub at_entry : (m : FinMap R X) (e : K × X) → Contains (entries m) e → get m e.0 ≡ Some e.1
  at_entry m e c = All-contains (λ x. get m x.0 ≡ Some x.1)
      (entries m) e (all_entries total exact (λ k v. get m k ≡ Some v) m (each_there m)) c

  found_among : (es : List (K × X)) (k : K) (v : X) → find R k es ≡ Some v → Contains es (k, v)
  found_among [] k v h = cc
  found_among (e ∷ es) k v h = by (eq_by_cmp R k e.0) refl h (found_among es k v)
    where
      by : (t : Bool) → eq_by_cmp R k e.0 ≡ t → cond t (Some e.1) (find R k es) ≡ Some v
          → (find R k es ≡ Some v → Contains es (k, v)) → Contains (e ∷ es) (k, v)
      by true tie h rest =
          let key : e.0 ≡ k = sym (alike total exact k e.0 tie) in
          let same : e.1 ≡ v = cc in
          let one : ◌≡◌ {A = K × X} e (k, v) = λ i. (key i, same i) in
          subst (λ x. Contains (e ∷ es) x) one (Contains-first e es)
      by false other h rest = Contains-later e es (k, v) (rest h)

  -- what is found is among the entries
  pub entry_of : (m : FinMap R X) (k : K) (v : X) → get m k ≡ Some v → Contains (entries m) (k, v)
  entry_of m k v h = found_among (entries m) k v (sym (get-entries m k) ∙ h)

-- ---- members

pub member_found : (p : Content) (e : ℕ × Member) → Contains (members p) e → member_at p e.0 ≡ Some e.1
unfolding members member_at
member_found p e c =
    let from = from_filter_map (member_by p) (entries p.nodes) e c in
    by from.0 (at_entry nat_cmp_total exact_unsigned p.nodes from.0 from.1) (with_sheet p from.0.1) refl from.2
  where
    by : (x : ℕ × Node) → get p.nodes x.0 ≡ Some x.1 → (o : Option Member) → with_sheet p x.1 ≡ o
        → option_map (λ m. (x.0, m)) o ≡ Some e
        → option_and_then (with_sheet p) (get p.nodes e.0) ≡ Some e.1
    by x there None is h = cc
    by x there (Some m) is h =
        let same : ◌≡◌ {A = ℕ × Member} (x.0, m) e = cc in
        subst (λ (y : ℕ × Member). option_and_then (with_sheet p) (get p.nodes y.0)
        ≡ Some y.1) same (ap (option_and_then (with_sheet p)) there ∙ is)

pub member_listed : (p : Content) (n : ℕ) (m : Member) → member_at p n ≡ Some m → Contains (members p) (n, m)
unfolding members member_at
member_listed p n m h = by (get p.nodes n) refl h
  where
    by : (o : Option Node) → get p.nodes n ≡ o → option_and_then (with_sheet p) o ≡ Some m
        → Contains {X = ℕ × Member} (filter_map (member_by p) (entries p.nodes)) (n, m)
    by None is h = cc
    by (Some node) is h =
        Contains-filter_map (member_by p) (entries p.nodes) (n, node) (n, m)
        (entry_of nat_cmp_total exact_unsigned p.nodes n node is) (ap (option_map (λ m. (n, m))) h)

-- ---- places

module _ (sheet : Sheet) (place : ℕ × ℕ) where
  pub described_there : (d : Described) → description_of sheet place.0 place.1 ≡ Some d → Contains (pairs_of sheet.sections) place
  unfolding description_of
  described_there d h = by (origin_of sheet.sections place.0 place.1) refl h
    where
      by : (o : Option Origin) → origin_of sheet.sections place.0 place.1 ≡ o
          → option_map (λ origin. known_as sheet.is_three (description_by place.1 origin)) o ≡ Some d
          → Contains (pairs_of sheet.sections) place
      by None is h = cc
      by (Some origin) is h = rules_give sheet.sections place.0 place.1 origin is

  pub value_there : (text : List ℕ) → value_text sheet.sections place.0 place.1 ≡ Some text → Contains (pairs_of sheet.sections) place
  unfolding value_text
  value_there text h = by (origin_of sheet.sections place.0 place.1) refl h
    where
      by : (o : Option Origin) → origin_of sheet.sections place.0 place.1 ≡ o
          → option_and_then unless_empty (option_and_then (value_by sheet.sections place.0 place.1) o) ≡ Some text
          → Contains (pairs_of sheet.sections) place
      by None is h = cc
      by (Some origin) is h = rules_give sheet.sections place.0 place.1 origin is

  -- only what is described has a type
  pub unsigned_there : (width : Width) → is_unsigned (kind_at sheet place) width ≡ true
      → Contains (pairs_of sheet.sections) place
  unfolding kind_at
  unsigned_there width h = by (description_of sheet place.0 place.1) refl h
    where
      by : (o : Option Described) → description_of sheet place.0 place.1 ≡ o
          → is_unsigned (option_map_or (λ (d : Described). d.kind) o NotModelled) width ≡ true
          → Contains (pairs_of sheet.sections) place
      by None is h = cc
      by (Some d) is h = described_there d is
