-- The heartbeat consumers that are unfit are found.
use Rattle.std.proofs.Common.{◌≡◌, ◌∙◌, ◌&&◌, ℕ, Bool, true, false, Contains, Option, Some, None, refl, sym, ap, subst}
use Rattle.std.specs.Prelude.{◌==◌, if◌then◌else◌, nat_le, option_map}
use Rattle.std.specs.FinMap.{get}
use Rattle.std.proofs.lemmas.Bool.{eqb-true}
use Rattle.byteorder.specs.Endian.{little_number}
use Rattle.co_values.specs.declared.form.Width.{Width}
use Rattle.co_values.specs.declared.form.Width.TheVariants.{Bits32}
use Rattle.co_values.specs.Types.{octets}
use Rattle.eds_device.specs.Described.{kind_at}
use Rattle.eds_device.specs.Places.{pairs_of}
use Rattle.node_parameters.proofs.WrittenLemmas.{Contains-filter_map, from_filter_map}
use Rattle.pdo_stations.specs.Devices.{is_unsigned}
use Rattle.co_project.specs.Project.{Content}
use Rattle.project_plan.specs.Network.{Member, member_at, members}
use Rattle.project_plan.specs.Values.{Numbers, number_after, values_after}
use Rattle.diag_lines.specs.declared.code.Code.TheVariants.{UnfitConsumer}
use Rattle.diag_lines.specs.declared.diag.Diag.{Diag}
use Rattle.diag_lines.specs.declared.subject.Subject.TheVariants as of
use Rattle.diag_nodes.specs.declared.consumer.HeartbeatConsumer.{HeartbeatConsumer}
use Rattle.co_diag.specs.Holds.{HasUnfitConsumer, HoldsOf, Holds, producer_time}
use Rattle.co_diag.specs.Found.{consumer_diagnostic, unfit_consumers}
use Rattle.diag_nodes.specs.Found.{consumers, diagnostic}
use Rattle.diag_nodes.specs.Rules.{consumer_at, consumer_of, consumers_in, numbers_of, with_value}
use Rattle.co_diag.specs.Rules.{is_unfit}
use Rattle.co_diag.proofs.ListLemmas.{Contains-flat_map, from_flat_map}
use Rattle.diag_nodes.proofs.MemberLemmas.{member_found, member_listed, unsigned_there}

-- ---- what is found holds

-- the entry of a consumer
consumer_by : (numbers : Numbers) (node : ℕ) (place : ℕ × ℕ) (c : HeartbeatConsumer)
    → consumer_of numbers node place ≡ Some c → (consumer_at numbers (0x1016, c.sub) ≡ Some c.number) × (node ≡ c.node)
consumer_by numbers node place c h = by (place.0 == 0x1016) (nat_le 1 place.1) (numbers Bits32 place) refl refl refl h
  where
    by : (s t : Bool) (o : Option ℕ) → (place.0 == 0x1016) ≡ s → nat_le 1 place.1 ≡ t → numbers Bits32 place ≡ o
        → option_map (with_value node place.1) (if s && t then o else None) ≡ Some c
        → (consumer_at numbers (0x1016, c.sub) ≡ Some c.number) × (node ≡ c.node)
    by true true (Some n) object numbered there h =
        let same : with_value node place.1 n ≡ c = cc in
        let here : consumer_at numbers (0x1016, place.1) ≡ Some n =
        ap (λ (t : Bool). if t then numbers Bits32 (0x1016, place.1) else None) numbered
        ∙ ap (λ (i : ℕ). numbers Bits32 (i, place.1)) (sym (eqb-true place.0 0x1016 object)) ∙ there in
        subst (λ (x : HeartbeatConsumer). (consumer_at numbers (0x1016, x.sub) ≡ Some x.number) × (node ≡ x.node))
        same (here, refl)
    by true true None object numbered there h = cc
    by true false o object numbered there h = cc
    by false t o object numbered there h = cc

-- it is unfit
unfit_by : (time : ℕ → ℕ → Option ℕ) (c : HeartbeatConsumer) (d : Diag) → consumer_diagnostic time c ≡ Some d
    → (is_unfit (time c.node) c.number ≡ true) × (diagnostic UnfitConsumer (of.Node c.node (Some c.sub)) ≡ d)
unfit_by time c d h = by (is_unfit (time c.node) c.number) refl h
  where
    by : (t : Bool) → is_unfit (time c.node) c.number ≡ t
        → (if t then Some (diagnostic UnfitConsumer (of.Node c.node (Some c.sub))) else None) ≡ Some d
        → (is_unfit (time c.node) c.number ≡ true) × (diagnostic UnfitConsumer (of.Node c.node (Some c.sub)) ≡ d)
    by true unfit h = let same : diagnostic UnfitConsumer (of.Node c.node (Some c.sub)) ≡ d = cc in (unfit, same)
    by false unfit h = cc

pub consumers_hold : (p : Content) (d : Diag) → Contains (unfit_consumers p) d → Holds p d
unfolding unfit_consumers consumers Holds
consumers_hold p d c =
    let one = from_filter_map (consumer_diagnostic (producer_time p)) (consumers p) d c in
    let at = from_flat_map (consumers_in (numbers_of p)) (members p) one.0 one.1 in
    let place = from_filter_map (consumer_of (numbers_of p at.0) at.0.0) (pairs_of at.0.1.sheet.sections) one.0 at.2 in
    let entry = consumer_by (numbers_of p at.0) at.0.0 place.0 one.0 place.2 in
    let unfit = unfit_by (producer_time p) one.0 d one.2 in
    let holds : HasUnfitConsumer p one.0.node one.0.sub =
    record {
      member = at.0.1;
      consumer = one.0.number;
      is = subst (λ (n : ℕ). member_at p n ≡ Some at.0.1) entry.1 (member_found p at.0 at.1);
      there = subst (λ (n : ℕ). consumer_at (number_after p at.0.1 n) (0x1016, one.0.sub) ≡ Some one.0.number) entry.1
          entry.0;
      unfit = unfit.0;
    } in
    subst (λ (x : Diag). HoldsOf p x.code x.subject) unfit.1 holds

-- ---- what holds is found

-- an entry that has a number is one of the device
number_there : (width : Width) (p : Content) (m : Member) (node : ℕ) (place : ℕ × ℕ) (n : ℕ)
    → number_after p m node width place ≡ Some n → Contains (pairs_of m.sheet.sections) place
unfolding number_after
number_there width p m node place n h = by (is_unsigned (kind_at m.sheet place) width) refl h
  where
    by : (b : Bool) → is_unsigned (kind_at m.sheet place) width ≡ b
        → (if b then option_map (little_number (octets width)) (get (values_after p m node) place) else None) ≡ Some n
        → Contains (pairs_of m.sheet.sections) place
    by true is h = unsigned_there m.sheet place width is
    by false is h = cc

consumer_there : (p : Content) (m : Member) (node sub n : ℕ)
    → consumer_at (number_after p m node) (0x1016, sub) ≡ Some n → Contains (pairs_of m.sheet.sections) (0x1016, sub)
consumer_there p m node sub n h = by (nat_le 1 sub) h
  where
    by : (t : Bool) → (if t then number_after p m node Bits32 (0x1016, sub) else None) ≡ Some n
        → Contains (pairs_of m.sheet.sections) (0x1016, sub)
    by true h = number_there Bits32 p m node (0x1016, sub) n h
    by false h = cc

pub consumers_listed : (p : Content) (node sub : ℕ) → HasUnfitConsumer p node sub
    → Contains (unfit_consumers p) (diagnostic UnfitConsumer (of.Node node (Some sub)))
unfolding unfit_consumers consumers
consumers_listed p node sub h =
    Contains-filter_map (consumer_diagnostic (producer_time p)) (consumers p) c d
    (Contains-flat_map (consumers_in (numbers_of p)) (members p) e c (member_listed p node h.member h.is)
    (Contains-filter_map (consumer_of (numbers_of p e) node) (pairs_of h.member.sheet.sections) (0x1016, sub) c
    (consumer_there p h.member node sub h.consumer h.there) (ap (option_map (with_value node sub)) h.there)))
    (ap (λ (t : Bool). if t then Some d else None) h.unfit)
  where
    e : ℕ × Member
    e = (node, h.member)

    c : HeartbeatConsumer
    c = with_value node sub h.consumer

    d : Diag
    d = diagnostic UnfitConsumer (of.Node node (Some sub))
