-- What is kept of nodes by the numbers that are wanted is what there is by all of them.
use Rattle.std.proofs.Common.{◌≡◌, ◌==◌, ◌&&◌, ◌||◌, ℕ, Bool, true, false, List, [], ◌∷◌, Option, None, refl, ap, ◌∙◌}
use Rattle.std.specs.Prelude.{filter_map, if◌then◌else◌, nat_le, option_map, option_and_then}
use Rattle.std.specs.List.{cons_option, flat_map}
use Rattle.std.proofs.lemmas.Bool.{eqb-true}
use Rattle.base.specs.Ranges.{is_between}
use Rattle.co_values.specs.declared.form.Width.{Width}
use Rattle.co_values.specs.declared.form.Width.TheVariants.{Bits8, Bits16, Bits32}
use Rattle.eds_device.specs.Places.{pairs_of}
use Rattle.project_edits.specs.Versions.{is_three}
use Rattle.pdo_plan.specs.declared.planned_message.PlannedMessage.{PlannedMessage}
use Rattle.co_project.specs.Project.{Content}
use Rattle.project_plan.specs.Network.{Member, members, plan_of_project, writes_of}
use Rattle.project_plan.specs.Values.{Numbers, number_after, values_after}
use Rattle.project_plan.specs.Wanted.{is_tpdo_cob_id, is_wanted}
use Rattle.project_plan.proofs.VendorWantedLemmas.{number_wanted_by}
use Rattle.diag_nodes.specs.declared.consumer.HeartbeatConsumer.{HeartbeatConsumer}
use Rattle.diag_nodes.specs.Found.{consumers, counters, identifiers, times}
use Rattle.diag_nodes.specs.Kept.{numbers_by}
use Rattle.diag_nodes.specs.Rules.{consumer_of, consumers_in, counters_in, identifier_at, identifier_if_on}
use Rattle.diag_nodes.specs.Rules.{identifiers_in}
use Rattle.diag_nodes.specs.Rules.{numbers_of, times_in, with_value}

-- ---- each rule asks for wanted numbers alone

-- numbers that are the same where they are wanted
abbrev Agree : Numbers → Numbers → Type 0
Agree a b = (width : Width) (place : ℕ × ℕ) → is_wanted place ≡ true → a width place ≡ b width place

module _ (a b : Numbers) (agree : Agree a b) where
  same_identifier : (place : ℕ × ℕ) → identifier_at a place ≡ identifier_at b place
  same_identifier place = by (is_tpdo_cob_id place) refl
    where
      by : (t : Bool) → is_tpdo_cob_id place ≡ t
          → (if t then option_and_then identifier_if_on (a Bits32 place) else None)
          ≡ (if t then option_and_then identifier_if_on (b Bits32 place) else None)
      by true is = ap (option_and_then identifier_if_on) (agree Bits32 place
          (ap (λ (t : Bool). t || (is_between 0x1016 0x1017 place.0 || place.0 == 0x1019)) is))
      by false is = refl

  same_consumer : (node : ℕ) (place : ℕ × ℕ) → consumer_of a node place ≡ consumer_of b node place
  same_consumer node place = by (place.0 == 0x1016) refl (nat_le 1 place.1)
    where
      taken : Option ℕ → Option HeartbeatConsumer
      taken o = option_map (with_value node place.1) o

      by : (s : Bool) → (place.0 == 0x1016) ≡ s → (t : Bool)
          → taken (if s && t then a Bits32 place else None) ≡ taken (if s && t then b Bits32 place else None)
      by true is true = ap taken (agree Bits32 place
          (ap (λ (n : ℕ). is_wanted (n, place.1)) (eqb-true place.0 0x1016 is)))
      by true is false = refl
      by false is t = refl

-- ---- what is kept

module _ (p : Content) where
  agree : (e : ℕ × Member) → Agree (numbers_by (is_three p.version) (plan_of_project p) e) (numbers_of p e)
  unfolding number_after values_after writes_of
  agree e width place wanted = number_wanted_by (plan_of_project p) e.1.node.params e.1.sheet e.0 (is_three p.version) width place wanted

  by_plan : {X : Type 0} (f : (ℕ × Member → Numbers) → ℕ × Member → List X) (plan : List PlannedMessage)
      → plan ≡ plan_of_project p
      → flat_map (f (numbers_by (is_three p.version) plan)) (members p) ≡ flat_map (f (numbers_by (is_three p.version) (plan_of_project p))) (members p)
  by_plan f plan is = ap (λ (m : List PlannedMessage). flat_map (f (numbers_by (is_three p.version) m)) (members p)) is

  module _ (plan : List PlannedMessage) (is : plan ≡ plan_of_project p) where
    pub identifiers_kept : flat_map (identifiers_in (numbers_by (is_three p.version) plan)) (members p) ≡ identifiers p
    unfolding identifiers
    identifiers_kept = by_plan identifiers_in plan is
        ∙ (λ i. flat_map (λ (e : ℕ × Member). filter_map (λ place. same_identifier
        (numbers_by (is_three p.version) (plan_of_project p) e) (numbers_of p e) (agree e) place i) (pairs_of e.1.sheet.sections)) (members p))

    pub consumers_kept : flat_map (consumers_in (numbers_by (is_three p.version) plan)) (members p) ≡ consumers p
    unfolding consumers
    consumers_kept = by_plan consumers_in plan is
        ∙ (λ i. flat_map (λ (e : ℕ × Member). filter_map (λ place. same_consumer
        (numbers_by (is_three p.version) (plan_of_project p) e) (numbers_of p e) (agree e) e.0 place i) (pairs_of e.1.sheet.sections)) (members p))

    pub times_kept : flat_map (times_in (numbers_by (is_three p.version) plan)) (members p) ≡ times p
    unfolding times
    times_kept = by_plan times_in plan is
        ∙ (λ i. flat_map (λ (e : ℕ × Member). (e.0, agree e Bits16 (0x1017, 0) refl i) ∷ []) (members p))

    pub counters_kept : flat_map (counters_in (numbers_by (is_three p.version) plan)) (members p) ≡ counters p
    unfolding counters
    counters_kept = by_plan counters_in plan is
        ∙ (λ i. flat_map (λ (e : ℕ × Member). cons_option (option_map (λ n. (e.0, n))
        (agree e Bits8 (0x1019, 0) refl i)) []) (members p))
