-- Whose writes a node gets in version 3.
use Rattle.std.proofs.Common.{◌≡◌, ◌⊎◌, inl, inr, ⊎_elim, ℕ, zero, suc, ◌+◌, ◌<◌, ◌≤◌, true, List, ◌++◌}
use Rattle.std.proofs.Common.{Contains, Option, Some, None, refl, sym, subst, ◌∙◌, arith}
use Rattle.std.specs.Prelude.{filter_map}
use Rattle.std.specs.BTreeMap.{is_at}
use Rattle.std.specs.FinMap.{get}
use Rattle.std.specs.List.{flat_map, range_with_len}
use Rattle.std.specs.Map.{lookup}
use Rattle.std.specs.Option.{option_map_or}
use Rattle.std.specs.Ordering.{nat_cmp}
use Rattle.std.proofs.lemmas.Bool.{cases_eq}
use Rattle.concise_dcf.specs.declared.write.Write.{Write}
use Rattle.concise_dcf.specs.Writes.{place_of}
use Rattle.cia301.specs.Limits.{is_pdo_number}
use Rattle.cia301.specs.PdoObjects.{is_of_pdos, rpdo_object, tpdo_object}
use Rattle.eds_device.specs.Sheets.{Sheet}
use Rattle.node_parameters.specs.Params.{Texts}
use Rattle.node_parameters.specs.Parameters.{parameter_text, parameter_writes}
use Rattle.node_parameters.proofs.ParameterLemmas.{nothing_else, pdo_text}
use Rattle.pdo_choices.proofs.RangeLemmas.{between, is_within}
use Rattle.pdo_choices.specs.declared.clean.Clean.{Clean}
use Rattle.pdo_choices.specs.declared.consumer.Consumer.{Consumer}
use Rattle.pdo_plan.specs.declared.planned_message.PlannedMessage.{PlannedMessage}
use Rattle.pdo_plan.specs.Plan.{clean}
use Rattle.pdo_stations.specs.declared.as_made.AsMade.{AsMade}
use Rattle.pdo_stations.specs.Devices.{as_made}
use Rattle.pdo_links.specs.Order.{IsOfSentAsMade, IsOfTakenAsMade, IsOfUnused, IsSentAlone, IsTakenAlone, IsUsedByNone}
use Rattle.pdo_links.specs.PdoWrites.{rpdo_of, tpdo_of}
use Rattle.pdo_links.specs.VendorWrites.{each_by_number, unused_writes, vendor_link_writes, vendor_rpdo_writes}
use Rattle.pdo_links.specs.VendorWrites.{vendor_tpdo_writes}
use Rattle.pdo_links.specs.Writes.{node_writes}
use Rattle.pdo_links.proofs.EachNumber.{at_each}
use Rattle.pdo_links.proofs.Numbered.{behind, sends, takes, Sends, Takes}
use Rattle.pdo_links.proofs.WhoseLemmas.{given_found, in_first, in_second, of_either, sent_found, taken_found}

-- ---- by number

module _ {Y : Type 0} (used : Y → List Write) (unused : ℕ → List Write) (pdos : List (ℕ × Y)) (w : Write) where
  -- a write of a PDO that is used, or of one that isn't
  abbrev pub OfUsed : Type 0
  OfUsed = (number : ℕ) × ((y : Y) × (lookup (is_at (nat_cmp number)) pdos ≡ Some y) × Contains (used y) w)

  abbrev pub OfOther : Type 0
  OfOther = (number : ℕ) × (is_pdo_number number ≡ true)
      × ((let none : Option Y = None in lookup (is_at (nat_cmp number)) pdos ≡ none) × Contains (unused number) w)

  of_range : (first n : ℕ) → 1 ≤ first → first + n ≤ 513
      → Contains (flat_map (at_each used unused pdos) (range_with_len first n)) w → OfUsed ⊎ OfOther
  of_range first zero low high (k, lt, is) = absurd (omega arith)
  of_range first (suc n) low high has =
      ⊎_elim (here (lookup (is_at (nat_cmp first)) pdos) refl)
      (of_range (first + 1) n (omega arith) (omega arith))
      (of_either (at_each used unused pdos first)
      (flat_map (at_each used unused pdos) (range_with_len (first + 1) n)) w has)
    where
      here : (o : Option Y) → lookup (is_at (nat_cmp first)) pdos ≡ o
          → Contains (option_map_or used o (unused first)) w → OfUsed ⊎ OfOther
      here None is has = inr (first, is_within 1 512 first low (omega arith), (is, has))
      here (Some y) is has = inl (first, (y, is, has))

  pub of_numbers : Contains (each_by_number used unused pdos) w → OfUsed ⊎ OfOther
  unfolding each_by_number
  of_numbers has = of_range 1 512 (omega arith) (omega arith) has

  -- a write at a number is one of those of all
  in_range : (number first n : ℕ) → Contains (at_each used unused pdos number) w → first ≤ number → number < first + n
      → Contains (flat_map (at_each used unused pdos) (range_with_len first n)) w
  in_range number first zero has low high = absurd (omega arith)
  in_range number first (suc n) has low high = ⊎_elim
      (λ (same : first ≡ number). in_first (at_each used unused pdos first)
      (flat_map (at_each used unused pdos) (range_with_len (first + 1) n)) w
      (subst (λ (k : ℕ). Contains (at_each used unused pdos k) w) (sym same) has))
      (λ (other : first ≡ number → ⊥). in_second (at_each used unused pdos first)
      (flat_map (at_each used unused pdos) (range_with_len (first + 1) n)) w
      (in_range number (first + 1) n has (above first number low other) (omega arith)))
      (cases_eq first number)
    where
      above : (a b : ℕ) → a ≤ b → (a ≡ b → ⊥) → a + 1 ≤ b
      above a b le other = omega (arith, other)

  pub in_all : (number : ℕ) → is_pdo_number number ≡ true → Contains (at_each used unused pdos number) w
      → Contains (each_by_number used unused pdos) w
  unfolding each_by_number
  in_all number test has = let b = between 1 512 number test in let low : 1 ≤ number = b.0 in
      let high : number ≤ 512 = b.1 in in_range number 1 512 has low (omega arith)

-- ---- PDOs that none uses

none_uses : {Y : Type 0} (pdo_of : Clean → Option (ℕ × Y)) (cs : List Clean) (number : ℕ)
    → (let none : Option Y = None in lookup (is_at (nat_cmp number)) (filter_map pdo_of cs) ≡ none)
    → IsUsedByNone pdo_of cs number
none_uses {Y} pdo_of cs number is = λ c y has given.
    let found : (z : Y) × (lookup (is_at (nat_cmp number)) (filter_map pdo_of cs) ≡ Some z) =
    given_found pdo_of cs c number y has given in
    let contrary : (let none : Option Y = None in none ≡ Some found.0) = sym is ∙ found.1 in
    cc

-- and such a number has none
used_by_none : {Y : Type 0} (pdo_of : Clean → Option (ℕ × Y)) (cs : List Clean) (number : ℕ)
    → IsUsedByNone pdo_of cs number
    → (let none : Option Y = None in lookup (is_at (nat_cmp number)) (filter_map pdo_of cs) ≡ none)
used_by_none {Y} pdo_of cs number none = by (lookup (is_at (nat_cmp number)) (filter_map pdo_of cs)) refl
  where
    by : (o : Option Y) → lookup (is_at (nat_cmp number)) (filter_map pdo_of cs) ≡ o
        → (let n : Option Y = None in o ≡ n)
    by None is = refl
    by (Some y) is = let b = behind pdo_of cs number y is in absurd (none b.0 y b.1 b.2)

-- ---- whose

module _ (cs : List Clean) (device : AsMade) (node : ℕ) (w : Write) where
  abbrev pub IsOfThree : Type 0
  IsOfThree = IsOfSentAsMade cs device node w ⊎ IsOfTakenAsMade cs device node w ⊎ IsOfUnused cs device node w

  of_tpdos : Contains (each_by_number (vendor_tpdo_writes device) (λ number. unused_writes device (tpdo_object number))
      (filter_map (tpdo_of node) cs)) w → IsOfThree
  of_tpdos has = ⊎_elim
      (λ (u : OfUsed (vendor_tpdo_writes device) (λ number. unused_writes device (tpdo_object number))
      (filter_map (tpdo_of node) cs) w).
      let s : Sends cs node u.0 u.1.0 = sends cs node u.0 u.1.0 u.1.1 in
      inl (u.1.0, s.message, s.sender, u.1.2))
      (λ (o : OfOther (vendor_tpdo_writes device) (λ number. unused_writes device (tpdo_object number))
      (filter_map (tpdo_of node) cs) w).
      inr (inr (o.0, o.1, inl (none_uses (tpdo_of node) cs o.0 o.2.0, o.2.1))))
      (of_numbers (vendor_tpdo_writes device) (λ number. unused_writes device (tpdo_object number))
      (filter_map (tpdo_of node) cs) w has)

  of_rpdos : Contains (each_by_number (λ (t : Clean × Consumer). vendor_rpdo_writes device t.0 t.1)
      (λ number. unused_writes device (rpdo_object number)) (filter_map (rpdo_of node) cs)) w → IsOfThree
  of_rpdos has = ⊎_elim
      (λ (u : OfUsed (λ (t : Clean × Consumer). vendor_rpdo_writes device t.0 t.1)
      (λ number. unused_writes device (rpdo_object number)) (filter_map (rpdo_of node) cs) w).
      let t : Takes cs node u.0 u.1.0 = takes cs node u.0 u.1.0 u.1.1 in
      inr (inl (u.1.0.0, t.message, (u.1.0.1, t.consumer, t.taker, u.1.2))))
      (λ (o : OfOther (λ (t : Clean × Consumer). vendor_rpdo_writes device t.0 t.1)
      (λ number. unused_writes device (rpdo_object number)) (filter_map (rpdo_of node) cs) w).
      inr (inr (o.0, o.1, inr (none_uses (rpdo_of node) cs o.0 o.2.0, o.2.1))))
      (of_numbers (λ (t : Clean × Consumer). vendor_rpdo_writes device t.0 t.1)
      (λ number. unused_writes device (rpdo_object number)) (filter_map (rpdo_of node) cs) w has)

pub of_vendor_pdos : (plan : List PlannedMessage) (params : Texts) (sheet : Sheet) (node : ℕ) (w : Write)
    → ((place : ℕ × ℕ) → is_of_pdos place.0 ≡ true → get params place ≡ None)
    → Contains (node_writes true plan params sheet node) w → is_of_pdos w.index ≡ true
    → IsOfThree (clean plan) (as_made sheet node) node w
unfolding node_writes vendor_link_writes
of_vendor_pdos plan params sheet node w apart has pdo =
    ⊎_elim parameter links
    (of_either (parameter_writes sheet params node) (vendor_link_writes plan (as_made sheet node) node) w has)
  where
    parameter : Contains (parameter_writes sheet params node) w → IsOfThree (clean plan) (as_made sheet node) node w
    parameter there =
        let text : (text : List ℕ) × (parameter_text sheet.sections params (place_of w) ≡ Some text)
        × _ = nothing_else sheet params node w there in
        let none : parameter_text sheet.sections params (place_of w) ≡ None = pdo_text sheet params (place_of w)
        (apart (place_of w) pdo) pdo in
        let contrary : (let n : Option (List ℕ) = None in n ≡ Some text.0) = sym none ∙ text.1 in
        cc

    links : Contains (vendor_link_writes plan (as_made sheet node) node) w
        → IsOfThree (clean plan) (as_made sheet node) node w
    links there = ⊎_elim (of_tpdos (clean plan) (as_made sheet node) node w)
        (of_rpdos (clean plan) (as_made sheet node) node w)
        (of_either (each_by_number (vendor_tpdo_writes (as_made sheet node))
        (λ number. unused_writes (as_made sheet node) (tpdo_object number)) (filter_map (tpdo_of node) (clean plan)))
        (each_by_number (λ (t : Clean × Consumer). vendor_rpdo_writes (as_made sheet node) t.0 t.1)
        (λ number. unused_writes (as_made sheet node) (rpdo_object number)) (filter_map (rpdo_of node) (clean plan)))
        w there)

-- ---- nothing is missing

module _ (plan : List PlannedMessage) (params : Texts) (sheet : Sheet) (node : ℕ) (w : Write) where
  abbrev device : AsMade
  device = as_made sheet node

  abbrev tpdos : List Write
  tpdos = each_by_number (vendor_tpdo_writes (as_made sheet node))
      (λ number. unused_writes (as_made sheet node) (tpdo_object number)) (filter_map (tpdo_of node) (clean plan))

  abbrev rpdos : List Write
  rpdos = each_by_number (λ (t : Clean × Consumer). vendor_rpdo_writes (as_made sheet node) t.0 t.1)
      (λ number. unused_writes (as_made sheet node) (rpdo_object number)) (filter_map (rpdo_of node) (clean plan))

  in_tpdos : Contains tpdos w → Contains (node_writes true plan params sheet node) w
  unfolding node_writes vendor_link_writes
  in_tpdos has = in_second (parameter_writes sheet params node) (tpdos ++ rpdos) w (in_first tpdos rpdos w has)

  in_rpdos : Contains rpdos w → Contains (node_writes true plan params sheet node) w
  unfolding node_writes vendor_link_writes
  in_rpdos has = in_second (parameter_writes sheet params node) (tpdos ++ rpdos) w (in_second tpdos rpdos w has)

  pub vendor_sent_written : (c : Clean) → IsSentAlone (clean plan) node c
      → Contains (vendor_tpdo_writes (as_made sheet node) c) w → Contains (node_writes true plan params sheet node) w
  vendor_sent_written c sent has =
      in_tpdos (in_all (vendor_tpdo_writes device) (λ number. unused_writes device (tpdo_object number))
      (filter_map (tpdo_of node) (clean plan)) w c.message.tpdo sent.numbered
      (subst (λ (o : Option Clean). Contains (option_map_or (vendor_tpdo_writes device) o
      (unused_writes device (tpdo_object c.message.tpdo))) w) (sym (sent_found (clean plan) node c sent)) has))

  pub vendor_taken_written : (c : Clean) (k : Consumer) → IsTakenAlone (clean plan) node c k
      → Contains (vendor_rpdo_writes (as_made sheet node) c k) w → Contains (node_writes true plan params sheet node) w
  vendor_taken_written c k taken has =
      in_rpdos (in_all (λ (t : Clean × Consumer). vendor_rpdo_writes device t.0 t.1)
      (λ number. unused_writes device (rpdo_object number))
      (filter_map (rpdo_of node) (clean plan)) w k.rpdo taken.numbered
      (subst (λ (o : Option (Clean × Consumer)). Contains (option_map_or
      (λ (t : Clean × Consumer). vendor_rpdo_writes device t.0 t.1) o
      (unused_writes device (rpdo_object k.rpdo))) w) (sym (taken_found (clean plan) node c k taken)) has))

  pub unused_written : IsOfUnused (clean plan) (as_made sheet node) node w → Contains (node_writes true plan params sheet node) w
  unused_written (number, test, inl (none, has)) =
      in_tpdos (in_all (vendor_tpdo_writes device) (λ number. unused_writes device (tpdo_object number))
      (filter_map (tpdo_of node) (clean plan)) w number test
      (subst (λ (o : Option Clean). Contains (option_map_or (vendor_tpdo_writes device) o
      (unused_writes device (tpdo_object number))) w) (sym (used_by_none (tpdo_of node) (clean plan) number none)) has))
  unused_written (number, test, inr (none, has)) =
      in_rpdos (in_all (λ (t : Clean × Consumer). vendor_rpdo_writes device t.0 t.1)
      (λ number. unused_writes device (rpdo_object number))
      (filter_map (rpdo_of node) (clean plan)) w number test
      (subst (λ (o : Option (Clean × Consumer)). Contains (option_map_or
      (λ (t : Clean × Consumer). vendor_rpdo_writes device t.0 t.1) o
      (unused_writes device (rpdo_object number))) w) (sym (used_by_none (rpdo_of node) (clean plan) number none)) has))
