-- What is wanted of a node is as among all its values, in version 3 too.
use Rattle.std.proofs.Common.{◌≡◌, ◌⊎◌, inl, inr, ℕ, ◌<◌, ◌≤◌, Bool, true, false, ◌&&◌, ◌||◌, cond, List, [], ◌∷◌, ◌++◌}
use Rattle.std.proofs.Common.{All, Option, Some, None, refl, sym, ap, subst, ◌∙◌, arith}
use Rattle.std.specs.Prelude.{◌==◌, if◌then◌else◌, option_map, filter}
use Rattle.std.specs.FinMap.{get, get-insert, insert}
use Rattle.std.specs.Ordering.{eq_by_cmp}
use Rattle.std.proofs.lemmas.List.Elements.{All-cons, All-head, All-nil, All-tail, All-weaker}
use Rattle.byteorder.specs.Endian.{little_number}
use Rattle.base.specs.Ranges.{is_between}
use Rattle.co_values.specs.declared.form.Width.{Width}
use Rattle.co_values.specs.Types.{octets}
use Rattle.concise_dcf.specs.declared.write.Write.{Write}
use Rattle.concise_dcf.specs.Writes.{place_of}
use Rattle.co_dict.specs.Places.{place_cmp}
use Rattle.co_dict.specs.Values.{Values}
use Rattle.co_dict.proofs.PlaceLemmas.{places_total}
use Rattle.node_parameters.specs.Params.{Texts}
use Rattle.node_parameters.specs.Parameters.{parameter_writes}
use Rattle.eds_device.specs.Described.{kind_at}
use Rattle.eds_device.specs.Entries.{defaults_of}
use Rattle.eds_device.specs.Sheets.{Sheet}
use Rattle.eds_places.proofs.PlaceLemmas.{alike}
use Rattle.pdo_stations.specs.Devices.{as_made, is_unsigned}
use Rattle.cia301.specs.PdoObjects.{is_communication_object, is_of_pdos, is_of_tpdos}
use Rattle.pdo_plan.specs.declared.planned_message.PlannedMessage.{PlannedMessage}
use Rattle.pdo_links.specs.VendorWrites.{vendor_link_writes}
use Rattle.pdo_links.specs.Writes.{node_writes}
use Rattle.project_plan.specs.Values.{after_writes, number_among}
use Rattle.project_plan.specs.Wanted.{is_tpdo_cob_id, is_wanted, values_given, with_tpdos, with_vendor_tpdos}
use Rattle.project_plan.proofs.VendorPdoLemmas.{vendor_links_pdo}
use Rattle.project_plan.proofs.WantedLemmas.{IsApart, given_is, left_alone, number_wanted, set_up}
use Rattle.project_plan.proofs.WrittenLemmas.{written-append}

-- the COB-ID of a TPDO that is written
abbrev sets_cob_id : Write → Bool
sets_cob_id w = is_tpdo_cob_id (place_of w)

-- ---- a COB-ID is as where all is written

another_place : (q : ℕ × ℕ) (w : Write) → is_tpdo_cob_id q ≡ true → sets_cob_id w ≡ false
    → eq_by_cmp place_cmp q (place_of w) ≡ false
another_place q w is other = by (eq_by_cmp place_cmp q (place_of w)) refl
  where
    by : (b : Bool) → eq_by_cmp place_cmp q (place_of w) ≡ b → b ≡ false
    by true e =
        let contrary : true ≡ false = sym is ∙ ap is_tpdo_cob_id (alike q (place_of w) e) ∙ other in
        cc
    by false e = refl

same_cob_id : (q : ℕ × ℕ) → is_tpdo_cob_id q ≡ true → (ws : List Write) (v u : Values) → get v q ≡ get u q
    → get (after_writes v (filter sets_cob_id ws)) q ≡ get (after_writes u ws) q
same_cob_id q is [] v u e = e
same_cob_id q is (w ∷ ws) v u e = by (sets_cob_id w) refl (same_cob_id q is ws)
  where
    by : (b : Bool) → sets_cob_id w ≡ b
        → ((x y : Values) → get x q ≡ get y q → get (after_writes x (filter sets_cob_id ws)) q ≡ get (after_writes y ws) q)
        → (let kept : List Write = if b then w ∷ filter sets_cob_id ws else filter sets_cob_id ws
        in get (after_writes v kept) q ≡ get (after_writes (insert u (place_of w) w.bytes) ws) q)
    by true t rest = rest (insert v (place_of w) w.bytes) (insert u (place_of w) w.bytes)
        (get-insert places_total v (place_of w) w.bytes q
        ∙ ap (λ (o : Option (List ℕ)). cond (eq_by_cmp place_cmp q (place_of w)) (Some w.bytes) o) e
        ∙ sym (get-insert places_total u (place_of w) w.bytes q))
    by false t rest = rest v (insert u (place_of w) w.bytes)
        (e ∙ sym (get-insert places_total u (place_of w) w.bytes q
        ∙ ap (λ (b : Bool). cond b (Some w.bytes) (get u q)) (another_place q w is t)))

-- ---- an entry below the objects of PDOs is as it was given

kept_apart : (index : ℕ) (ws : List Write) → IsApart index ws → IsApart index (filter sets_cob_id ws)
kept_apart index [] apart = apart
kept_apart index (w ∷ ws) apart = by (sets_cob_id w) (kept_apart index ws (All-tail Other w ws apart))
  where
    Other : Write → Type 0
    Other w = w.index ≡ index → ⊥

    by : (b : Bool) → IsApart index (filter sets_cob_id ws)
        → (let kept : List Write = if b then w ∷ filter sets_cob_id ws else filter sets_cob_id ws in IsApart index kept)
    by true rest = All-cons Other w (filter sets_cob_id ws) (All-head Other w ws apart) rest
    by false rest = rest

not_low : (index other : ℕ) → is_of_pdos index ≡ true → other < 0x1100 → index ≡ other → ⊥
not_low index other pdo low is =
    let high : 0x1400 ≤ index = grind arith in
    absurd (omega (arith, is))

module _ (plan : List PlannedMessage) (params : Texts) (sheet : Sheet) (node : ℕ) where
  abbrev links : List Write
  links = vendor_link_writes plan (as_made sheet node) node

  abbrev whole : Values
  whole = after_writes (defaults_of sheet node) (node_writes true plan params sheet node)

  abbrev wanted : Values
  wanted = with_vendor_tpdos (values_given sheet params node) plan (as_made sheet node) node

  in_turn : whole ≡ after_writes (set_up params sheet node) links
  unfolding node_writes
  in_turn = written-append (defaults_of sheet node) (parameter_writes sheet params node) links

  below : (q : ℕ × ℕ) → is_wanted q ≡ true → q.0 < 0x1100 → get wanted q ≡ get whole q
  below q is low =
      let apart : IsApart q.0 links = All-weaker (λ (w : Write). is_of_pdos w.index ≡ true)
      (λ (w : Write). w.index ≡ q.0 → ⊥) (λ w pdo. not_low w.index q.0 pdo low) links
      (vendor_links_pdo plan (as_made sheet node) node) in
      left_alone (values_given sheet params node) q (filter sets_cob_id links) (kept_apart q.0 links apart)
      ∙ given_is params sheet node q is
      ∙ sym (ap (λ (m : Values). get m q) in_turn ∙ left_alone (set_up params sheet node) q links apart)

  of_cob_id : (q : ℕ × ℕ) → is_wanted q ≡ true → is_tpdo_cob_id q ≡ true → get wanted q ≡ get whole q
  of_cob_id q is cob =
      same_cob_id q cob links (values_given sheet params node) (set_up params sheet node) (given_is params sheet node q is)
      ∙ sym (ap (λ (m : Values). get m q) in_turn)

  low_other : (q : ℕ × ℕ) (b : Bool) → b ≡ false → b || (is_between 0x1016 0x1017 q.0 || q.0 == 0x1019) ≡ true
      → q.0 < 0x1100
  low_other q true e is = cc
  low_other q false e is = grind arith

  wanted_is : (q : ℕ × ℕ) → is_wanted q ≡ true → get wanted q ≡ get whole q
  wanted_is q is = by (is_tpdo_cob_id q) refl
    where
      by : (b : Bool) → is_tpdo_cob_id q ≡ b → get wanted q ≡ get whole q
      by true e = of_cob_id q is e
      by false e = below q is (low_other q (is_tpdo_cob_id q) e is)

  vendor_number_wanted : (width : Width) (place : ℕ × ℕ) → is_wanted place ≡ true
      → number_among sheet wanted width place ≡ number_among sheet whole width place
  vendor_number_wanted width place is =
      ap (λ (o : Option (List ℕ)). if is_unsigned (kind_at sheet place) width
      then option_map (little_number (octets width)) o else None) (wanted_is place is)

  -- a number is among what is wanted as it is among all, by the rules of version 3 or not
  pub number_wanted_by : (b : Bool) (width : Width) (place : ℕ × ℕ) → is_wanted place ≡ true
      → number_among sheet (if b then with_vendor_tpdos (values_given sheet params node) plan (as_made sheet node) node
      else with_tpdos (values_given sheet params node) node plan) width place
      ≡ number_among sheet (after_writes (defaults_of sheet node) (node_writes b plan params sheet node)) width place
  number_wanted_by true width place is = vendor_number_wanted width place is
  number_wanted_by false width place is = number_wanted plan params sheet node width place is
