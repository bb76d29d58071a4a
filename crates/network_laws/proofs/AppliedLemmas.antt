-- The values that a frame leaves in a device: those that are unpacked of it, but for the error register.
use Rattle.std.proofs.Common.{◌≡◌, ◌≢◌, ℕ, ◌+◌, ◌-◌, ◌==◌, Bool, true, false, not, ◌&&◌, List, [], ◌∷◌, Some, cond}
use Rattle.std.proofs.Common.{refl, sym, ap, ◌∙◌, arith}
use Rattle.std.specs.Prelude.{if◌then◌else◌, map, nat_lt}
use Rattle.std.specs.FinMap.{get, get-insert, insert}
use Rattle.std.specs.List.{list_any, range_with_len}
use Rattle.std.specs.Option.{unwrap_or}
use Rattle.std.specs.Ordering.{eq_by_cmp}
use Rattle.std.proofs.lemmas.Bool.Decides.{nat_tests}
use Rattle.byteorder.specs.Endian.{little_number}
use Rattle.image_parts.specs.Asking.{outcome}
use Rattle.can_frame.specs.Frames.{BaseFrame}
use Rattle.co_dict.specs.declared.abort.Abort.{Abort}
use Rattle.co_dict.specs.Aborts.{cannot_be_mapped, pdo_length_exceeded}
use Rattle.co_dict.specs.Mappings.{can_be_mapped, direction_of, mapped_length, mapped_place, mapping_bits}
use Rattle.co_dict.specs.PdoChecks.{cob_id_lines, count_lines, has_type, is_unsigned32, mapping_lines, new_count_lines}
use Rattle.cia301.specs.PdoObjects.{is_of_pdos, is_of_tpdos, is_of_rpdos}
use Rattle.co_dict.specs.Places.{place_cmp}
use Rattle.co_dict.specs.Shapes.{Shaped}
use Rattle.co_dict.specs.Values.{Values, number_at}
use Rattle.co_dict.specs.WriteCheck.{write_check}
use Rattle.co_dict.proofs.CheckLaws.{checked_alike}
use Rattle.co_dict.proofs.CheckLemmas.{write_check_in_turn}
use Rattle.co_dict.proofs.PlaceLemmas.{places_total, written_elsewhere}
use Rattle.pdo_rules.specs.Packing.{after_entries, bits_for, frame_bits, takes, after_payload, value_of_bits, with_bits}
use Rattle.image_parts.specs.Contents.{Image, shape_of}
use Rattle.image_parts.specs.declared.part.Part.TheVariants.{Shape}
use Rattle.pdo_rules.specs.declared.receipt.Receipt.TheVariants.{AtOnce}
use Rattle.device_objects.specs.Profile.{without_error_bits}
use Rattle.device_objects.specs.declared.learnt.Learnt.{Learnt}
use Rattle.device_pdos.specs.Rpdos.{mapping_of_rpdo, receipt_of, rpdo_at}
use Rattle.co_device.specs.Device.{Device, after_own_write, after_write, after_write_of_consumer, is_producer_time}
use Rattle.co_device.specs.Device.{without_error_if}
use Rattle.co_device.specs.Receiving.{after_mapping, after_entry, after_kept_frame, after_rpdo, after_sync_at}
use Rattle.co_device.specs.Receiving.{after_receipt}
use Rattle.device_agenda.proofs.CaseLemmas.{one_of}

abbrev register : ℕ × ℕ
register = (0x1001, 0)

-- two dictionaries have the same values but for the error register
abbrev Agree : Values → Values → Type 0
Agree one other = (q : ℕ × ℕ) → q ≢ register → get one q ≡ get other q

-- ---- the write check doesn't hang on the error register

not_the_register : (index sub : ℕ) → is_of_pdos index ≡ true → (index, sub) ≢ register
not_the_register index sub of_pdos same =
    let at : index ≡ 0x1001 = ap (λ (p : ℕ × ℕ). p.0) same in
    absurd (grind (arith, nat_tests))

no_sub_0 : (index : ℕ) → (index, 1) ≢ register
no_sub_0 index same = let sub : ◌≡◌ {A = ℕ} 1 0 = ap (λ (p : ℕ × ℕ). p.1) same in absurd (omega arith)

module _ (shape : Shaped) (one other : Values) (agree : Agree one other) where
  number_alike : (count : ℕ) (q : ℕ × ℕ) → q ≢ register → number_at count one q ≡ number_at count other q
  number_alike count q apart = ap (λ o. little_number count (unwrap_or o [])) (agree q apart)

  module _ (place : ℕ × ℕ) (bytes : List ℕ) (of_pdos : is_of_pdos place.0 ≡ true) where
    cob_id_alike : cob_id_lines shape one place bytes ≡ cob_id_lines shape other place bytes
    cob_id_alike = rw (number_alike 4 place (not_the_register place.0 place.1 of_pdos)) refl

    mapping_alike : mapping_lines shape one place ≡ mapping_lines shape other place
    mapping_alike = rw (
      number_alike 4 (place.0 - 0x200, 1) (no_sub_0 (place.0 - 0x200)),
      number_alike 1 (place.0, 0) (not_the_register place.0 0 of_pdos),
    ) refl

    -- the lines of a count, by the numbers of the mapping's entries
    abbrev lines_by : ℕ → (ℕ → ℕ) → List (Bool × Abort)
    lines_by count entry =
        (nat_lt 64 count, pdo_length_exceeded)
        ∷ (
          list_any (λ sub. not (has_type is_unsigned32 shape (place.0, sub)
              && can_be_mapped (direction_of place.0) shape (entry sub))) (range_with_len 1 count),
          cannot_be_mapped,
        )
        ∷ (nat_lt 64 (mapping_bits (map entry (range_with_len 1 count))), pdo_length_exceeded)
        ∷ []

    entries_alike : ◌≡◌ {A = ℕ → ℕ} (λ sub. number_at 4 one (place.0, sub)) (λ sub. number_at 4 other (place.0, sub))
    entries_alike = λ i sub. number_alike 4 (place.0, sub) (not_the_register place.0 sub of_pdos) i

    count_alike : (count : ℕ) → count_lines shape one place.0 count ≡ count_lines shape other place.0 count
    count_alike count = ap (lines_by count) entries_alike

    new_count_alike : new_count_lines shape one place bytes ≡ new_count_lines shape other place bytes
    new_count_alike = rw (count_alike (little_number 1 bytes)) refl

    of_pdos_alike : write_check shape one place bytes ≡ write_check shape other place bytes
    of_pdos_alike = rw (
      write_check_in_turn shape one place bytes,
      write_check_in_turn shape other place bytes,
      cob_id_alike,
      mapping_alike,
      new_count_alike,
    ) refl

  check_alike : (place : ℕ × ℕ) (bytes : List ℕ)
      → write_check shape one place bytes ≡ write_check shape other place bytes
  check_alike place bytes = by (is_of_pdos place.0) refl
    where
      by : (of_pdos : Bool) → is_of_pdos place.0 ≡ of_pdos
          → write_check shape one place bytes ≡ write_check shape other place bytes
      by true e = of_pdos_alike place bytes e
      by false e = checked_alike shape place bytes e one other

-- ---- entry by entry

module _ (shape : Shaped) (entry : ℕ) (bits : List ℕ) where
  takes_alike : (one other : Values) → Agree one other → takes shape entry bits one ≡ takes shape entry bits other
  unfolding takes
  takes_alike one other agree = rw (check_alike shape one other agree (mapped_place entry) (value_of_bits bits)) refl

  bits_agree : (one other : Values) → Agree one other
      → Agree (with_bits shape entry bits one) (with_bits shape entry bits other)
  unfolding with_bits
  bits_agree one other agree = by (takes shape entry bits one) (takes shape entry bits other)
      (takes_alike one other agree)
    where
      put : Values → Values
      put values = insert values (mapped_place entry) (value_of_bits bits)

      by : (b c : Bool) → b ≡ c → Agree (if b then put one else one) (if c then put other else other)
      by true true e q apart =
          get-insert places_total one (mapped_place entry) (value_of_bits bits) q
          ∙ ap (cond (eq_by_cmp place_cmp q (mapped_place entry)) (Some (value_of_bits bits))) (agree q apart)
          ∙ sym (get-insert places_total other (mapped_place entry) (value_of_bits bits) q)
      by false false e q apart = agree q apart
      by true false e q apart = absurd cc
      by false true e q apart = absurd cc

-- what a write brings about changes no value but the error register
cleared_agree : (learnt : Learnt) (values : Values) → Agree (without_error_bits learnt values) values
unfolding without_error_bits
cleared_agree learnt values q apart = by learnt.has_error_register _
  where
    by : (has : Bool) (bytes : List ℕ) → get (if has then insert values register bytes else values) q ≡ get values q
    by true bytes = written_elsewhere values register q bytes apart
    by false bytes = refl

without_agree : (is_over : Bool) (d : Device) → Agree (without_error_if is_over d).values d.values
without_agree true d q apart = cleared_agree d.learnt d.values q apart
without_agree false d q apart = refl

consumer_agree : (sub : ℕ) (d : Device) → Agree (after_write_of_consumer sub d).values d.values
unfolding after_write_of_consumer
consumer_agree sub d = without_agree _ _

write_agree : (t : ℕ) (shape : Shaped) (place : ℕ × ℕ) (d : Device)
    → Agree (after_write t shape place d).values d.values
unfolding after_write after_own_write
write_agree t shape place d =
    one_of (λ e. Agree e.values d.values) (is_of_rpdos place.0) _ _ (λ q apart. refl)
    (one_of (λ e. Agree e.values d.values) (is_of_tpdos place.0) _ _ (λ q apart. refl)
    (one_of (λ e. Agree e.values d.values) (is_producer_time place) _ _ (λ q apart. refl)
    (one_of (λ e. Agree e.values d.values) (place.0 == 0x1016) _ _ (consumer_agree place.1 d) (λ q apart. refl))))

module _ (t : ℕ) (shape : Shaped) where
  entry_agree : (entry : ℕ) (bits : List ℕ) (d : Device)
      → Agree (after_entry t shape entry bits d).values (with_bits shape entry bits d.values)
  unfolding after_entry with_bits
  entry_agree entry bits d = by (takes shape entry bits d.values) refl
    where
      by : (b : Bool) → takes shape entry bits d.values ≡ b
          → Agree (if b then after_write t shape (mapped_place entry)
          (record d { values = with_bits shape entry bits d.values })
          else d).values (with_bits shape entry bits d.values)
      by true e q apart = write_agree t shape (mapped_place entry)
          (record d { values = with_bits shape entry bits d.values }) q apart
      by false e q apart = rw e refl

  entries_agree : (position : ℕ) (mapping bits : List ℕ) (d : Device) (values : Values) → Agree d.values values
      → Agree (after_entries (after_entry t shape) position mapping bits d).values
      (after_entries (with_bits shape) position mapping bits values)
  entries_agree position [] bits d values agree = agree
  entries_agree position (entry ∷ mapping) bits d values agree =
      let own : List ℕ = bits_for entry position bits in
      entries_agree (position + mapped_length entry) mapping bits (after_entry t shape entry own d)
      (with_bits shape entry own values)
      (λ q apart. entry_agree entry own d q apart ∙ bits_agree shape entry own d.values values agree q apart)

-- ---- a frame that an RPDO applies

module _ (image : Image) (t : ℕ) (frame : BaseFrame) where
  applied_agree : (mapping : List ℕ) (d : Device)
      → Agree (outcome (after_mapping t mapping frame d) image).values
      (after_payload (shape_of (image (Shape d.number))) mapping frame.bytes d.values)
  unfolding after_mapping
  applied_agree mapping d = entries_agree t (shape_of (image (Shape d.number))) 0 mapping (frame_bits frame.bytes) d
      d.values (λ q apart. refl)

  module _ (i : ℕ) (d : Device) where
    abbrev Unpacked : Values
    Unpacked = after_payload (shape_of (image (Shape d.number)))
        (mapping_of_rpdo (rpdo_at d.rpdos i).configuration) frame.bytes d.values

    pub received_is_unpacked : (place : ℕ × ℕ) → receipt_of frame (rpdo_at d.rpdos i).configuration ≡ AtOnce
        → place ≢ register
        → get (outcome (after_rpdo t frame i d) image).values place ≡ get Unpacked place
    unfolding after_rpdo after_receipt
    received_is_unpacked place at_once apart =
        rw at_once (applied_agree (mapping_of_rpdo (rpdo_at d.rpdos i).configuration) d place apart)

    pub kept_is_unpacked : (place : ℕ × ℕ) → (rpdo_at d.rpdos i).kept ≡ Some frame → place ≢ register
        → get (outcome (after_sync_at t i d) image).values place ≡ get Unpacked place
    unfolding after_sync_at after_kept_frame
    kept_is_unpacked place kept apart =
        rw kept (applied_agree (mapping_of_rpdo (rpdo_at d.rpdos i).configuration) _ place apart)

pub ruleset what_is_applied = (received_is_unpacked, kept_is_unpacked)
