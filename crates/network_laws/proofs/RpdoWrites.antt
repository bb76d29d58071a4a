-- What RPDOs write.
use Rattle.std.proofs.Common.{◌≡◌, ℕ, ◌+◌, Bool, true, false, List, [], ◌∷◌, ◌++◌, Option, Some, None, refl, sym}
use Rattle.std.proofs.Common.{subst}
use Rattle.std.specs.Prelude.{if◌then◌else◌}
use Rattle.std.specs.FinMap.{insert}
use Rattle.std.proofs.lemmas.List.{map-append}
use Rattle.image_parts.specs.Asking.{Asking, outcome}
use Rattle.image_parts.proofs.QuestionLemmas.{outcome_bind}
use Rattle.can_frame.specs.Frames.{BaseFrame}
use Rattle.co_dict.specs.Mappings.{mapped_length, mapped_place}
use Rattle.co_dict.specs.Shapes.{Shaped}
use Rattle.pdo_rules.specs.Packing.{after_entries, bits_for, frame_bits, takes, value_of_bits, with_bits}
use Rattle.image_parts.specs.Contents.{Content, Image, shape_of}
use Rattle.image_parts.specs.declared.part.Part.{Part}
use Rattle.image_parts.specs.declared.part.Part.TheVariants.{Shape}
use Rattle.pdo_rules.specs.Sync.{sync_message}
use Rattle.pdo_rules.specs.declared.receipt.Receipt.{Receipt}
use Rattle.pdo_rules.specs.declared.receipt.Receipt.TheVariants.{AtOnce, Ignored, Kept, Short}
use Rattle.co_device.specs.Device.{Device, after_write, is_in}
use Rattle.co_device.specs.Receiving.{after_entry, after_kept_frame, after_mapping, after_pdo, after_receipt, after_rpdo}
use Rattle.co_device.specs.Receiving.{after_sync, after_sync_at, rpdo_places, walk}
use Rattle.cia301.specs.declared.nmt_state.NmtState.TheVariants.{Operational}
use Rattle.device_pdos.specs.Rpdos.{mapping_of_rpdo, receipt_of, rpdo_at, with_kept}
use Rattle.network_laws.specs.Leaves.{LeavesServer}
use Rattle.network_laws.specs.Writes.{entries_at_sync, entries_of_kept, entries_of_mapping, entries_of_receipt}
use Rattle.network_laws.specs.Writes.{entries_of_rpdo, entries_of_walk, entries_taken, entry_if, writes_of_pdo}
use Rattle.network_laws.specs.Writes.{writes_of_sync}
use Rattle.network_laws.specs.Written.{EntryValue, Rpdo, Written, written_by}
use Rattle.network_laws.proofs.LeaveLemmas.{followed, left_alone, left_itself, left_written, settled, told_left}
use Rattle.network_laws.proofs.LeaveLemmas.{write_left}

-- what is written and what is left, with what the test gave
pub both : (image : Image) (P : List Written → Device → Type 0) (b : Bool) (ws vs : List Written)
    (m n : Asking Part Content Device) → (b ≡ true → P ws (outcome m image)) → (b ≡ false → P vs (outcome n image))
    → P (if b then ws else vs) (outcome (if b then m else n) image)
both image P true ws vs m n p q = p refl
both image P false ws vs m n p q = q refl

-- RPDOs of a node write these entries
abbrev Leaves : ℕ → List EntryValue → Device → Device → Type 0
Leaves number entries d e = LeavesServer (written_by Rpdo number entries) d e

-- one after another
joined : (number : ℕ) (entries more : List EntryValue) (d e f : Device) → Leaves number entries d e
    → Leaves number more e f → Leaves number (entries ++ more) d f
joined number entries more d e f h g =
    subst (λ ws. LeavesServer ws d f) (sym (map-append _ entries more))
    (followed (written_by Rpdo number entries) (written_by Rpdo number more) d e f h g)

-- ---- a mapping

module _ (t number : ℕ) (shape : Shaped) where
  entry_leaves : (entry : ℕ) (bits : List ℕ) (d : Device)
      → Leaves number (entry_if (takes shape entry bits d.values) (mapped_place entry) (value_of_bits bits)) d
      (after_entry t shape entry bits d)
  unfolding after_entry with_bits
  entry_leaves entry bits d = by (takes shape entry bits d.values)
    where
      by : (b : Bool)
          → Leaves number (entry_if b (mapped_place entry) (value_of_bits bits)) d
          (if b then after_write t shape (mapped_place entry)
          (record d { values = if b then insert d.values (mapped_place entry) (value_of_bits bits) else d.values })
          else d)
      by true =
          let one : EntryValue = record { place = mapped_place entry; bytes = value_of_bits bits } in
          let written : Device = record d { values = insert d.values (mapped_place entry) (value_of_bits bits) } in
          followed (written_by Rpdo number (one ∷ [])) [] d written
          (after_write t shape (mapped_place entry) written)
          (left_written Rpdo number one d (λ same. absurd cc))
          (write_left t shape (mapped_place entry) written)
      by false = left_itself d

  entries_leave : (position : ℕ) (mapping bits : List ℕ) (d : Device)
      → Leaves number (entries_taken t shape position mapping bits d) d
      (after_entries (after_entry t shape) position mapping bits d)
  unfolding entries_taken
  entries_leave position [] bits d = left_itself d
  entries_leave position (entry ∷ mapping) bits d =
      let own : List ℕ = bits_for entry position bits in
      let next : Device = after_entry t shape entry own d in
      joined number (entry_if (takes shape entry own d.values) (mapped_place entry) (value_of_bits own))
      (entries_taken t shape (position + mapped_length entry) mapping bits next) d next _
      (entry_leaves entry own d) (entries_leave (position + mapped_length entry) mapping bits next)

-- ---- the frames of an RPDO

module _ (image : Image) (t number : ℕ) where
  mapping_leaves : (mapping : List ℕ) (frame : BaseFrame) (d : Device)
      → Leaves number (entries_of_mapping image t mapping frame d) d (outcome (after_mapping t mapping frame d) image)
  unfolding after_mapping
  mapping_leaves mapping frame d =
      entries_leave t number (shape_of (image (Shape d.number))) 0 mapping (frame_bits frame.bytes) d

  receipt_leaves : (receipt : Receipt) (frame : BaseFrame) (i : ℕ) (d : Device)
      → Leaves number (entries_of_receipt receipt image t frame i d) d (outcome (after_receipt receipt t frame i d) image)
  unfolding after_receipt
  receipt_leaves Short frame i d = told_left 0x8210 d
  receipt_leaves Kept frame i d = left_alone d _ (settled d _ refl refl refl refl)
  receipt_leaves AtOnce frame i d = mapping_leaves (mapping_of_rpdo (rpdo_at d.rpdos i).configuration) frame d
  receipt_leaves Ignored frame i d = left_itself d

  rpdo_leaves : (frame : BaseFrame) (i : ℕ) (d : Device)
      → Leaves number (entries_of_rpdo image t frame i d) d (outcome (after_rpdo t frame i d) image)
  unfolding after_rpdo entries_of_rpdo
  rpdo_leaves frame i d = receipt_leaves (receipt_of frame (rpdo_at d.rpdos i).configuration) frame i d

  kept_leaves : (kept : Option BaseFrame) (i : ℕ) (d : Device)
      → Leaves number (entries_of_kept kept image t i d) d (outcome (after_kept_frame t kept i d) image)
  unfolding after_kept_frame
  kept_leaves None i d = left_itself d
  kept_leaves (Some frame) i d =
      let emptied : Device = record d { rpdos = with_kept d.rpdos i None } in
      let mapping : List ℕ = mapping_of_rpdo (rpdo_at d.rpdos i).configuration in
      joined number [] (entries_of_mapping image t mapping frame emptied) d emptied
      (outcome (after_mapping t mapping frame emptied) image)
      (left_alone d emptied (settled d emptied refl refl refl refl)) (mapping_leaves mapping frame emptied)

  sync_at_leaves : (i : ℕ) (d : Device)
      → Leaves number (entries_at_sync image t i d) d (outcome (after_sync_at t i d) image)
  unfolding after_sync_at entries_at_sync
  sync_at_leaves i d = kept_leaves (rpdo_at d.rpdos i).kept i d

  -- ---- all RPDOs

  walk_leaves : {X : Type 0} (step : X → Device → Asking Part Content Device) (entries : X → Device → List EntryValue)
      → ((x : X) (d : Device) → Leaves number (entries x d) d (outcome (step x d) image))
      → (xs : List X) (d : Device)
      → Leaves number (entries_of_walk image step entries xs d) d (outcome (walk step xs d) image)
  walk_leaves step entries each [] d = left_itself d
  walk_leaves step entries each (x ∷ xs) d =
      let next : Device = outcome (step x d) image in
      rw (outcome_bind (step x d) (walk step xs) image)
      (joined number (entries x d) (entries_of_walk image step entries xs next) d next _
      (each x d) (walk_leaves step entries each xs next))

module _ (image : Image) (t : ℕ) where
  pub pdo_leaves : (frame : BaseFrame) (d : Device)
      → LeavesServer (writes_of_pdo image t frame d) d (outcome (after_pdo t frame d) image)
  unfolding after_pdo writes_of_pdo
  pdo_leaves frame d = both image (λ ws e. LeavesServer ws d e) (is_in Operational d) _ _ _ _
      (λ e. walk_leaves image t d.number (after_rpdo t frame) (entries_of_rpdo image t frame)
      (rpdo_leaves image t d.number frame) (rpdo_places d) d)
      (λ e. left_itself d)

  pub sync_leaves : (bytes : List ℕ) (d : Device)
      → LeavesServer (writes_of_sync image t bytes d) d (outcome (after_sync t bytes d) image)
  unfolding after_sync writes_of_sync
  sync_leaves bytes d =
      let now : Device = record d { synced = Some (sync_message bytes) } in
      both image (λ ws e. LeavesServer ws d e) (is_in Operational d) _ _ _ _
      (λ e. joined d.number [] (entries_of_walk image (after_sync_at t) (entries_at_sync image t) (rpdo_places d) now)
      d now _ (left_alone d now (settled d now refl refl refl refl))
      (walk_leaves image t d.number (after_sync_at t) (entries_at_sync image t) (sync_at_leaves image t d.number)
      (rpdo_places d) now)) (λ e. left_itself d)
