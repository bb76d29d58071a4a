-- The writes of the PDOs of a device as its vendor made it are values of their entries.
use Rattle.std.proofs.Common.{◌≡◌, ℕ, ◌+◌, ◌%◌, ◌<◌, ◌≤◌, Bool, true, false, ◌&&◌, List, [], ◌∷◌, ◌++◌, length}
use Rattle.std.proofs.Common.{Option, refl, sym, ap, ◌∙◌, arith}
use Rattle.std.specs.Prelude.{◌==◌, ◌||◌, not, if◌then◌else◌}
use Rattle.std.specs.Option.{option_map_or}
use Rattle.byteorder.specs.Endian.{little_bytes}
use Rattle.base.specs.Bytes.{AreBytes}
use Rattle.co_values.specs.declared.form.Width.{Width}
use Rattle.co_values.specs.declared.form.Width.TheVariants.{Bits8, Bits16, Bits24, Bits32, Bits40, Bits48, Bits56, Bits64}
use Rattle.co_values.specs.Types.{octets}
use Rattle.co_dict.specs.declared.entry.Entry.{Entry}
use Rattle.cia301.specs.CobIds.{is_valid, no_rtr_bit, off_bit}
use Rattle.cia301.specs.PdoObjects.{mapping_object, rpdo_object, tpdo_object}
use Rattle.concise_dcf.specs.declared.write.Write.{Write}
use Rattle.eds_device.specs.Entries.{entry_at}
use Rattle.eds_device.proofs.LawLemmas.{shape_at}
use Rattle.eds_device.specs.Sheets.{Sheet}
use Rattle.pdo_choices.specs.declared.clean.Clean.{Clean}
use Rattle.pdo_choices.specs.declared.consumer.Consumer.{Consumer}
use Rattle.pdo_stations.specs.declared.as_made.AsMade.{AsMade}
use Rattle.pdo_stations.specs.declared.mapped.Mapped.{Mapped}
use Rattle.pdo_stations.specs.Devices.{as_made, takes_unsigned}
use Rattle.vendor_pdos.specs.Mappings.{writes_mapping}
use Rattle.vendor_pdos.specs.Parameters.{can_be_set, is_open, parameter_default, parameter_width, takes_at}
use Rattle.pdo_links.specs.Tables.{AreMapped, AreValues}
use Rattle.pdo_links.specs.PdoWrites.{cob_write, mapping_writes, taken_type, write_at}
use Rattle.pdo_links.specs.VendorWrites.{allows, configured, parameter_write, pdo_writes, unused_writes}
use Rattle.pdo_links.specs.VendorWrites.{vendor_rpdo_writes, vendor_tpdo_writes}
use Rattle.pdo_links.proofs.Values.{both_taken, first_of, four_bytes, mapping_taken, none_taken, one_byte, one_taken}
use Rattle.pdo_links.proofs.Values.{second_of, taken_values, three_bytes, two_bytes, write_taken, AreTaken, IsTaken}

-- ---- the bytes of a parameter

narrow : (sub : ℕ) → octets (parameter_width sub) ≤ 4
narrow sub = by (sub == 1) (sub == 3 || sub == 5)
  where
    by : (a b : Bool) → let width : Width = if a then Bits32 else if b then Bits16 else Bits8 in octets width ≤ 4
    by true b = omega arith
    by false true = omega arith
    by false false = omega arith

width_bytes : (width : Width) (n : ℕ) → octets width ≤ 4 → AreBytes (little_bytes (octets width) n)
width_bytes Bits8 n le = one_byte (n % 256) (omega arith)
width_bytes Bits16 n le = two_bytes n
width_bytes Bits24 n le = three_bytes n
width_bytes Bits32 n le = four_bytes n
width_bytes Bits40 n le = absurd (omega arith)
width_bytes Bits48 n le = absurd (omega arith)
width_bytes Bits56 n le = absurd (omega arith)
width_bytes Bits64 n le = absurd (omega arith)

width_long : (width : Width) (n : ℕ) → length (little_bytes (octets width) n) ≡ octets width
width_long Bits8 n = refl
width_long Bits16 n = refl
width_long Bits24 n = refl
width_long Bits32 n = refl
width_long Bits40 n = refl
width_long Bits48 n = refl
width_long Bits56 n = refl
width_long Bits64 n = refl

-- ---- a device

-- a mapping can be written of an open PDO alone
pub opened : (device : AsMade) (object count : ℕ) → writes_mapping device object count ≡ true
    → is_open device object ≡ true
unfolding writes_mapping
opened device object count written = second_of _ _ (first_of _ _ (first_of _ _ written))

module _ (sheet : Sheet) (node : ℕ) (device : AsMade) (is : device ≡ as_made sheet node) where
  sound : (width : Width) (place : ℕ × ℕ) → takes_at device width place ≡ true
      → option_map_or (takes_unsigned width) (entry_at sheet node place.0 place.1) false ≡ true
  sound width (index, sub) takes =
      ap (λ (o : Option Entry). option_map_or (takes_unsigned width) o false) (sym (shape_at sheet node index sub))
      ∙ ap (λ (d : AsMade). takes_at d width (index, sub)) (sym is) ∙ takes

  number_taken : (object sub number : ℕ) (width : Width) → octets width ≤ 4 → takes_at device width (object, sub) ≡ true
      → IsTaken sheet node (write_at object sub (little_bytes (octets width) number))
  number_taken object sub number width le takes =
      write_taken sheet node (λ w place. takes_at device w place) sound object sub width (little_bytes (octets width) number)
      takes (width_bytes width number le) (width_long width number)

  cob_taken : (object cob : ℕ) → is_open device object ≡ true → IsTaken sheet node (cob_write object cob)
  cob_taken object cob open_one = number_taken object 1 cob Bits32 (omega arith) open_one

  parameter_taken : (object sub number : ℕ) → AreTaken sheet node (parameter_write device object sub number)
  parameter_taken object sub number =
      by (can_be_set device object sub && (sub == 2 || not (number == 0) || allows device object sub 0)) refl
    where
      by : (b : Bool)
          → can_be_set device object sub && (sub == 2 || not (number == 0) || allows device object sub 0) ≡ b
          → let ws : List Write = if b then write_at object sub (little_bytes (octets (parameter_width sub)) number) ∷ []
          else [] in AreTaken sheet node ws
      by true set =
          one_taken sheet node (write_at object sub (little_bytes (octets (parameter_width sub)) number)) []
          (number_taken object sub number (parameter_width sub) (narrow sub) (first_of _ _ (first_of _ _ set)))
          (none_taken sheet node)
      by false set = none_taken sheet node

  items_taken : (object : ℕ) (mapping : List Mapped) → length mapping < 256
      → (writes_mapping device object (length mapping) ≡ true → AreMapped mapping)
      → (let ws : List Write = if writes_mapping device object (length mapping)
      then mapping_writes (mapping_object object) mapping else [] in AreTaken sheet node ws)
  unfolding writes_mapping
  items_taken object mapping short are = by (writes_mapping device object (length mapping)) refl
    where
      by : (b : Bool) → writes_mapping device object (length mapping) ≡ b
          → let ws : List Write = if b then mapping_writes (mapping_object object) mapping else [] in AreTaken sheet node ws
      by true written =
          mapping_taken sheet node (λ w place. takes_at device w place) sound (mapping_object object) mapping
          (second_of _ _ (first_of _ _ written)) (second_of _ _ written) short (are written)
      by false written = none_taken sheet node

  pdo_taken : (object cob : ℕ) (settings : List Write) (mapping : List Mapped) → AreTaken sheet node settings
      → length mapping < 256 → (writes_mapping device object (length mapping) ≡ true → AreMapped mapping)
      → AreTaken sheet node (pdo_writes device object cob settings mapping)
  unfolding pdo_writes
  pdo_taken object cob settings mapping set short are = by (is_open device object) refl
    where
      items : List Write
      items = if writes_mapping device object (length mapping) then mapping_writes (mapping_object object) mapping else []

      by : (b : Bool) → is_open device object ≡ b
          → let ws : List Write = if b then configured object cob settings items else settings in AreTaken sheet node ws
      by true open_one =
          one_taken sheet node (cob_write object (off_bit + cob)) (settings ++ items ++ cob_write object cob ∷ [])
          (cob_taken object (off_bit + cob) open_one)
          (both_taken sheet node (settings ++ items) (cob_write object cob ∷ [])
          (both_taken sheet node settings items set (items_taken object mapping short are))
          (one_taken sheet node (cob_write object cob) [] (cob_taken object cob open_one) (none_taken sheet node)))
      by false open_one = set

  pub tpdo_writes_taken : (c : Clean) → length c.mapping < 256
      → (writes_mapping device (tpdo_object c.message.tpdo) (length c.mapping) ≡ true → AreMapped c.mapping)
      → AreTaken sheet node (vendor_tpdo_writes device c)
  unfolding vendor_tpdo_writes
  tpdo_writes_taken c short are =
      let object : ℕ = tpdo_object c.message.tpdo in
      let type : List Write = parameter_write device object 2 c.message.transmission in
      let inhibit : List Write = parameter_write device object 3 c.message.inhibit in
      let event : List Write = parameter_write device object 5 c.message.event in
      let start : List Write = parameter_write device object 6 c.start in
      pdo_taken object (no_rtr_bit + c.identifier) (type ++ inhibit ++ event ++ start) c.mapping
      (both_taken sheet node (type ++ inhibit ++ event) start
      (both_taken sheet node (type ++ inhibit) event
      (both_taken sheet node type inhibit (parameter_taken object 2 c.message.transmission)
      (parameter_taken object 3 c.message.inhibit)) (parameter_taken object 5 c.message.event))
      (parameter_taken object 6 c.start)) short are

  pub tpdo_values : (c : Clean) → length c.mapping < 256
      → (writes_mapping device (tpdo_object c.message.tpdo) (length c.mapping) ≡ true → AreMapped c.mapping)
      → AreValues sheet (vendor_tpdo_writes device c)
  tpdo_values c short are = taken_values sheet node (vendor_tpdo_writes device c) (tpdo_writes_taken c short are)

  event_taken : (object event : ℕ)
      → (let ws : List Write = if event == 0 then [] else parameter_write device object 5 event in AreTaken sheet node ws)
  event_taken object event = by (event == 0)
    where
      by : (b : Bool) → let ws : List Write = if b then [] else parameter_write device object 5 event
          in AreTaken sheet node ws
      by true = none_taken sheet node
      by false = parameter_taken object 5 event

  pub rpdo_writes_taken : (c : Clean) (k : Consumer) → length k.mapping < 256
      → (writes_mapping device (rpdo_object k.rpdo) (length k.mapping) ≡ true → AreMapped k.mapping)
      → AreTaken sheet node (vendor_rpdo_writes device c k)
  unfolding vendor_rpdo_writes
  rpdo_writes_taken c k short are =
      let object : ℕ = rpdo_object k.rpdo in
      let type : List Write = parameter_write device object 2 (taken_type c.message.transmission) in
      let event : List Write = if k.event == 0 then [] else parameter_write device object 5 k.event in
      pdo_taken object c.identifier (type ++ event) k.mapping
      (both_taken sheet node type event (parameter_taken object 2 (taken_type c.message.transmission))
      (event_taken object k.event)) short are

  pub rpdo_values : (c : Clean) (k : Consumer) → length k.mapping < 256
      → (writes_mapping device (rpdo_object k.rpdo) (length k.mapping) ≡ true → AreMapped k.mapping)
      → AreValues sheet (vendor_rpdo_writes device c k)
  rpdo_values c k short are = taken_values sheet node (vendor_rpdo_writes device c k) (rpdo_writes_taken c k short are)

  pub unused_taken : (object : ℕ) → AreTaken sheet node (unused_writes device object)
  unfolding unused_writes
  unused_taken object =
      let cob : ℕ = parameter_default device object 1 in
      by (is_open device object && is_valid cob && allows device object 1 (off_bit + cob)) refl
    where
      by : (b : Bool)
          → is_open device object && is_valid (parameter_default device object 1)
          && allows device object 1 (off_bit + parameter_default device object 1) ≡ b
          → let ws : List Write = if b then cob_write object (off_bit + parameter_default device object 1) ∷ [] else []
          in AreTaken sheet node ws
      by true set =
          one_taken sheet node (cob_write object (off_bit + parameter_default device object 1)) []
          (cob_taken object (off_bit + parameter_default device object 1) (first_of _ _ (first_of _ _ set)))
          (none_taken sheet node)
      by false set = none_taken sheet node

  pub unused_values : (object : ℕ) → AreValues sheet (unused_writes device object)
  unused_values object = taken_values sheet node (unused_writes device object) (unused_taken object)
