-- The writes of a PDO are values of their entries.
use Rattle.std.proofs.Common.{◌≡◌, ℕ, zero, suc, ◌+◌, ◌<◌, Bool, true, false, ◌&&◌, cond, List, [], ◌∷◌, ◌++◌, length}
use Rattle.std.proofs.Common.{All, Option, Some, None, option_map, refl, sym, subst, arith}
use Rattle.std.specs.Prelude.{◌==◌, if◌then◌else◌, option_and_then}
use Rattle.std.specs.List.{list_all, range_with_len}
use Rattle.std.specs.Option.{option_map_or}
use Rattle.std.proofs.lemmas.List.Elements.{All-nil, All-cons, All-head, All-tail, All-append, All-weaker}
use Rattle.byteorder.specs.Endian.{little_bytes}
use Rattle.base.specs.Bytes.{AreBytes}
use Rattle.co_values.specs.declared.data_type.DataType.{DataType}
use Rattle.co_values.specs.declared.data_type.DataType.TheVariants.{NotModelled}
use Rattle.co_values.specs.declared.form.Form.{Form}
use Rattle.co_values.specs.declared.form.Width.{Width}
use Rattle.co_values.specs.declared.form.Width.TheVariants.{Bits8, Bits16, Bits32}
use Rattle.co_values.specs.Types.{form, octets}
use Rattle.co_values.specs.Values.{Fits, FitsForm}
use Rattle.co_dict.specs.Accesses.{is_writable}
use Rattle.cia301.specs.CobIds.{no_rtr_bit, off_bit}
use Rattle.concise_dcf.specs.declared.write.Write.{Write}
use Rattle.eds_device.specs.Described.{Described, description_of, kind_at}
use Rattle.eds_device.specs.Entries.{entry_by, entry_at}
use Rattle.eds_device.specs.Sheets.{Sheet}
use Rattle.pdo_choices.specs.declared.clean.Clean.{Clean}
use Rattle.pdo_choices.specs.declared.consumer.Consumer.{Consumer}
use Rattle.pdo_stations.specs.declared.mapped.Mapped.{Mapped}
use Rattle.pdo_stations.specs.Devices.{devices_of, is_unsigned, takes_unsigned, has_unsigned}
use Rattle.pdo_stations.specs.Devices.{has_mapping}
use Rattle.cia301.specs.PdoObjects.{mapping_object, rpdo_object, tpdo_object}
use Rattle.pdo_stations.proofs.UnsignedLemmas.{unsigned_form}
use Rattle.pdo_plan.specs.Mapping.{mapped_bytes}
use Rattle.pdo_plan.specs.Plan.{HasPdo}
use Rattle.pdo_links.specs.Tables.{AreMapped, AreValues}
use Rattle.pdo_links.specs.PdoWrites.{write_at, cob_write, mapped_writes, mapping_writes, taken_type}
use Rattle.pdo_links.specs.Writes.{start_write, time_write}
use Rattle.pdo_links.specs.Writes.{tpdo_writes, rpdo_writes}

-- ---- tests

pub first_of : (a b : Bool) → a && b ≡ true → a ≡ true
first_of true b e = refl
first_of false b e = cc

pub second_of : (a b : Bool) → a && b ≡ true → b ≡ true
second_of true b e = e
second_of false b e = cc

same_number : (n : ℕ) → (n == n) ≡ true
same_number n = grind arith

-- ---- an entry takes the bytes of a number

pub fits_unsigned : (kind : DataType) (width : Width) (bytes : List ℕ) → is_unsigned kind width ≡ true
    → length bytes ≡ octets width → FitsForm (form kind) bytes
fits_unsigned kind width bytes e len =
    subst (λ (f : Form). FitsForm f bytes) (sym (unsigned_form kind width e)) len

-- what an entry of a device takes is a value of it
pub taken_fits : (sheet : Sheet) (node index sub : ℕ) (width : Width) (bytes : List ℕ)
    → option_map_or (takes_unsigned width) (entry_at sheet node index sub) false ≡ true → AreBytes bytes
    → length bytes ≡ octets width → Fits (kind_at sheet (index, sub)) bytes
unfolding entry_at kind_at
taken_fits sheet node index sub width bytes test are len = by (description_of sheet index sub) test
  where
    by : (o : Option Described) → option_map_or (takes_unsigned width) (option_map (entry_by node) o) false ≡ true
        → Fits (option_map_or (λ (d : Described). d.kind) o NotModelled) bytes
    by None e = cc
    by (Some d) e = (
      are,
      fits_unsigned d.kind width bytes (first_of (is_unsigned d.kind width) (is_writable d.access) e) len,
    )

-- a write's entry takes its bytes as a number
pub record IsTaken (sheet : Sheet) (node : ℕ) (w : Write) : Type 0 where
  pub width : Width
  pub takes : option_map_or (takes_unsigned width) (entry_at sheet node w.index w.sub) false ≡ true
  pub are : AreBytes w.bytes
  pub long : length w.bytes ≡ octets width

-- the same of the plan's words
has_sound : (sheet : Sheet) (node : ℕ) (width : Width) (place : ℕ × ℕ)
    → has_unsigned (devices_of false None ((node, sheet) ∷ [])) node width place ≡ true
    → option_map_or (takes_unsigned width) (entry_at sheet node place.0 place.1) false ≡ true
has_sound sheet node width place test = by (node == node) (same_number node) test
  where
    by : (b : Bool) → b ≡ true → option_map_or (takes_unsigned width)
        (option_and_then (λ (s : Sheet). entry_at s node place.0 place.1) (cond b (Some sheet) None)) false ≡ true
        → option_map_or (takes_unsigned width) (entry_at sheet node place.0 place.1) false ≡ true
    by true is e = e
    by false is e = cc

has_taken : (sheet : Sheet) (node index sub : ℕ) (width : Width) (bytes : List ℕ)
    → has_unsigned (devices_of false None ((node, sheet) ∷ [])) node width (index, sub) ≡ true → AreBytes bytes
    → length bytes ≡ octets width → IsTaken sheet node (write_at index sub bytes)
has_taken sheet node index sub width bytes test are long =
    record { width = width; takes = has_sound sheet node width (index, sub) test; are = are; long = long }

-- ---- bytes

pub one_byte : (n : ℕ) → n < 256 → AreBytes (n ∷ [])
one_byte n lt zero = lt
one_byte n lt (suc i) = omega arith

pub two_bytes : (n : ℕ) → AreBytes (little_bytes 2 n)
two_bytes n zero = omega arith
two_bytes n (suc zero) = omega arith
two_bytes n (suc (suc i)) = omega arith

pub three_bytes : (n : ℕ) → AreBytes (little_bytes 3 n)
three_bytes n zero = omega arith
three_bytes n (suc zero) = omega arith
three_bytes n (suc (suc zero)) = omega arith
three_bytes n (suc (suc (suc i))) = omega arith

pub four_bytes : (n : ℕ) → AreBytes (little_bytes 4 n)
four_bytes n zero = omega arith
four_bytes n (suc zero) = omega arith
four_bytes n (suc (suc zero)) = omega arith
four_bytes n (suc (suc (suc zero))) = omega arith
four_bytes n (suc (suc (suc (suc i)))) = omega arith

-- ---- lists of writes

module _ (sheet : Sheet) where
  abbrev pub IsValue : Write → Type 0
  IsValue w = Fits (kind_at sheet (w.index, w.sub)) w.bytes

  pub no_values : AreValues sheet []
  unfolding AreValues
  no_values = All-nil IsValue

  pub both_values : (xs ys : List Write) → AreValues sheet xs → AreValues sheet ys → AreValues sheet (xs ++ ys)
  unfolding AreValues
  both_values xs ys a b = All-append IsValue xs ys a b

  module _ (node : ℕ) where
    abbrev pub AreTaken : List Write → Type 0
    AreTaken ws = All (IsTaken sheet node) ws

    pub one_taken : (w : Write) (ws : List Write) → IsTaken sheet node w → AreTaken ws → AreTaken (w ∷ ws)
    one_taken w ws is rest = All-cons (IsTaken sheet node) w ws is rest

    pub none_taken : AreTaken []
    none_taken = All-nil (IsTaken sheet node)

    pub both_taken : (xs ys : List Write) → AreTaken xs → AreTaken ys → AreTaken (xs ++ ys)
    both_taken xs ys a b = All-append (IsTaken sheet node) xs ys a b

    pub taken_values : (ws : List Write) → AreTaken ws → AreValues sheet ws
    unfolding AreValues
    taken_values ws all =
        All-weaker (IsTaken sheet node) IsValue (λ w is. taken_fits sheet node w.index w.sub is.width w.bytes is.takes is.are
        is.long) ws all

    time_taken : (object sub time : ℕ) → AreTaken (time_write sheet node object sub time)
    time_taken object sub time = by (option_map_or (takes_unsigned Bits16) (entry_at sheet node object sub) false) refl
      where
        by : (b : Bool) → option_map_or (takes_unsigned Bits16) (entry_at sheet node object sub) false ≡ b
            → let ws : List Write = if b then write_at object sub (little_bytes 2 time) ∷ [] else [] in AreTaken ws
        by true is =
            one_taken (write_at object sub (little_bytes 2 time)) [] (record {
              width = Bits16;
              takes = is;
              are = two_bytes time;
              long = refl;
            }) none_taken
        by false is = none_taken

    start_taken : (object start : ℕ) → start < 256 → AreTaken (start_write sheet node object start)
    start_taken object start lt = by (option_map_or (takes_unsigned Bits8) (entry_at sheet node object 6) false) refl
      where
        by : (b : Bool) → option_map_or (takes_unsigned Bits8) (entry_at sheet node object 6) false ≡ b
            → let ws : List Write = if b then write_at object 6 (start ∷ []) ∷ [] else [] in AreTaken ws
        by true is =
            one_taken (write_at object 6 (start ∷ [])) [] (record {
              width = Bits8;
              takes = is;
              are = one_byte start lt;
              long = refl;
            }) none_taken
        by false is = none_taken

    -- entries of which a test says that they take a number
    module _ (takes : Width → ℕ × ℕ → Bool)
        (sound : (width : Width) (place : ℕ × ℕ) → takes width place ≡ true
        → option_map_or (takes_unsigned width) (entry_at sheet node place.0 place.1) false ≡ true) where
      pub write_taken : (index sub : ℕ) (width : Width) (bytes : List ℕ) → takes width (index, sub) ≡ true
          → AreBytes bytes → length bytes ≡ octets width → IsTaken sheet node (write_at index sub bytes)
      write_taken index sub width bytes test are long =
          record { width = width; takes = sound width (index, sub) test; are = are; long = long }

      entries_taken : (object first : ℕ) (mapping : List Mapped)
          → list_all (λ sub. takes Bits32 (object, sub)) (range_with_len first (length mapping)) ≡ true
          → AreMapped mapping → AreTaken (mapped_writes object first mapping)
      unfolding AreMapped
      entries_taken object first [] test are = none_taken
      entries_taken object first (m ∷ ms) test are =
          let P : Mapped → Type 0 = λ m. AreBytes (mapped_bytes m) in
          let here : takes Bits32 (object, first) ≡ true = first_of _ _ test in
          let rest : list_all (λ sub. takes Bits32 (object, sub)) (range_with_len (first + 1) (length ms))
          ≡ true = second_of _ _ test in
          one_taken (write_at object first (mapped_bytes m)) (mapped_writes object (first + 1) ms)
          (write_taken object first Bits32 (mapped_bytes m) here (All-head P m ms are) refl)
          (entries_taken object (first + 1) ms rest (All-tail P m ms are))

      pub mapping_taken : (object : ℕ) (mapping : List Mapped) → takes Bits8 (object, 0) ≡ true
          → list_all (λ sub. takes Bits32 (object, sub)) (range_with_len 1 (length mapping)) ≡ true
          → length mapping < 256 → AreMapped mapping → AreTaken (mapping_writes object mapping)
      mapping_taken object mapping count entries short are =
          let last : List Write = write_at object 0 (length mapping ∷ []) ∷ [] in
          one_taken (write_at object 0 (0 ∷ [])) (mapped_writes object 1 mapping ++ last)
          (write_taken object 0 Bits8 (0 ∷ []) count (one_byte 0 (omega arith)) refl)
          (both_taken (mapped_writes object 1 mapping) last
          (entries_taken object 1 mapping entries are)
          (one_taken (write_at object 0 (length mapping ∷ [])) []
          (write_taken object 0 Bits8 (length mapping ∷ []) count (one_byte (length mapping) short) refl)
          none_taken))

    -- the mapping of a PDO that the device has
    has_mapping_taken : (object : ℕ) (mapping : List Mapped)
        → has_mapping (devices_of false None ((node, sheet) ∷ [])) node object (length mapping) ≡ true
        → length mapping < 256 → AreMapped mapping → AreTaken (mapping_writes object mapping)
    unfolding has_mapping
    has_mapping_taken object mapping test short are =
        mapping_taken (λ width place. has_unsigned (devices_of false None ((node, sheet) ∷ [])) node width place)
        (λ width place is. has_sound sheet node width place is) object mapping (first_of _ _ test) (second_of _ _ test)
        short are

    cob_taken : (object cob : ℕ) → has_unsigned (devices_of false None ((node, sheet) ∷ [])) node Bits32 (object, 1) ≡ true
        → IsTaken sheet node (cob_write object cob)
    cob_taken object cob test = has_taken sheet node object 1 Bits32 (little_bytes 4 cob) test (four_bytes cob) refl

    -- ---- PDOs

    pub tpdo_taken : (c : Clean) → HasPdo sheet node (tpdo_object c.message.tpdo) (length c.mapping)
        → c.message.transmission < 256 → c.start < 256
        → length c.mapping < 256 → AreMapped c.mapping → All (IsTaken sheet node) (tpdo_writes sheet node c)
    unfolding tpdo_writes
    tpdo_taken c has transmission started short are =
        let object : ℕ = tpdo_object c.message.tpdo in
        let cob : has_unsigned (devices_of false None ((node, sheet) ∷ [])) node Bits32 (object, 1)
        ≡ true = first_of _ _ (first_of _ _ has) in
        let kind : has_unsigned (devices_of false None ((node, sheet) ∷ [])) node Bits8 (object, 2)
        ≡ true = second_of _ _ (first_of _ _ has) in
        let off : ℕ = off_bit + (no_rtr_bit + c.identifier) in
        let type : List ℕ = c.message.transmission ∷ [] in
        let times : List Write = time_write sheet node object 3 c.message.inhibit
        ++ time_write sheet node object 5 c.message.event in
        let start : List Write = start_write sheet node object c.start in
        let rest : List Write = times ++ start ++ mapping_writes (mapping_object object) c.mapping in
        let on : List Write = cob_write object (no_rtr_bit + c.identifier) ∷ [] in
        one_taken (cob_write object off) (write_at object 2 type ∷ (rest ++ on)) (cob_taken object off cob)
        (one_taken (write_at object 2 type) (rest ++ on)
        (has_taken sheet node object 2 Bits8 type kind (one_byte c.message.transmission transmission) refl)
        (both_taken rest on
        (both_taken (times ++ start) (mapping_writes (mapping_object object) c.mapping)
        (both_taken times start
        (both_taken (time_write sheet node object 3 c.message.inhibit) (time_write sheet node object 5 c.message.event)
        (time_taken object 3 c.message.inhibit) (time_taken object 5 c.message.event))
        (start_taken object c.start started))
        (has_mapping_taken (mapping_object object) c.mapping (second_of _ _ has) short are))
        (one_taken (cob_write object (no_rtr_bit + c.identifier)) [] (cob_taken object (no_rtr_bit + c.identifier) cob)
        none_taken)))

    taken_byte : (transmission : ℕ) → taken_type transmission < 256
    taken_byte transmission = grind arith

    pub rpdo_taken : (c : Clean) (k : Consumer) → HasPdo sheet node (rpdo_object k.rpdo) (length k.mapping)
        → length k.mapping < 256 → AreMapped k.mapping → All (IsTaken sheet node) (rpdo_writes c k)
    unfolding rpdo_writes
    rpdo_taken c k has short are =
        let object : ℕ = rpdo_object k.rpdo in
        let cob : has_unsigned (devices_of false None ((node, sheet) ∷ [])) node Bits32 (object, 1)
        ≡ true = first_of _ _ (first_of _ _ has) in
        let kind : has_unsigned (devices_of false None ((node, sheet) ∷ [])) node Bits8 (object, 2)
        ≡ true = second_of _ _ (first_of _ _ has) in
        let type : List ℕ = taken_type c.message.transmission ∷ [] in
        let rest : List Write = mapping_writes (mapping_object object) k.mapping in
        let on : List Write = cob_write object c.identifier ∷ [] in
        one_taken (cob_write object (off_bit + c.identifier)) (write_at object 2 type ∷ (rest ++ on))
        (cob_taken object (off_bit + c.identifier) cob)
        (one_taken (write_at object 2 type) (rest ++ on)
        (has_taken sheet node object 2 Bits8 type kind (one_byte (taken_type c.message.transmission)
        (taken_byte c.message.transmission)) refl)
        (both_taken rest on
        (has_mapping_taken (mapping_object object) k.mapping (second_of _ _ has) short are)
        (one_taken (cob_write object c.identifier) [] (cob_taken object c.identifier cob) none_taken)))

  -- ---- their values

  pub tpdo_values : (node : ℕ) (c : Clean) → HasPdo sheet node (tpdo_object c.message.tpdo) (length c.mapping)
      → c.message.transmission < 256 → c.start < 256
      → length c.mapping < 256 → AreMapped c.mapping → AreValues sheet (tpdo_writes sheet node c)
  tpdo_values node c has transmission started short are = taken_values node (tpdo_writes sheet node c)
      (tpdo_taken node c has transmission started short are)

  pub rpdo_values : (node : ℕ) (c : Clean) (k : Consumer) → HasPdo sheet node (rpdo_object k.rpdo) (length k.mapping)
      → length k.mapping < 256 → AreMapped k.mapping → AreValues sheet (rpdo_writes c k)
  rpdo_values node c k has short are = taken_values node (rpdo_writes c k) (rpdo_taken node c k has short are)
