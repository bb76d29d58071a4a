-- The sizes and the number of the writes of the PDOs of a device as its vendor made it.
use Rattle.std.proofs.Common.{◌≡◌, ℕ, ◌+◌, ◌≤◌, Bool, true, false, ◌&&◌, List, [], ◌∷◌, ◌++◌, length, Some}
use Rattle.std.proofs.Common.{arith}
use Rattle.std.specs.Prelude.{◌==◌, ◌||◌, not, if◌then◌else◌}
use Rattle.std.specs.BTreeMap.{is_at}
use Rattle.std.specs.Map.{lookup}
use Rattle.std.specs.Ordering.{nat_cmp}
use Rattle.byteorder.specs.Endian.{little_bytes}
use Rattle.co_values.specs.declared.form.Width.{Width}
use Rattle.co_values.specs.declared.form.Width.TheVariants.{Bits8, Bits16, Bits24, Bits32, Bits40, Bits48, Bits56, Bits64}
use Rattle.co_values.specs.Types.{octets}
use Rattle.cia301.specs.CobIds.{is_valid, no_rtr_bit, off_bit}
use Rattle.cia301.specs.PdoObjects.{mapping_object, rpdo_object, tpdo_object}
use Rattle.concise_dcf.specs.declared.write.Write.{Write}
use Rattle.pdo_choices.specs.declared.clean.Clean.{Clean}
use Rattle.pdo_choices.specs.declared.consumer.Consumer.{Consumer}
use Rattle.pdo_stations.specs.declared.as_made.AsMade.{AsMade}
use Rattle.pdo_stations.specs.declared.mapped.Mapped.{Mapped}
use Rattle.vendor_pdos.specs.Mappings.{writes_mapping}
use Rattle.vendor_pdos.specs.Parameters.{can_be_set, is_open, parameter_default, parameter_width}
use Rattle.pdo_links.specs.Tables.{AreFew}
use Rattle.pdo_links.specs.PdoWrites.{cob_write, mapping_writes, taken_type, write_at}
use Rattle.pdo_links.specs.VendorWrites.{allows, configured, each_by_number, parameter_write, pdo_writes, unused_writes}
use Rattle.pdo_links.specs.VendorWrites.{vendor_rpdo_writes, vendor_tpdo_writes}
use Rattle.pdo_links.proofs.EachNumber.{each_few}
use Rattle.pdo_links.proofs.Held.{at_most, holds_both, holds_none, holds_one, Holds, IsSized}
use Rattle.pdo_links.proofs.Sizes.{mapping_held, word_sized}

number_sized : (object sub number : ℕ) (width : Width) → IsSized (write_at object sub (little_bytes (octets width) number))
number_sized object sub number Bits8 = (omega arith, omega arith)
number_sized object sub number Bits16 = (omega arith, omega arith)
number_sized object sub number Bits24 = (omega arith, omega arith)
number_sized object sub number Bits32 = (omega arith, omega arith)
number_sized object sub number Bits40 = (omega arith, omega arith)
number_sized object sub number Bits48 = (omega arith, omega arith)
number_sized object sub number Bits56 = (omega arith, omega arith)
number_sized object sub number Bits64 = (omega arith, omega arith)

parameter_held : (device : AsMade) (object sub number : ℕ) → Holds 1 (parameter_write device object sub number)
parameter_held device object sub number =
    by (can_be_set device object sub && (sub == 2 || not (number == 0) || allows device object sub 0))
  where
    by : (b : Bool) → let ws : List Write = if b then write_at object sub
        (little_bytes (octets (parameter_width sub)) number) ∷ [] else [] in Holds 1 ws
    by true = holds_one 0 (write_at object sub (little_bytes (octets (parameter_width sub)) number)) []
        (number_sized object sub number (parameter_width sub)) holds_none
    by false = at_most 0 1 [] (omega arith) holds_none

items_held : (device : AsMade) (object : ℕ) (mapping : List Mapped) → length mapping ≤ 64
    → (let ws : List Write = if writes_mapping device object (length mapping)
    then mapping_writes (mapping_object object) mapping else [] in Holds 66 ws)
items_held device object mapping short = by (writes_mapping device object (length mapping))
  where
    by : (b : Bool) → let ws : List Write = if b then mapping_writes (mapping_object object) mapping else []
        in Holds 66 ws
    by true = mapping_held (mapping_object object) mapping short
    by false = at_most 0 66 [] (omega arith) holds_none

pdo_held : (device : AsMade) (object cob : ℕ) (settings : List Write) (mapping : List Mapped) → Holds 4 settings
    → length mapping ≤ 64 → Holds 72 (pdo_writes device object cob settings mapping)
unfolding pdo_writes
pdo_held device object cob settings mapping few short = by (is_open device object)
  where
    items : List Write
    items = if writes_mapping device object (length mapping) then mapping_writes (mapping_object object) mapping else []

    by : (b : Bool) → let ws : List Write = if b then configured object cob settings items else settings in Holds 72 ws
    by true =
        holds_one 71 (cob_write object (off_bit + cob)) (settings ++ items ++ cob_write object cob ∷ [])
        (word_sized object 1 (off_bit + cob))
        (holds_both 70 1 (settings ++ items) (cob_write object cob ∷ [])
        (holds_both 4 66 settings items few (items_held device object mapping short))
        (holds_one 0 (cob_write object cob) [] (word_sized object 1 cob) holds_none))
    by false = at_most 4 72 settings (omega arith) few

tpdo_held : (device : AsMade) (c : Clean) → length c.mapping ≤ 64 → Holds 72 (vendor_tpdo_writes device c)
unfolding vendor_tpdo_writes
tpdo_held device c short =
    let object : ℕ = tpdo_object c.message.tpdo in
    let type : List Write = parameter_write device object 2 c.message.transmission in
    let inhibit : List Write = parameter_write device object 3 c.message.inhibit in
    let event : List Write = parameter_write device object 5 c.message.event in
    let start : List Write = parameter_write device object 6 c.start in
    pdo_held device object (no_rtr_bit + c.identifier) (type ++ inhibit ++ event ++ start) c.mapping
    (holds_both 3 1 (type ++ inhibit ++ event) start
    (holds_both 2 1 (type ++ inhibit) event
    (holds_both 1 1 type inhibit (parameter_held device object 2 c.message.transmission)
    (parameter_held device object 3 c.message.inhibit)) (parameter_held device object 5 c.message.event))
    (parameter_held device object 6 c.start)) short

event_held : (device : AsMade) (object event : ℕ)
    → (let ws : List Write = if event == 0 then [] else parameter_write device object 5 event in Holds 1 ws)
event_held device object event = by (event == 0)
  where
    by : (b : Bool) → let ws : List Write = if b then [] else parameter_write device object 5 event in Holds 1 ws
    by true = at_most 0 1 [] (omega arith) holds_none
    by false = parameter_held device object 5 event

rpdo_held : (device : AsMade) (c : Clean) (k : Consumer) → length k.mapping ≤ 64
    → Holds 72 (vendor_rpdo_writes device c k)
unfolding vendor_rpdo_writes
rpdo_held device c k short =
    let object : ℕ = rpdo_object k.rpdo in
    let type : List Write = parameter_write device object 2 (taken_type c.message.transmission) in
    let event : List Write = if k.event == 0 then [] else parameter_write device object 5 k.event in
    pdo_held device object c.identifier (type ++ event) k.mapping
    (at_most 2 4 (type ++ event) (omega arith)
    (holds_both 1 1 type event (parameter_held device object 2 (taken_type c.message.transmission))
    (event_held device object k.event))) short

unused_held : (device : AsMade) (object : ℕ) → Holds 72 (unused_writes device object)
unfolding unused_writes
unused_held device object =
    by (is_open device object && is_valid (parameter_default device object 1)
    && allows device object 1 (off_bit + parameter_default device object 1))
  where
    by : (b : Bool)
        → let ws : List Write = if b then cob_write object (off_bit + parameter_default device object 1) ∷ [] else []
        in Holds 72 ws
    by true =
        at_most 1 72 (cob_write object (off_bit + parameter_default device object 1) ∷ []) (omega arith)
        (holds_one 0 (cob_write object (off_bit + parameter_default device object 1)) []
        (word_sized object 1 (off_bit + parameter_default device object 1)) holds_none)
    by false = at_most 0 72 [] (omega arith) holds_none

pub few_vendor_tpdos : (device : AsMade) (pdos : List (ℕ × Clean))
    → ((number : ℕ) (c : Clean) → lookup (is_at (nat_cmp number)) pdos ≡ Some c → length c.mapping ≤ 64)
    → AreFew (each_by_number (vendor_tpdo_writes device) (λ number. unused_writes device (tpdo_object number)) pdos)
few_vendor_tpdos device pdos short =
    each_few (vendor_tpdo_writes device) (λ number. unused_writes device (tpdo_object number)) pdos
    (λ number c is. tpdo_held device c (short number c is)) (λ number. unused_held device (tpdo_object number))

pub few_vendor_rpdos : (device : AsMade) (pdos : List (ℕ × (Clean × Consumer)))
    → ((number : ℕ) (t : Clean × Consumer) → lookup (is_at (nat_cmp number)) pdos ≡ Some t → length t.1.mapping ≤ 64)
    → AreFew (each_by_number (λ (t : Clean × Consumer). vendor_rpdo_writes device t.0 t.1)
    (λ number. unused_writes device (rpdo_object number)) pdos)
few_vendor_rpdos device pdos short =
    each_few (λ (t : Clean × Consumer). vendor_rpdo_writes device t.0 t.1)
    (λ number. unused_writes device (rpdo_object number)) pdos
    (λ number t is. rpdo_held device t.0 t.1 (short number t is)) (λ number. unused_held device (rpdo_object number))
