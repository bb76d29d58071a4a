-- The sizes and the number of the writes of PDOs.
use Rattle.std.proofs.Common.{◌≡◌, ℕ, ◌+◌, ◌≤◌, Bool, true, false, List, [], ◌∷◌, ◌++◌, length}
use Rattle.std.proofs.Common.{Some, arith}
use Rattle.std.specs.Prelude.{if◌then◌else◌}
use Rattle.std.specs.BTreeMap.{is_at}
use Rattle.std.specs.Map.{lookup}
use Rattle.std.specs.Option.{option_map_or}
use Rattle.std.specs.Ordering.{nat_cmp}
use Rattle.byteorder.specs.Endian.{little_bytes}
use Rattle.co_values.specs.declared.form.Width.TheVariants.{Bits8, Bits16}
use Rattle.cia301.specs.CobIds.{no_rtr_bit, off_bit}
use Rattle.concise_dcf.specs.declared.write.Write.{Write}
use Rattle.eds_device.specs.Entries.{entry_at}
use Rattle.eds_device.specs.Sheets.{Sheet}
use Rattle.pdo_choices.specs.declared.clean.Clean.{Clean}
use Rattle.pdo_choices.specs.declared.consumer.Consumer.{Consumer}
use Rattle.pdo_stations.specs.declared.mapped.Mapped.{Mapped}
use Rattle.pdo_stations.specs.Devices.{takes_unsigned}
use Rattle.cia301.specs.PdoObjects.{mapping_object, rpdo_object, tpdo_object}
use Rattle.pdo_plan.specs.Mapping.{mapped_bytes}
use Rattle.pdo_links.specs.Tables.{AreFew}
use Rattle.pdo_links.specs.VendorWrites.{each_by_number}
use Rattle.pdo_links.specs.PdoWrites.{write_at, cob_write, mapped_writes, mapping_writes, taken_type}
use Rattle.pdo_links.specs.Writes.{start_write, time_write}
use Rattle.pdo_links.specs.Writes.{tpdo_writes, rpdo_writes, by_number}
use Rattle.pdo_links.proofs.EachNumber.{each_few}
use Rattle.pdo_links.proofs.Held.{at_most, holds_both, holds_none, holds_one, Holds, IsSized}

pub byte_sized : (object sub n : ℕ) → IsSized (write_at object sub (n ∷ []))
byte_sized object sub n = (omega arith, omega arith)

pub word_sized : (object sub n : ℕ) → IsSized (write_at object sub (little_bytes 4 n))
word_sized object sub n = (omega arith, omega arith)

time_held : (sheet : Sheet) (node object sub time : ℕ) → Holds 1 (time_write sheet node object sub time)
time_held sheet node object sub time = by (option_map_or (takes_unsigned Bits16) (entry_at sheet node object sub) false)
  where
    by : (b : Bool) → let ws : List Write = if b then write_at object sub (little_bytes 2 time) ∷ [] else []
        in Holds 1 ws
    by true = holds_one 0 (write_at object sub (little_bytes 2 time)) [] (omega arith, omega arith) holds_none
    by false = at_most 0 1 [] (omega arith) holds_none

start_held : (sheet : Sheet) (node object start : ℕ) → Holds 1 (start_write sheet node object start)
start_held sheet node object start = by (option_map_or (takes_unsigned Bits8) (entry_at sheet node object 6) false)
  where
    by : (b : Bool) → let ws : List Write = if b then write_at object 6 (start ∷ []) ∷ [] else [] in Holds 1 ws
    by true = holds_one 0 (write_at object 6 (start ∷ [])) [] (byte_sized object 6 start) holds_none
    by false = at_most 0 1 [] (omega arith) holds_none

entries_held : (object first : ℕ) (mapping : List Mapped) → Holds (length mapping) (mapped_writes object first mapping)
entries_held object first [] = holds_none
entries_held object first (m ∷ ms) =
    at_most (1 + length ms) (length (m ∷ ms)) (mapped_writes object first (m ∷ ms)) (omega arith)
    (holds_one (length ms) (write_at object first (mapped_bytes m)) (mapped_writes object (first + 1) ms)
    (omega arith, omega arith) (entries_held object (first + 1) ms))

pub mapping_held : (object : ℕ) (mapping : List Mapped) → length mapping ≤ 64 → Holds 66 (mapping_writes object mapping)
mapping_held object mapping short =
    at_most (1 + (length mapping + 1)) 66 (mapping_writes object mapping) (omega arith)
    (holds_one (length mapping + 1) (write_at object 0 (0 ∷ []))
    (mapped_writes object 1 mapping ++ write_at object 0 (length mapping ∷ []) ∷ []) (byte_sized object 0 0)
    (holds_both (length mapping) 1 (mapped_writes object 1 mapping) (write_at object 0 (length mapping ∷ []) ∷ [])
    (entries_held object 1 mapping)
    (holds_one 0 (write_at object 0 (length mapping ∷ [])) [] (byte_sized object 0 (length mapping)) holds_none)))

tpdo_held : (sheet : Sheet) (node : ℕ) (c : Clean) → length c.mapping ≤ 64 → Holds 72 (tpdo_writes sheet node c)
unfolding tpdo_writes
tpdo_held sheet node c short =
    let object : ℕ = tpdo_object c.message.tpdo in
    let inhibit : List Write = time_write sheet node object 3 c.message.inhibit in
    let event : List Write = time_write sheet node object 5 c.message.event in
    let start : List Write = start_write sheet node object c.start in
    holds_one 71 (cob_write object (off_bit + (no_rtr_bit + c.identifier))) _
    (word_sized object 1 (off_bit + (no_rtr_bit + c.identifier)))
    (holds_one 70 (write_at object 2 (c.message.transmission ∷ [])) _ (byte_sized object 2 c.message.transmission)
    (holds_both 69 1 (inhibit ++ event ++ start ++ mapping_writes (mapping_object object) c.mapping)
    (cob_write object (no_rtr_bit + c.identifier) ∷ [])
    (holds_both 3 66 (inhibit ++ event ++ start) (mapping_writes (mapping_object object) c.mapping)
    (holds_both 2 1 (inhibit ++ event) start
    (holds_both 1 1 inhibit event (time_held sheet node object 3 c.message.inhibit)
    (time_held sheet node object 5 c.message.event)) (start_held sheet node object c.start))
    (mapping_held (mapping_object object) c.mapping short))
    (holds_one 0 (cob_write object (no_rtr_bit + c.identifier)) [] (word_sized object 1 (no_rtr_bit + c.identifier))
    holds_none)))

rpdo_held : (c : Clean) (k : Consumer) → length k.mapping ≤ 64 → Holds 72 (rpdo_writes c k)
unfolding rpdo_writes
rpdo_held c k short =
    let object : ℕ = rpdo_object k.rpdo in
    let writes : Holds 69 (rpdo_writes c k) =
    holds_one 68 (cob_write object (off_bit + c.identifier)) _ (word_sized object 1 (off_bit + c.identifier))
    (holds_one 67 (write_at object 2 (taken_type c.message.transmission ∷ [])) _
    (byte_sized object 2 (taken_type c.message.transmission))
    (holds_both 66 1 (mapping_writes (mapping_object object) k.mapping) (cob_write object c.identifier ∷ [])
    (mapping_held (mapping_object object) k.mapping short)
    (holds_one 0 (cob_write object c.identifier) [] (word_sized object 1 c.identifier) holds_none))) in
    at_most 69 72 (rpdo_writes c k) (omega arith) writes

-- ---- by number

nothing_held : Holds 72 []
nothing_held = at_most 0 72 [] (omega arith) holds_none

few : {Y : Type 0} (f : Y → List Write) (pdos : List (ℕ × Y))
    → ((number : ℕ) (y : Y) → lookup (is_at (nat_cmp number)) pdos ≡ Some y → Holds 72 (f y))
    → AreFew (by_number f pdos)
unfolding by_number each_by_number
few f pdos each = each_few f (λ number. []) pdos each (λ number. nothing_held)

pub few_tpdos : (sheet : Sheet) (node : ℕ) (pdos : List (ℕ × Clean))
    → ((number : ℕ) (c : Clean) → lookup (is_at (nat_cmp number)) pdos ≡ Some c → length c.mapping ≤ 64)
    → AreFew (by_number (tpdo_writes sheet node) pdos)
few_tpdos sheet node pdos short = few (tpdo_writes sheet node) pdos (λ number c is. tpdo_held sheet node c (short number c is))

pub few_rpdos : (pdos : List (ℕ × (Clean × Consumer)))
    → ((number : ℕ) (t : Clean × Consumer) → lookup (is_at (nat_cmp number)) pdos ≡ Some t → length t.1.mapping ≤ 64)
    → AreFew (by_number (λ (t : Clean × Consumer). rpdo_writes t.0 t.1) pdos)
few_rpdos pdos short =
    few (λ (t : Clean × Consumer). rpdo_writes t.0 t.1) pdos (λ number t is. rpdo_held t.0 t.1 (short number t is))
