-- Writes to the objects of a PDO, and which PDOs of a node are used.
use Rattle.std.specs.Prelude.{ℕ, ◌==◌, if◌then◌else◌, List, [], ◌∷◌, ◌++◌, length, map, Option, Some, None, option_map}
use Rattle.std.specs.List.{find, enumerate_from}
use Rattle.byteorder.specs.Endian.{little_bytes}
use Rattle.cia301.specs.TransmissionTypes.{is_synchronous, type_of_byte}
use Rattle.concise_dcf.specs.declared.write.Write.{Write}
use Rattle.pdo_choices.specs.declared.clean.Clean.{Clean}
use Rattle.pdo_choices.specs.declared.consumer.Consumer.{Consumer}
use Rattle.pdo_plan.specs.Mapping.{mapped_bytes}
use Rattle.pdo_stations.specs.declared.mapped.Mapped.{Mapped}

abbrev pub write_at : ℕ → ℕ → List ℕ → Write
write_at index sub bytes = record { index = index; sub = sub; bytes = bytes }

abbrev pub cob_write : ℕ → ℕ → Write
cob_write object cob = write_at object 1 (little_bytes 4 cob)

-- the mapping entries, one a sub, from a sub on
abbrev pub mapped_writes : ℕ → ℕ → List Mapped → List Write
mapped_writes object first mapping = map (λ e. write_at object e.0 (mapped_bytes e.1)) (enumerate_from first mapping)

-- a mapping is switched off by count 0, its entries are written from sub 1 on, and then their count
abbrev pub mapping_writes : ℕ → List Mapped → List Write
mapping_writes object mapping =
    write_at object 0 (0 ∷ []) ∷ (mapped_writes object 1 mapping ++ write_at object 0 (length mapping ∷ []) ∷ [])

-- the transmission type of the RPDOs of a message: with the SYNC for 0 to 240, else at once
abbrev pub taken_type : ℕ → ℕ
taken_type transmission = if is_synchronous (type_of_byte transmission) then 0 else 255

-- ---- by number

-- the TPDO by which a node sends a message, by its number
abbrev pub tpdo_of : ℕ → Clean → Option (ℕ × Clean)
tpdo_of node c = if c.message.node == node then Some (c.message.tpdo, c) else None

-- the RPDO by which a node takes a message, by its number
abbrev pub rpdo_of : ℕ → Clean → Option (ℕ × (Clean × Consumer))
rpdo_of node c = option_map (λ k. (k.rpdo, (c, k))) (find (λ k. k.node == node) c.consumers)
