-- In which order a PDO is configured, and whose writes a node gets, in the words of CiA 301.
use Rattle.std.specs.Prelude.{◌≡◌, ◌⊎◌, ℕ, ◌+◌, ◌==◌, ◌&&◌, Bool, true, false, not, List, [], ◌∷◌, ◌++◌, length, All}
use Rattle.std.specs.Prelude.{filter, Contains, Option, Some, IsTrue, IsFalse}
use Rattle.byteorder.specs.Endian.{little_number}
use Rattle.cia301.specs.CobIds.{identifier_in, is_valid, off_bit}
use Rattle.concise_dcf.specs.declared.write.Write.{Write}
use Rattle.eds_device.specs.Sheets.{Sheet}
use Rattle.pdo_choices.specs.declared.clean.Clean.{Clean}
use Rattle.pdo_choices.specs.declared.consumer.Consumer.{Consumer}
use Rattle.pdo_stations.specs.declared.mapped.Mapped.{Mapped}
use Rattle.pdo_stations.specs.declared.as_made.AsMade.{AsMade}
use Rattle.cia301.specs.PdoObjects.{mapping_object, rpdo_object, tpdo_object}
use Rattle.vendor_pdos.specs.Mappings.{writes_mapping}
use Rattle.vendor_pdos.specs.Parameters.{is_open, parameter_default}
use Rattle.pdo_links.specs.PdoWrites.{write_at, mapped_writes, rpdo_of, tpdo_of}
use Rattle.pdo_links.specs.VendorWrites.{unused_writes, vendor_rpdo_writes, vendor_tpdo_writes}
use Rattle.pdo_links.specs.Writes.{tpdo_writes, rpdo_writes}
use Rattle.cia301.specs.Limits.{is_pdo_number}

-- ---- order

-- a write is to this entry
abbrev pub is_to : ℕ → ℕ → Write → Bool
is_to index sub w = (w.sub == sub) && (w.index == index)

-- the writes to an object
abbrev pub to_object : ℕ → List Write → List Write
to_object index ws = filter (λ w. w.index == index) ws

-- an entry is written twice, and each write to another entry stands between the two
abbrev pub AreBetween : (Write → Bool) → Write → Write → List Write → Type 0
AreBetween is_of_entry first last ws = (before after : List Write) (w : Write) → ws ≡ before ++ w ∷ after
    → is_of_entry w ≡ false
    → (filter is_of_entry before ≡ first ∷ []) × (filter is_of_entry after ≡ last ∷ [])

-- bit 31 of a COB-ID: the PDO is off
abbrev pub is_off : Write → Bool
is_off cob = not (is_valid (little_number 4 cob.bytes))

-- the identifier of a COB-ID
abbrev pub identifier_set : Write → ℕ
identifier_set cob = identifier_in (little_number 4 cob.bytes)

-- a PDO is off while it is configured, and in the end on with its identifier
pub record IsSwitched (object identifier : ℕ) (ws : List Write) : Type 0 where
  pub off : Write
  pub on : Write
  pub meanwhile : AreBetween (is_to object 1) off on ws
  pub is_switched_off : is_off off ≡ true
  pub is_switched_on : is_off on ≡ false
  pub has_identifier : identifier_set on ≡ identifier

-- its mapping entries are written while their count is 0; in the end the count is theirs
pub record IsMapped (object : ℕ) (mapping : List Mapped) (ws : List Write) : Type 0 where
  pub counted : AreBetween (is_to (mapping_object object) 0) (write_at (mapping_object object) 0 (0 ∷ []))
      (write_at (mapping_object object) 0 (length mapping ∷ [])) (to_object (mapping_object object) ws)
  pub entries : filter (λ w. not (is_to (mapping_object object) 0 w)) (to_object (mapping_object object) ws)
      ≡ mapped_writes (mapping_object object) 1 mapping

-- a PDO is configured with a mapping while it is off
abbrev pub IsConfigured : ℕ → ℕ → List Mapped → List Write → Type 0
IsConfigured object identifier mapping ws = IsSwitched object identifier ws × IsMapped object mapping ws

-- a write of the transmission type or the event timer of a PDO
abbrev pub IsOfTiming : ℕ → Write → Type 0
IsOfTiming object w = (w.index ≡ object) × ((w.sub ≡ 2) ⊎ (w.sub ≡ 5))

-- a PDO is configured as its vendor made it: an open one while it is off, and mapped where its mapping can be written;
-- of a closed one transmission type and event timer alone are written, and nothing of a mapping that stands
pub record IsConfiguredAsMade (device : AsMade) (object identifier : ℕ) (mapping : List Mapped)
    (ws : List Write) : Type 0 where
  pub when_open : IsTrue (is_open device object) → IsSwitched object identifier ws
  pub when_closed : IsFalse (is_open device object) → All (IsOfTiming object) ws
  pub when_mapped : IsTrue (writes_mapping device object (length mapping)) → IsMapped object mapping ws
  pub when_it_stands : IsFalse (writes_mapping device object (length mapping)) → to_object (mapping_object object) ws ≡ []

-- a write of a COB-ID that a PDO has by default, but off
abbrev pub TurnsOff : AsMade → ℕ → Write → Type 0
TurnsOff device object w = IsTrue (is_to object 1 w) × IsTrue (is_off w)
    × (little_number 4 w.bytes ≡ off_bit + parameter_default device object 1)

-- ---- whose writes

-- a write of the TPDO by which a node sends one of the messages
abbrev pub IsOfSent : List Clean → Sheet → ℕ → Write → Type 0
IsOfSent cs sheet node w = (c : Clean) × Contains cs c × (c.message.node ≡ node) × Contains (tpdo_writes sheet node c) w

-- a write of the RPDO by which a node takes one of them
abbrev pub IsOfTaken : List Clean → ℕ → Write → Type 0
IsOfTaken cs node w = (c : Clean) × Contains cs c
    × ((k : Consumer) × Contains c.consumers k × (k.node ≡ node) × Contains (rpdo_writes c k) w)

-- no message is sent or taken by a node
abbrev pub IsNamedByNone : List Clean → ℕ → Type 0
IsNamedByNone cs node = (c : Clean) → Contains cs c
    → ((c.message.node ≡ node → ⊥) × ((k : Consumer) → Contains c.consumers k → k.node ≡ node → ⊥))

-- a node sends a message by a TPDO, and no other of the messages by that one
pub record IsSentAlone (cs : List Clean) (node : ℕ) (c : Clean) : Type 0 where
  pub there : Contains cs c
  pub sender : c.message.node ≡ node
  pub numbered : is_pdo_number c.message.tpdo ≡ true
  pub alone : (d : Clean) → Contains cs d → d.message.node ≡ node → d.message.tpdo ≡ c.message.tpdo → d ≡ c

-- a node takes a message by an RPDO alone, and no other of the messages by that one
pub record IsTakenAlone (cs : List Clean) (node : ℕ) (c : Clean) (k : Consumer) : Type 0 where
  pub there : Contains cs c
  pub consumer : Contains c.consumers k
  pub taker : k.node ≡ node
  pub numbered : is_pdo_number k.rpdo ≡ true
  pub once : (j : Consumer) → Contains c.consumers j → j.node ≡ node → j ≡ k
  pub alone : (d : Clean) (j : Consumer) → Contains cs d → Contains d.consumers j → j.node ≡ node → j.rpdo ≡ k.rpdo
      → d ≡ c

-- ---- the same of a node as its vendor made it

-- a write of the TPDO by which it sends one of the messages
abbrev pub IsOfSentAsMade : List Clean → AsMade → ℕ → Write → Type 0
IsOfSentAsMade cs device node w =
    (c : Clean) × Contains cs c × (c.message.node ≡ node) × Contains (vendor_tpdo_writes device c) w

-- a write of the RPDO by which it takes one of them
abbrev pub IsOfTakenAsMade : List Clean → AsMade → ℕ → Write → Type 0
IsOfTakenAsMade cs device node w = (c : Clean) × Contains cs c
    × ((k : Consumer) × Contains c.consumers k × (k.node ≡ node) × Contains (vendor_rpdo_writes device c k) w)

-- none of the messages uses a PDO of a number
abbrev pub IsUsedByNone : {X : Type 0} → (Clean → Option (ℕ × X)) → List Clean → ℕ → Type 0
IsUsedByNone {X} pdo_of cs number = (c : Clean) (x : X) → Contains cs c → pdo_of c ≡ Some (number, x) → ⊥

-- a write of a TPDO or an RPDO that none uses
abbrev pub IsOfUnused : List Clean → AsMade → ℕ → Write → Type 0
IsOfUnused cs device node w = (number : ℕ) × (is_pdo_number number ≡ true)
    × ((IsUsedByNone (tpdo_of node) cs number × Contains (unused_writes device (tpdo_object number)) w)
    ⊎ (IsUsedByNone (rpdo_of node) cs number × Contains (unused_writes device (rpdo_object number)) w))
