-- Writes of entries: which entry of which node was written, with which bytes, and by what.
use Rattle.std.specs.Prelude.{◌≡◌, ◌≢◌, ℕ, List, [], ◌∷◌, All, map}
use Rattle.std.specs.FinMap.{get, insert}
use Rattle.co_dict.specs.Values.{Values}

-- the application sets an entry by an event, an RPDO brings its value, or the SDO server stores it
pub data Writer : Type 0 where
  Event : Writer
  Rpdo : Writer
  Sdo : Writer

-- an entry of a node was written, also with the value that it had
pub record Written : Type 0 where
  pub node : ℕ
  pub place : ℕ × ℕ
  pub bytes : List ℕ
  pub by : Writer

-- an entry, and the bytes of a write to it
pub record EntryValue : Type 0 where
  pub place : ℕ × ℕ
  pub bytes : List ℕ

-- entries of a node, written one after another
abbrev pub written_by : Writer → ℕ → List EntryValue → List Written
written_by writer node entries =
    map (λ e. record { node = node; place = e.place; bytes = e.bytes; by = writer }) entries

-- each of them is of this node
abbrev pub AreOf : ℕ → List Written → Type 0
AreOf node writes = All (λ w. w.node ≡ node) writes

-- none of them is by SDO
abbrev pub NoneBySdo : List Written → Type 0
NoneBySdo writes = All (λ w. w.by ≢ Sdo) writes

-- the error register, which the device itself sets and clears
abbrev pub error_register : ℕ × ℕ
error_register = (0x1001, 0)

-- two dictionaries have the same values but for the error register
abbrev pub AgreeButRegister : Values → Values → Type 0
AgreeButRegister before after = (place : ℕ × ℕ) → place ≢ error_register → get after place ≡ get before place

-- the values that writes leave, stored one after another
abbrev pub with_writes : List Written → Values → Values
with_writes [] values = values
with_writes (w ∷ writes) values = with_writes writes (insert values w.place w.bytes)

-- THE VALUES AFTER ARE THE WRITES, STORED ONE AFTER ANOTHER OVER THOSE BEFORE, but for the error register
abbrev pub AreStored : List Written → Values → Values → Type 0
AreStored writes before after = AgreeButRegister (with_writes writes before) after
