-- What the writes of a node give its entries, and what the device holds by itself that the manager runs in.
use Rattle.std.specs.Prelude.{◌≡◌, ◌≢◌, ℕ, ◌<◌, ◌≤◌, List, Some, None}
use Rattle.std.specs.FinMap.{get}
use Rattle.concise_dcf.specs.Writes.{place_of}
use Rattle.concise_dcf.specs.declared.write.Write.{Write}
use Rattle.image_parts.specs.Contents.{Image, shape_of, values_of, write_of}
use Rattle.image_parts.specs.declared.part.Part.TheVariants as part

-- the producer heartbeat time (CiA 301, object 1017h)
abbrev pub producer_time : ℕ × ℕ
producer_time = (0x1017, 0)

-- ---- the writes of a node, 0, 1 and on, up to the first that is absent

-- the node has this write
abbrev pub IsWrite : Image → ℕ → ℕ → Write → Type 0
IsWrite image node number write = write_of (image (part.Boot node number)) ≡ Some write

-- none up to this number is absent
abbrev pub HasWritesUpTo : Image → ℕ → ℕ → Type 0
HasWritesUpTo image node number = (k : ℕ) → k ≤ number → write_of (image (part.Boot node k)) ≢ None

-- THE FILES GIVE THE ENTRY THIS DATA: it is that of the last of the node's writes that names the entry
pub record Configures (image : Image) (node : ℕ) (place : ℕ × ℕ) (bytes : List ℕ) : Type 0 where
  pub number : ℕ
  pub write : Write
  pub is_write : IsWrite image node number write
  pub is_reached : HasWritesUpTo image node number
  pub names : place_of write ≡ place
  pub gives : write.bytes ≡ bytes
  pub is_last : (later : ℕ) (other : Write) → number < later → HasWritesUpTo image node later
      → IsWrite image node later other → place_of other ≢ place

-- A DEVICE HOLDS ITS WRITES from its power-on on: each entry that they name has what they give it, but for the producer
-- heartbeat time, which isn't there
pub record HoldsItsWrites (image : Image) (node : ℕ) : Type 0 where
  pub written : (place : ℕ × ℕ) (bytes : List ℕ) → place ≢ producer_time → Configures image node place bytes
      → get (values_of (image (part.Defaults node))) place ≡ Some bytes
  pub no_time : get (values_of (image (part.Defaults node))) producer_time ≡ None
  pub no_entry : get (shape_of (image (part.Shape node))).entries producer_time ≡ None
