-- The SDO frames that are under way between the manager and a node that it boots.
use Rattle.std.specs.Prelude.{◌≡◌, ◌≢◌, ◌⊎◌, ℕ, ◌+◌, ◌<◌, ◌==◌, Bool, true, false, List, [], ◌∷◌, ◌++◌, map, Option}
use Rattle.std.specs.Prelude.{Some, None, if◌then◌else◌}
use Rattle.network_laws.specs.Boots.{IsBootUpOf}
use Rattle.can_bus.specs.declared.slot.Slot.{Slot}
use Rattle.can_frame.specs.Identifiers.{sdo_answer_id, sdo_request_id}
use Rattle.can_frame.specs.WaitingFrames.{waits_for}
use Rattle.can_frame.specs.declared.purpose.Purpose.TheVariants.{BootUp}
use Rattle.can_frame.specs.declared.waiting.Waiting.{Waiting}
use Rattle.co_device.specs.Device.{Device}
use Rattle.co_dict.specs.Values.{Values}
use Rattle.image_parts.specs.Contents.{Image, write_of}
use Rattle.image_parts.specs.declared.part.Part.TheVariants.{Boot}
use Rattle.co_sdo.specs.declared.transfer.Transfer.{Transfer}
use Rattle.sdo_client.specs.Client.{after_answer}
use Rattle.sdo_client.specs.declared.client_transfer.ClientTransfer.{ClientTransfer}
use Rattle.sdo_client.specs.declared.progress.Progress.TheVariants as progress
use Rattle.concise_dcf.specs.declared.write.Write.{Write}
use Rattle.network_laws.specs.Leaves.{answers_of}
use Rattle.image_parts.specs.Configured.{IsWrite}
use Rattle.network_laws.specs.Files.{HasData, IsExcepted}
use Rattle.concise_dcf.specs.Writes.{place_of}
use Rattle.node_boot.specs.declared.boot_stage.BootStage.{BootStage}
use Rattle.node_boot.specs.declared.boot_stage.BootStage.TheVariants.{Unseen, Comparing, Writing, Configured, Failed, Own}
use Rattle.network_laws.specs.Downloads.{IsUnderWay}

-- ---- the frame that is under way

-- none, a request to the node, or an answer of it; or nothing is said
pub data Traffic : Type 0 where
  Silence : Traffic
  Asks : List ℕ → Traffic
  Tells : List ℕ → Traffic
  Anything : Traffic

abbrev pub bytes_of : List Waiting → List (List ℕ)
bytes_of frames = map (λ w. w.frame.bytes) frames

-- the frame of an identifier on the wire
abbrev pub on_wire : ℕ → Option Slot → List (List ℕ)
on_wire id None = []
on_wire id (Some slot) = if slot.frame.id == id then slot.frame.bytes ∷ [] else []

-- the requests to a node, at the manager and on the wire
abbrev pub requests_under_way : ℕ → List Waiting → Option Slot → List (List ℕ)
requests_under_way node waiting wire = bytes_of waiting ++ on_wire (sdo_request_id node) wire

-- its answers, at the device and on the wire
abbrev pub answers_under_way : ℕ → Device → Option Slot → List (List ℕ)
answers_under_way node d wire = bytes_of (answers_of d.waiting) ++ on_wire (sdo_answer_id node) wire

abbrev pub IsTraffic : List (List ℕ) → List (List ℕ) → Traffic → Type 0
IsTraffic requests answers Silence = (requests ≡ []) × (answers ≡ [])
IsTraffic requests answers (Asks request) = (requests ≡ request ∷ []) × (answers ≡ [])
IsTraffic requests answers (Tells answer) = (requests ≡ []) × (answers ≡ answer ∷ [])
IsTraffic requests answers Anything = Unit {0}

-- ---- what the writes below a number gave

-- the data is that of the last of them that names the entry
pub record GivesBelow (image : Image) (node j : ℕ) (place : ℕ × ℕ) (bytes : List ℕ) : Type 0 where
  pub number : ℕ
  pub write : Write
  pub below : number < j
  pub is_write : IsWrite image node number write
  pub names : place_of write ≡ place
  pub gives : write.bytes ≡ bytes
  pub is_last : (later : ℕ) (other : Write) → number < later → later < j → IsWrite image node later other
      → place_of other ≢ place

-- they are all there, and each entry that they name holds the data of its last one, but for the exceptions
pub record HoldsBelow (image : Image) (node : ℕ) (marks : ℕ × ℕ → Bool) (values : Values) (j : ℕ) : Type 0 where
  pub there : (k : ℕ) → k < j → write_of (image (Boot node k)) ≢ None
  pub holds : (place : ℕ × ℕ) (bytes : List ℕ) → GivesBelow image node j place bytes
      → IsExcepted marks place ⊎ HasData values place bytes

-- ---- the stages of a boot, each with the frame that is under way

-- an answer that waits or is on the wire: where it tells the client that write j is written, the entries hold that
-- write too; where the client asks on, its next request is one of write j
pub record TellsTruth (image : Image) (node : ℕ) (marks : ℕ × ℕ → Bool) (values : Values) (transfer : Transfer) (j : ℕ)
    (write : Write) (client : ClientTransfer) (answer : List ℕ) : Type 0 where
  pub written : (after_answer client answer).progress ≡ Some progress.Written
      → HoldsBelow image node marks values (j + 1)
  pub goes_on : (next : List ℕ) → (after_answer client answer).progress ≡ Some (progress.Ask next)
      → HoldsBelow image node marks values j
      × IsUnderWay (place_of write) write.bytes (after_answer client answer).stage transfer next

-- write j is being downloaded; once its frame was dropped, only the time-out can follow
abbrev pub IsDownloaded : Image → ℕ → (ℕ × ℕ → Bool) → Values → Transfer → ℕ → ClientTransfer → Traffic → Type 0
IsDownloaded image node marks values transfer j client Silence = Unit {0}
IsDownloaded image node marks values transfer j client (Asks request) =
    (write : Write) × (IsWrite image node j write × (HoldsBelow image node marks values j
    × IsUnderWay (place_of write) write.bytes client transfer request))
IsDownloaded image node marks values transfer j client (Tells answer) =
    (write : Write) × (IsWrite image node j write
    × TellsTruth image node marks values transfer j write client answer)
IsDownloaded image node marks values transfer j client Anything = ⊥

abbrev pub IsSilence : Traffic → Type 0
IsSilence Silence = Unit {0}
IsSilence (Asks request) = ⊥
IsSilence (Tells answer) = ⊥
IsSilence Anything = ⊥

abbrev pub IsOneAtMost : Traffic → Type 0
IsOneAtMost Silence = Unit {0}
IsOneAtMost (Asks request) = Unit {0}
IsOneAtMost (Tells answer) = Unit {0}
IsOneAtMost Anything = ⊥

-- all writes of the node were written: one is absent, and the entries hold those below it
abbrev pub HoldsAll : Image → ℕ → (ℕ × ℕ → Bool) → Values → Type 0
HoldsAll image node marks values =
    (j : ℕ) × ((write_of (image (Boot node j)) ≡ None) × HoldsBelow image node marks values j)

-- THE FRAME THAT IS UNDER WAY IS AS THE STAGE HAS IT; of a boot that has failed nothing is said, and to the manager's
-- own node none is
abbrev pub IsAsStage : Image → ℕ → (ℕ × ℕ → Bool) → Values → Transfer → BootStage → Traffic → Type 0
IsAsStage image node marks values transfer Unseen traffic = IsSilence traffic
IsAsStage image node marks values transfer (Comparing place expected client deadline) traffic = IsOneAtMost traffic
IsAsStage image node marks values transfer (Writing j client deadline) traffic =
    IsDownloaded image node marks values transfer j client traffic
IsAsStage image node marks values transfer Configured traffic =
    IsSilence traffic × HoldsAll image node marks values
IsAsStage image node marks values transfer Failed traffic = Unit {0}
IsAsStage image node marks values transfer Own traffic = IsSilence traffic

-- ---- a node with power of which no boot-up message waits

-- its boot-up message is on the wire, and no answer of it waits
pub record IsBooting (node : ℕ) (d : Device) (wire : Option Slot) : Type 0 where
  pub boot_up : IsBootUpOf node wire
  pub silent : answers_of d.waiting ≡ []

-- its boot-up message isn't on the wire, and the frame that is under way is as its stage has it
pub record IsExchanging (image : Image) (node : ℕ) (marks : ℕ × ℕ → Bool) (d : Device) (stage : BootStage)
    (requests : List Waiting) (wire : Option Slot) : Type 0 where
  pub no_boot_up : IsBootUpOf node wire → ⊥
  pub traffic : Traffic
  pub is_traffic : IsTraffic (requests_under_way node requests wire) (answers_under_way node d wire) traffic
  pub is_as_stage : IsAsStage image node marks d.values d.transfer stage traffic

-- THE EXCHANGE BETWEEN THE MANAGER AND A NODE: by its device, the stage of its boot, the requests to it that wait at
-- the manager, and the wire
abbrev pub Exchanges : Image → ℕ → (ℕ × ℕ → Bool) → Device → BootStage → List Waiting → Option Slot → Type 0
Exchanges image node marks d stage requests wire =
    d.has_power ≡ true → waits_for BootUp d.waiting ≡ false
    → IsBooting node d wire ⊎ IsExchanging image node marks d stage requests wire
