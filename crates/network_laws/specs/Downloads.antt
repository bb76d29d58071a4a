-- A download of a value to an entry, request by request: the client that waits for the answer, and the server that has
-- not had the request.
use Rattle.std.specs.Prelude.{◌≡◌, ℕ, Bool, true, List, ◌++◌, length, Some, None}
use Rattle.std.specs.FinMap.{insert}
use Rattle.co_dict.specs.Values.{Values}
use Rattle.co_sdo.specs.Frames.{expedited_download, is_expedited, next_segment, segmented_download}
use Rattle.co_sdo.specs.Server.{AfterRequest}
use Rattle.co_sdo.specs.declared.transfer.Transfer.{Transfer}
use Rattle.co_sdo.specs.declared.transfer.Transfer.TheVariants.{Idle, Download, Upload}
use Rattle.sdo_client.specs.Client.{after_answer}
use Rattle.sdo_client.specs.declared.client_transfer.ClientTransfer.{ClientTransfer}
use Rattle.sdo_client.specs.declared.client_transfer.ClientTransfer.TheVariants as client
use Rattle.sdo_client.specs.declared.progress.Progress.TheVariants.{Ask, Written}

-- the request whose answer the client awaits at a stage of the download of a value to an entry
abbrev pub IsRequest : ℕ × ℕ → List ℕ → ClientTransfer → List ℕ → Type 0
IsRequest place value client.Idle request = ⊥
IsRequest place value (client.Downloading entry) request =
    (entry ≡ place) × ((is_expedited value ≡ true) × (request ≡ expedited_download place value))
IsRequest place value (client.Offering entry rest) request =
    (entry ≡ place) × ((rest ≡ value) × (request ≡ segmented_download place (length value)))
IsRequest place value (client.SendingSegments entry rest toggle) request =
    (entry ≡ place) × (request ≡ next_segment toggle rest)
IsRequest place value (client.Uploading entry) request = ⊥
IsRequest place value (client.TakingSegments entry size taken toggle) request = ⊥

-- the server awaits the segment from which on a value has these bytes left: it has taken those before, or it has
-- dropped its transfer
abbrev pub AwaitsSegment : ℕ × ℕ → List ℕ → List ℕ → Bool → Transfer → Type 0
AwaitsSegment place value rest toggle Idle = Unit {0}
AwaitsSegment place value rest toggle (Download entry size taken next) =
    (entry ≡ place) × ((next ≡ toggle) × (taken ++ rest ≡ value))
AwaitsSegment place value rest toggle (Upload entry left next) = ⊥

-- the transfer of a server that awaits the request of this stage; an initiate replaces whatever it has open
abbrev pub Awaits : ℕ × ℕ → List ℕ → ClientTransfer → Transfer → Type 0
Awaits place value client.Idle transfer = ⊥
Awaits place value (client.Downloading entry) transfer = Unit {0}
Awaits place value (client.Offering entry rest) transfer = Unit {0}
Awaits place value (client.SendingSegments entry rest toggle) transfer = AwaitsSegment place value rest toggle transfer
Awaits place value (client.Uploading entry) transfer = ⊥
Awaits place value (client.TakingSegments entry size taken toggle) transfer = ⊥

-- A REQUEST OF THE DOWNLOAD IS UNDER WAY: the client awaits its answer, and the server awaits the request
pub record IsUnderWay (place : ℕ × ℕ) (value : List ℕ) (stage : ClientTransfer) (transfer : Transfer)
    (request : List ℕ) : Type 0 where
  pub asked : IsRequest place value stage request
  pub awaited : Awaits place value stage transfer

-- the server has stored the value in the entry, and changed nothing else
pub record Stores (place : ℕ × ℕ) (value : List ℕ) (values : Values) (after : AfterRequest) : Type 0 where
  pub wrote : after.wrote ≡ Some place
  pub stored : after.values ≡ insert values place value

-- the server has stored nothing
pub record StoresNothing (values : Values) (after : AfterRequest) : Type 0 where
  pub wrote : after.wrote ≡ None
  pub kept : after.values ≡ values

-- WHAT THE SERVER DID, once it has had the request and this is its answer: where the answer tells the client that the
-- download is written, the server has stored the value; where the client asks on, the server has stored nothing, and
-- the next request of the download is under way
pub record IsAnswered (place : ℕ × ℕ) (value : List ℕ) (stage : ClientTransfer) (values : Values) (after : AfterRequest)
    (answer : List ℕ) : Type 0 where
  pub written : (after_answer stage answer).progress ≡ Some Written → Stores place value values after
  pub goes_on : (next : List ℕ) → (after_answer stage answer).progress ≡ Some (Ask next)
      → StoresNothing values after
      × IsUnderWay place value (after_answer stage answer).stage after.transfer next
