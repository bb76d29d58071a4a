-- A client and a server together, with no other call between. A list of frames has those of the client, each with the
-- server's answer.
use Rattle.std.specs.Prelude.{◌≡◌, ℕ, zero, suc, List, [], ◌∷◌, Option, Some, None}
use Rattle.co_dict.specs.Shapes.{Shaped}
use Rattle.co_dict.specs.Values.{Values}
use Rattle.sdo_client.specs.declared.advance.Advance.{Advance}
use Rattle.sdo_client.specs.declared.progress.Progress.{Progress}
use Rattle.sdo_client.specs.declared.progress.Progress.TheVariants.{Ask, Written, Read, Failed}
use Rattle.sdo_client.specs.declared.client_transfer.ClientTransfer.{ClientTransfer}
use Rattle.co_sdo.specs.declared.transfer.Transfer.{Transfer}
use Rattle.co_sdo.specs.declared.transfer.Transfer.TheVariants.{Idle}
use Rattle.sdo_client.specs.Client.{after_answer, end_of_transfer}
use Rattle.co_sdo.specs.Server.{server_answer, answer_alone}

abbrev pub Frames : Type 0
Frames = List (List ℕ × List ℕ)

-- a frame is the first of the client
abbrev pub Begins : List ℕ → Frames → Type 0
Begins frame [] = ⊥
Begins frame (pair ∷ pairs) = frame ≡ pair.0

-- the client sends each further frame on the answer before it, and the last answer ends its transfer
abbrev pub Follows : ClientTransfer → Frames → Progress → Type 0
Follows stage [] progress = ⊥
Follows stage (pair ∷ []) progress = after_answer stage pair.1 ≡ end_of_transfer progress
Follows stage (pair ∷ next ∷ pairs) progress = ((after_answer stage pair.1).progress ≡ Some (Ask next.0))
    × Follows (after_answer stage pair.1).stage (next ∷ pairs) progress

-- the server gives the answers, and in the end no transfer is open and the entries have these values
abbrev pub Answers : Shaped → Values → Transfer → Frames → Values → Type 0
Answers shape values transfer [] left = (transfer ≡ Idle) × (values ≡ left)
Answers shape values transfer (pair ∷ pairs) left =
    ((server_answer shape values transfer pair.0).answer ≡ Some pair.1)
    × Answers shape (server_answer shape values transfer pair.0).values
    (server_answer shape values transfer pair.0).transfer pairs left

-- the server gives the answers and writes nothing, whatever values the entries have at each frame
abbrev pub Gives : Shaped → Transfer → Frames → Type 0
Gives shape transfer [] = transfer ≡ Idle
Gives shape transfer (pair ∷ pairs) = (next : Transfer)
    × (((values : Values) → server_answer shape values transfer pair.0 ≡ answer_alone pair.1 next values)
    × Gives shape next pairs)

-- the same, where the first frame meets these values
abbrev pub GivesOf : Shaped → Values → Transfer → Frames → Type 0
GivesOf shape values transfer [] = ⊥
GivesOf shape values transfer (pair ∷ pairs) = (next : Transfer)
    × ((server_answer shape values transfer pair.0 ≡ answer_alone pair.1 next values) × Gives shape next pairs)

-- ---- played against one another

-- what the client was told at the end of its transfer, if that was reached, and the values of the entries
pub record Outcome : Type 0 where
  pub told : Option Progress
  pub values : Values

-- the client hears an answer, if there is one
abbrev pub after_server : ClientTransfer → Option (List ℕ) → Advance
after_server stage None = record { progress = None; stage = stage }
after_server stage (Some answer) = after_answer stage answer

-- a frame to send goes on; anything else is the end
abbrev pub goes_on_with : Option Progress → Values → (List ℕ → Outcome) → Outcome
goes_on_with None values next = record { told = None; values = values }
goes_on_with (Some (Ask frame)) values next = next frame
goes_on_with (Some Written) values next = record { told = Some Written; values = values }
goes_on_with (Some (Read value)) values next = record { told = Some (Read value); values = values }
goes_on_with (Some (Failed abort frame)) values next = record { told = Some (Failed abort frame); values = values }

-- the client's frame goes to the server and the answer back, and so on, at most so many times
abbrev pub outcome_of : ℕ → Shaped → Values → Transfer → ClientTransfer → List ℕ → Outcome
outcome_of zero shape values transfer stage frame = record { told = None; values = values }
outcome_of (suc rounds) shape values transfer stage frame =
    goes_on_with (after_server stage (server_answer shape values transfer frame).answer).progress
    (server_answer shape values transfer frame).values
    (outcome_of rounds shape (server_answer shape values transfer frame).values
    (server_answer shape values transfer frame).transfer
    (after_server stage (server_answer shape values transfer frame).answer).stage)
