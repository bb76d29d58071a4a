-- A client and a server that send and answer the same frames play them.
use Rattle.std.proofs.Common.{◌≡◌, ℕ, suc, ◌<◌, List, [], ◌∷◌, length, Option, Some, Ok, refl, ap, ◌∙◌}
use Rattle.std.specs.FinMap.{insert}
use Rattle.co_dict.specs.Checks.{read_check}
use Rattle.co_dict.specs.Shapes.{Shaped}
use Rattle.co_dict.specs.Values.{Values, bytes_at}
use Rattle.co_dict.specs.WriteCheck.{write_check}
use Rattle.sdo_client.specs.declared.advance.Advance.{Advance}
use Rattle.sdo_client.specs.declared.progress.Progress.{Progress}
use Rattle.sdo_client.specs.declared.progress.Progress.TheVariants.{Read, Written}
use Rattle.sdo_client.specs.declared.client_transfer.ClientTransfer.{ClientTransfer}
use Rattle.sdo_client.specs.declared.client_transfer.ClientTransfer.TheVariants.{Uploading}
use Rattle.co_sdo.specs.declared.transfer.Transfer.{Transfer}
use Rattle.sdo_client.specs.Client.{after_answer, download_start}
use Rattle.sdo_client.specs.Exchanges.{Answers, Begins, Follows, Frames, Gives, GivesOf, Outcome, goes_on_with}
use Rattle.sdo_client.specs.Exchanges.{after_server, outcome_of}
use Rattle.co_sdo.specs.Frames.{download_frames, upload_frames, upload_request}
use Rattle.co_sdo.specs.Server.{server_answer}
use Rattle.sdo_client.proofs.DownloadLaws.{answers_one, client_downloads, server_downloads}
use Rattle.sdo_client.proofs.UploadLaws.{client_uploads, server_uploads}

module _ (shape : Shaped) (progress : Progress)
    (last : (values : Values) (next : List ℕ → Outcome)
    → goes_on_with (Some progress) values next ≡ record { told = Some progress; values = values }) where
  -- a round whose answer is known
  round : (rounds : ℕ) (values : Values) (transfer : Transfer) (stage : ClientTransfer) (frame answer : List ℕ)
      → (server_answer shape values transfer frame).answer ≡ Some answer
      → outcome_of (suc rounds) shape values transfer stage frame
      ≡ goes_on_with (after_answer stage answer).progress (server_answer shape values transfer frame).values
      (outcome_of rounds shape (server_answer shape values transfer frame).values
      (server_answer shape values transfer frame).transfer (after_answer stage answer).stage)
  round rounds values transfer stage frame answer e =
      ap (λ (o : Option (List ℕ)). goes_on_with (after_server stage o).progress
      (server_answer shape values transfer frame).values
      (outcome_of rounds shape (server_answer shape values transfer frame).values
      (server_answer shape values transfer frame).transfer (after_server stage o).stage)) e

  play : (pairs : Frames) (values left : Values) (transfer : Transfer) (stage : ClientTransfer) (frame : List ℕ)
      → Begins frame pairs → Follows stage pairs progress → Answers shape values transfer pairs left
      → outcome_of (length pairs) shape values transfer stage frame ≡ record { told = Some progress; values = left }
  play [] values left transfer stage frame b f a = absurd b
  play (pair ∷ []) values left transfer stage frame b f a =
      ap (outcome_of 1 shape values transfer stage) b
      ∙ round 0 values transfer stage pair.0 pair.1 a.0
      ∙ ap (λ (advance : Advance). goes_on_with advance.progress (server_answer shape values transfer pair.0).values
      (outcome_of 0 shape (server_answer shape values transfer pair.0).values
      (server_answer shape values transfer pair.0).transfer advance.stage)) f
      ∙ last (server_answer shape values transfer pair.0).values _
      ∙ ap (λ (v : Values). record { told = Some progress; values = v }) a.1.1
  play (pair ∷ next ∷ pairs) values left transfer stage frame b f a =
      ap (outcome_of (suc (length (next ∷ pairs))) shape values transfer stage) b
      ∙ round (length (next ∷ pairs)) values transfer stage pair.0 pair.1 a.0
      ∙ ap (λ (o : Option Progress). goes_on_with o (server_answer shape values transfer pair.0).values
      (outcome_of (length (next ∷ pairs)) shape (server_answer shape values transfer pair.0).values
      (server_answer shape values transfer pair.0).transfer (after_answer stage pair.1).stage)) f.0
      ∙ play (next ∷ pairs)
      (server_answer shape values transfer pair.0).values left (server_answer shape values transfer pair.0).transfer
      (after_answer stage pair.1).stage next.0 refl f.1 a.1

-- a download of an accepted value, with no other call between
pub download_played : (shape : Shaped) (values : Values) (transfer : Transfer) (place : ℕ × ℕ) (value : List ℕ)
    → place.0 < 0x10000 → write_check shape values place value ≡ Ok tt
    → outcome_of (length (download_frames place value)) shape values transfer (download_start place value).1
    (download_start place value).0
    ≡ record { told = Some Written; values = insert values place value }
download_played shape values transfer place value index passed =
    let client = client_downloads place value index in
    play shape Written (λ v next. refl)
    (download_frames place value) values (insert values place value) transfer (download_start place value).1
    (download_start place value).0
    client.0 client.1 (server_downloads place value index shape values transfer passed)

given_answers : (shape : Shaped) (values : Values) (transfer : Transfer) (pairs : Frames) → Gives shape transfer pairs
    → Answers shape values transfer pairs values
given_answers shape values transfer [] h = (h, refl)
given_answers shape values transfer (pair ∷ pairs) h =
    answers_one shape values transfer pair pairs values _ (h.1.0 values) refl
    (given_answers shape values h.0 pairs h.1.1)

given_first : (shape : Shaped) (values : Values) (transfer : Transfer) (pairs : Frames)
    → GivesOf shape values transfer pairs → Answers shape values transfer pairs values
given_first shape values transfer [] h = absurd h
given_first shape values transfer (pair ∷ pairs) h =
    answers_one shape values transfer pair pairs values _ h.1.0 refl (given_answers shape values h.0 pairs h.1.1)

-- an upload of a value that may be read, with no other call between
pub upload_played : (shape : Shaped) (values : Values) (transfer : Transfer) (place : ℕ × ℕ) (value : List ℕ)
    → place.0 < 0x10000 → length value < 0x100000000
    → read_check shape place ≡ Ok tt → bytes_at values place ≡ value
    → outcome_of (length (upload_frames place value)) shape values transfer (Uploading place) (upload_request place)
    ≡ record { told = Some (Read value); values = values }
upload_played shape values transfer place value index size passed held =
    let client = client_uploads place value index size in
    play shape (Read value) (λ v next. refl) (upload_frames place value) values values transfer (Uploading place)
    (upload_request place)
    client.0 client.1 (given_first shape values transfer (upload_frames place value)
    (server_uploads place value index shape values transfer passed held))
